-- `schedule::part_turn` meets its contract.
use Rattle.std.proofs.Common.{arith, refl, ◌∙◌, length}
use Rattle.schedule.specs.Turns.{Rooms}
use Rattle.schedule.proofs.Turning.{Leaves, part_leaves, part_by}
use Rattle.schedule.proofs.part_turn.Goals as goal
use Rattle.schedule.proofs.part_turn.Goals.{After-run_part-part}

rooms : (c : After-run_part-part) → Rooms (length c.args.input.now) (length c.args.buffers.now.answers) (length c.args.buffers.now.out_keys) (length c.args.buffers.now.out_values) (length c.args.buffers.now.out)
rooms c = record { holds = omega arith; cells = omega arith; for_keys = omega arith; for_values = omega arith; lines = omega arith }

leaves : (c : After-run_part-part) → Leaves c.args.session.now c.run_part-part.result.batch c.run_part-part.new.out c.run_part-part.result.length
leaves c = let run = c.run_part-part in part_leaves c.args.input.now run.ensures c.requires (rooms c) run.auto.answers run.auto.out_keys run.auto.out_values run.auto.out

pub overflow_add-session : goal.overflow_add-session
overflow_add-session c = record { fits = (leaves (goal.at.overflow_add-session c).After-run_part-part).counted }

pub put_last-requires : goal.put_last-requires
put_last-requires c = let x = leaves (goal.at.put_last-requires c).After-run_part-part in (x.room, x.within)

pub returns : goal.returns
returns c =
    let x = (goal.at.returns c).After-run_part-part in
    let run = c.run_part-part in
    let printed = rw (c.split_at_mut.ensures.front, c.split_at_mut-2.ensures.front, c.split_at_mut-3.ensures.front, c.split_at_mut-4.ensures.front) at run.ensures in
    rw (c.split_at_mut.ensures.back, c.split_at_mut-2.ensures.back, c.split_at_mut-3.ensures.back, c.split_at_mut-4.ensures.back, c.drop_front-session.ensures, c.next_of.ensures) (
      part_by (rooms x) printed c.put_last.ensures (c.put_last.auto.out ∙ run.auto.out) (run.auto.keys ∙ c.split_at_mut.ensures.front_len) (run.auto.values ∙ c.split_at_mut-2.ensures.front_len)
          (run.auto.rows ∙ c.split_at_mut-3.ensures.front_len) (run.auto.buckets ∙ c.split_at_mut-4.ensures.front_len),
      (leaves x).goes refl refl refl refl,
    )
