-- `schedule::prepare` meets its contract.
use Rattle.std.proofs.Common.{arith, ◌∙◌}
use Rattle.schedule.proofs.Preparing.{prepared}
use Rattle.schedule.proofs.prepare.Goals as goal

pub returns : goal.returns
returns c =
    let made = rw (c.split_at.ensures.front, c.split_at-2.ensures.front, c.split_at_mut.ensures.front, c.split_at_mut-2.ensures.front) at c.set_up.ensures in
    rw (c.split_at_mut.ensures.back, c.split_at_mut-2.ensures.back)
    (prepared c.args.capacity c.args.start c.args.session.now (record { keyed = omega arith; valued = omega arith; rowed = omega arith; bucketed = omega arith }) c.lengths_of-lengths.ensures made
    (c.set_up.auto.rows ∙ c.split_at_mut.ensures.front_len)
    (c.set_up.auto.buckets ∙ c.split_at_mut-2.ensures.front_len))
