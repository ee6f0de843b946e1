-- `calls::tally` meets its contract.
use Rattle.std.specs.Prelude.{Ok}
use mathlib.Core.Path.{refl, ap}
use native.Mathlib.Omega.{arith}
use Rattle.tables.proofs.Telling.{sound_capacity}
use Rattle.finds.proofs.TallyLaw.{tally_ready, tally_meets}
use Rattle.lists.proofs.Answers.{passed}
use Rattle.soundness.specs.Tested.{lent}
use Rattle.calls.proofs.Entering.{refusing, making}
use Rattle.calls.proofs.tally.Goals as goal

pub returns-else-sound : goal.returns-else-sound
returns-else-sound c = refusing c.sound.ensures c.if-sound.false

pub overflow_cast-keys : goal.overflow_cast-keys
overflow_cast-keys c = omega (arith, (sound_capacity (lent c.args.keys.now c.args.values.now c.args.rows.now c.args.buckets.now c.args.tickets.now c.args.coordinator) (passed c.sound.ensures c.if-sound.true)).most)

pub tally-requires : goal.tally-requires
tally-requires c = tally_ready (lent c.args.keys.now c.args.values.now c.args.rows.now c.args.buckets.now c.args.tickets.now c.args.coordinator) (passed c.sound.ensures c.if-sound.true)

pub returns-then-sound : goal.returns-then-sound
returns-then-sound c =
    let t = (lent c.args.keys.now c.args.values.now c.args.rows.now c.args.buckets.now c.args.tickets.now c.args.coordinator) in
    let S = passed c.sound.ensures c.if-sound.true in
    making c.sound.ensures c.if-sound.true refl (ap Ok c.tally.ensures) (tally_meets t S)
