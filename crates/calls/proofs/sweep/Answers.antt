-- `calls::sweep` meets its contract.
use Rattle.std.specs.Prelude.{Ok}
use mathlib.Core.Path.{ap}
use native.Mathlib.Omega.{arith}
use Rattle.tables.proofs.Telling.{sound_capacity}
use Rattle.returns.proofs.SweepLaw.{sweep_ready, sweep_meets}
use Rattle.lists.proofs.Answers.{passed}
use Rattle.soundness.specs.Tested.{lent}
use Rattle.calls.proofs.Entering.{refusing, making}
use Rattle.calls.proofs.sweep.Goals as goal

pub returns-else-sound : goal.returns-else-sound
returns-else-sound c = refusing c.sound.ensures c.if-sound.false

pub overflow_cast-keys : goal.overflow_cast-keys
overflow_cast-keys c = omega (arith, (sound_capacity (lent c.args.keys.now c.args.values.now c.args.rows.now c.args.buckets.now c.args.tickets.now c.args.coordinator.now) (passed c.sound.ensures c.if-sound.true)).most)

pub sweep_one-requires : goal.sweep_one-requires
sweep_one-requires c = sweep_ready (lent c.args.keys.now c.args.values.now c.args.rows.now c.args.buckets.now c.args.tickets.now c.args.coordinator.now) (passed c.sound.ensures c.if-sound.true)

pub returns-then-sound : goal.returns-then-sound
returns-then-sound c =
    let a = c.args in
    let t = (lent a.keys.now a.values.now a.rows.now a.buckets.now a.tickets.now a.coordinator.now) in
    let S = passed c.sound.ensures c.if-sound.true in
    let e = c.sweep_one.ensures in
    making c.sound.ensures c.if-sound.true (rw (e.cells, e.coordinator)) (ap Ok e.answer) (sweep_meets t S)
