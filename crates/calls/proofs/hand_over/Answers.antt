-- `calls::hand_over` meets its contract.
use mathlib.Core.Path.{ap}
use native.Mathlib.Omega.{arith}
use Rattle.tables.proofs.Telling.{sound_capacity}
use Rattle.returns.proofs.HandLaw.{hand_ready, hand_meets}
use Rattle.std.specs.Prelude.{is_ok}
use Rattle.lists.proofs.Answers.{passed}
use Rattle.soundness.specs.Tested.{lent}
use Rattle.calls.proofs.Entering.{refused_by, making}
use Rattle.calls.proofs.hand_over.Goals as goal

pub returns-in_err-tested : goal.returns-in_err-tested
returns-in_err-tested c = refused_by c.tested.ensures.says c.tested.ensures.refusal c.in_err-tested.was c.from_residual.ensures.1

pub overflow_cast-keys : goal.overflow_cast-keys
overflow_cast-keys c = omega (arith, (sound_capacity (lent c.args.keys.now c.args.values.now c.args.rows.now c.args.buckets.now c.args.tickets.now c.args.coordinator) (passed c.tested.ensures.says (ap is_ok c.in_ok-tested.was))).most)

pub hand_over-requires : goal.hand_over-requires
hand_over-requires c = hand_ready (lent c.args.keys.now c.args.values.now c.args.rows.now c.args.buckets.now c.args.tickets.now c.args.coordinator) (passed c.tested.ensures.says (ap is_ok c.in_ok-tested.was))

pub returns : goal.returns
returns c =
    let a = c.args in
    let t = (lent a.keys.now a.values.now a.rows.now a.buckets.now a.tickets.now a.coordinator) in
    let S = passed c.tested.ensures.says (ap is_ok c.in_ok-tested.was) in
    let e = c.hand_over.ensures in
    making c.tested.ensures.says (ap is_ok c.in_ok-tested.was) (rw (e.cells, e.tickets)) e.answer (hand_meets t S a.node.0)
