-- `calls::open_range` meets its contract.
use mathlib.Core.Path.{ap}
use mir.Syntax.{w64}
use mir.ValLaws.{to_z-of_z}
use Rattle.ranges.proofs.OpenLaw.{open_ready, open_meets}
use Rattle.std.specs.Prelude.{is_ok}
use Rattle.lists.proofs.Answers.{passed}
use Rattle.soundness.specs.Tested.{lent}
use Rattle.calls.proofs.Entering.{refused_by, making}
use Rattle.calls.proofs.open_range.Goals as goal

pub returns-in_err-tested : goal.returns-in_err-tested
returns-in_err-tested c = refused_by c.tested.ensures.says c.tested.ensures.refusal c.in_err-tested.was c.from_residual.ensures.1

pub open_range-requires : goal.open_range-requires
open_range-requires c = open_ready (lent c.args.keys.now c.args.values.now c.args.rows.now c.args.buckets.now c.args.tickets.now c.args.coordinator.now) (passed c.tested.ensures.says (ap is_ok c.in_ok-tested.was))

pub returns : goal.returns
returns c =
    let a = c.args in
    let t = (lent a.keys.now a.values.now a.rows.now a.buckets.now a.tickets.now a.coordinator.now) in
    let S = passed c.tested.ensures.says (ap is_ok c.in_ok-tested.was) in
    let e = rw (to_z-of_z w64 a.low c.ranges.low, to_z-of_z w64 a.high c.ranges.high) at c.open_range.ensures in
    making c.tested.ensures.says (ap is_ok c.in_ok-tested.was) (rw (e.tickets, e.coordinator)) e.answer (open_meets t S a.low a.high c.ranges.low c.ranges.high)
