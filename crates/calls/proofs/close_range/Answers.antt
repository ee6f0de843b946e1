-- `calls::close_range` meets its contract.
use mathlib.Core.Path.{ap}
use Rattle.ranges.proofs.CloseLaw.{close_ready, close_meets}
use Rattle.std.specs.Prelude.{is_ok}
use Rattle.lists.proofs.Answers.{passed}
use Rattle.soundness.specs.Tested.{lent}
use Rattle.calls.proofs.Entering.{refused_by, making}
use Rattle.calls.proofs.close_range.Goals as goal

pub returns-in_err-tested : goal.returns-in_err-tested
returns-in_err-tested c = refused_by c.tested.ensures.says c.tested.ensures.refusal c.in_err-tested.was c.from_residual.ensures.1

pub close_range-requires : goal.close_range-requires
close_range-requires c = close_ready (lent c.args.keys.now c.args.values.now c.args.rows.now c.args.buckets.now c.args.tickets.now c.args.coordinator.now) (passed c.tested.ensures.says (ap is_ok c.in_ok-tested.was))

pub returns : goal.returns
returns c =
    let a = c.args in
    let t = (lent a.keys.now a.values.now a.rows.now a.buckets.now a.tickets.now a.coordinator.now) in
    let S = passed c.tested.ensures.says (ap is_ok c.in_ok-tested.was) in
    let e = c.close_range.ensures in
    making c.tested.ensures.says (ap is_ok c.in_ok-tested.was) (rw (e.tickets, e.coordinator)) e.answer (close_meets t S a.version.0)
