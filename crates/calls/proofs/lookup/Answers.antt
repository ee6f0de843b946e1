-- `calls::lookup` meets its contract.
use mathlib.Core.Path.{ap, refl, ◌∙◌}
use mir.Syntax.{w64}
use mir.ValLaws.{to_z-of_z}
use Rattle.finds.proofs.LookupLaw.{lookup_ready, lookup_meets}
use Rattle.std.specs.Prelude.{is_ok}
use Rattle.lists.proofs.Answers.{passed}
use Rattle.soundness.specs.Tested.{lent}
use Rattle.calls.proofs.Entering.{refused_by, making}
use Rattle.calls.proofs.lookup.Goals as goal

pub returns-in_err-tested : goal.returns-in_err-tested
returns-in_err-tested c = refused_by c.tested.ensures.says c.tested.ensures.refusal c.in_err-tested.was c.from_residual.ensures.1

pub lookup-requires : goal.lookup-requires
lookup-requires c = lookup_ready (lent c.args.keys.now c.args.values.now c.args.rows.now c.args.buckets.now c.args.tickets.now c.args.coordinator) (passed c.tested.ensures.says (ap is_ok c.in_ok-tested.was))

pub returns : goal.returns
returns c =
    let t = (lent c.args.keys.now c.args.values.now c.args.rows.now c.args.buckets.now c.args.tickets.now c.args.coordinator) in
    let S = passed c.tested.ensures.says (ap is_ok c.in_ok-tested.was) in
    making c.tested.ensures.says (ap is_ok c.in_ok-tested.was) refl (c.lookup.ensures ∙ rw (to_z-of_z w64 c.args.key c.ranges.key)) (lookup_meets t S c.args.key c.ranges.key)
