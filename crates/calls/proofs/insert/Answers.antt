-- `calls::insert` meets its contract.
use mathlib.Core.Path.{ap}
use mir.Syntax.{w64}
use mir.ValLaws.{to_z-of_z}
use Rattle.changes.proofs.InsertLaw.{insert_ready, insert_cells, insert_meets}
use Rattle.std.specs.Prelude.{is_ok}
use Rattle.lists.proofs.Answers.{passed}
use Rattle.soundness.specs.Tested.{lent}
use Rattle.calls.proofs.Entering.{refused_by, making}
use Rattle.calls.proofs.insert.Goals as goal

pub returns-in_err-tested : goal.returns-in_err-tested
returns-in_err-tested c = refused_by c.tested.ensures.says c.tested.ensures.refusal c.in_err-tested.was c.from_residual.ensures.1

pub insert-requires : goal.insert-requires
insert-requires c = insert_ready (lent c.args.keys.now c.args.values.now c.args.rows.now c.args.buckets.now c.args.tickets.now c.args.coordinator) (passed c.tested.ensures.says (ap is_ok c.in_ok-tested.was))

pub returns : goal.returns
returns c =
    let a = c.args in
    let t = (lent a.keys.now a.values.now a.rows.now a.buckets.now a.tickets.now a.coordinator) in
    let S = passed c.tested.ensures.says (ap is_ok c.in_ok-tested.was) in
    let e = rw (to_z-of_z w64 a.key c.ranges.key, to_z-of_z w64 a.value c.ranges.value) at c.insert.ensures in
    making c.tested.ensures.says (ap is_ok c.in_ok-tested.was) (insert_cells t a.key a.value a.coin _ _ _ _ _ e) e.answer (insert_meets t S a.key a.value a.coin c.ranges.key)
