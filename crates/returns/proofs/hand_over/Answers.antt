-- `returns::hand_over` meets its contract: one law for each return.
use Rattle.std.specs.Prelude.{Ok, Err}
use Rattle.model.specs.declared.Refusal.TheVariants.{NodeNotPending}
use Rattle.model.specs.declared.Handed.TheVariants.{Freed, Held}
use native.Mathlib.Omega.{arith}
use Rattle.std.proofs.lemmas.Bool.Decides.{nat_tests}
use mathlib.Core.Path.{refl, sym, ◌∙◌}
use Rattle.returns.proofs.HandCases.{handed, case_far, case_other, case_none, case_new, case_old}
use Rattle.returns.proofs.hand_over.Goals as goal
use Rattle.returns.proofs.hand_over.Goals.{then-n-cap-via-then-n-cap, then-n-cap-via-else-n-cap+then-cell-ne-IS_PENDING}

pub returns-then-n-cap : goal.returns-then-n-cap
returns-then-n-cap c =
    let a = c.args in
    handed a.rows.now a.cap a.tickets.now a.ranges a.node.0 (Err NodeNotPending)
    (elim c.then-n-cap.branch [
      | then-n-cap-via-then-n-cap w ↦ case_far _ _ _ _ _ w.if-n-cap.true
      | then-n-cap-via-else-n-cap+then-cell-ne-IS_PENDING w ↦ case_other _ _ _ _ _ w.if-n-cap.false (λ e. w.if-cell-ne-IS_PENDING.true (w.cell.ensures ∙ e))
    ]) refl refl

pub returns-then-ranges-eq0 : goal.returns-then-ranges-eq0
returns-then-ranges-eq0 c =
    let a = c.args in
    handed a.rows.now a.cap a.tickets.now a.ranges a.node.0 (Ok Freed)
    (case_none _ _ _ _ _ c.if-n-cap.false (sym c.cell.ensures ∙ c.if-cell-ne-IS_PENDING.false) c.if-ranges-eq0.true) c.free_node.ensures refl

pub returns-then-le : goal.returns-then-le
returns-then-le c =
    let a = c.args in
    handed a.rows.now a.cap a.tickets.now a.ranges a.node.0 (Ok Freed)
    (case_new _ _ _ _ _ c.if-n-cap.false (sym c.cell.ensures ∙ c.if-cell-ne-IS_PENDING.false) c.if-ranges-eq0.false
    (grind (arith, nat_tests))) c.free_node-then-le.ensures refl

pub returns : goal.returns
returns c =
    let a = c.args in
    handed a.rows.now a.cap a.tickets.now a.ranges a.node.0 (Ok Held)
    (case_old _ _ _ _ _ c.if-n-cap.false (sym c.cell.ensures ∙ c.if-cell-ne-IS_PENDING.false) c.if-ranges-eq0.false
    (grind (arith, nat_tests))) c.retire.ensures refl
