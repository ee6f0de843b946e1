-- `levels::nearest` meets its contract. The invariant: the walk stands on the level, and the answer from there is that from the start.
use mathlib.Core.Path.{sym, ◌∙◌}
use native.Mathlib.Omega.{arith}
use Rattle.levels.proofs.Nearing.{walk_less, walk_on, nearest_here, nearest_on, nearest_end}
use Rattle.levels.proofs.nearest.Goals as goal

pub returns-then-cell-eq-IS_PRESENT : goal.returns-then-cell-eq-IS_PRESENT
returns-then-cell-eq-IS_PRESENT c = nearest_here _ _ _ _ c.loop-m.invariant.0 (omega arith) (sym c.cell.ensures ∙ c.if-cell-eq-IS_PRESENT.true) ∙ c.loop-m.invariant.1

pub loop-m-smaller : goal.loop-m-smaller
loop-m-smaller c = rw c.link-m.ensures (walk_less _ _ _ _ c.loop-m.invariant.0 (omega arith))

pub loop-m-preserved : goal.loop-m-preserved
loop-m-preserved c =
    rw c.link-m.ensures (
      walk_on _ _ _ _ c.loop-m.invariant.0 (omega arith),
      nearest_on _ _ _ _ c.loop-m.invariant.0 (omega arith) (λ e. c.if-cell-eq-IS_PRESENT.false (c.cell.ensures ∙ e)) ∙ c.loop-m.invariant.1,
    )

pub returns : goal.returns
returns c = nearest_end _ _ _ _ c.loop-m.invariant.0 (omega arith) ∙ c.loop-m.invariant.1
