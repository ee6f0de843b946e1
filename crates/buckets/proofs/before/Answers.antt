-- `buckets::before` meets its contract.
use mathlib.Core.Path.{refl, sym, ◌∙◌}
use Rattle.buckets.proofs.Walks.{ahead, prior_next, prior_less, prior_more, prior_end}
use Rattle.buckets.proofs.before.Goals as goal

pub loop-cap-init : goal.loop-cap-init
loop-cap-init c = (ahead _ _ _ c.requires.0.ends c.requires.0.met c.requires.1, refl)

pub returns-then-next-n : goal.returns-then-next-n
returns-then-next-n c =
    let v = c.loop-cap.invariant in
    (prior_end _ _ _ v.0 (sym c.cell-next.ensures ∙ c.if-next-n.true) ∙ v.1, v.0.node)

pub loop-cap-smaller : goal.loop-cap-smaller
loop-cap-smaller c = rw c.cell-next.ensures (prior_less _ _ _ c.loop-cap.invariant.0)

pub loop-cap-preserved : goal.loop-cap-preserved
loop-cap-preserved c =
    let v = c.loop-cap.invariant in
    let e = c.cell-next.ensures in
    rw e (
      prior_next _ _ _ v.0 (λ q. c.if-next-n.false (e ∙ q)),
      prior_more _ _ _ v.0 (λ q. c.if-next-n.false (e ∙ q)) ∙ v.1,
    )
