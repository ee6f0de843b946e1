-- `levels::search` meets its contract.
use mathlib.Core.Path.{◌≡◌, refl}
use mathlib.Core.Logic.{inl, inr}
use native.Mathlib.Omega.{arith}
use lib.ListN.{get_or-replicate}
use Rattle.levels.specs.Stitch.{pair}
use Rattle.levels.proofs.Searching.{going_start, going_step, going_down, searched_all}
use Rattle.levels.proofs.search.Goals as goal
use Rattle.levels.proofs.search.Goals.{then-loop-m-test+else-keys-m, else-loop-m-test}

pub loop-l-init : goal.loop-l-init
loop-l-init c = going_start _ _ _ _ _ c.requires _ refl (λ j v. get_or-replicate 12 j (pair 0 0) (pair 0 0) v)

pub loop-m-smaller : goal.loop-m-smaller
loop-m-smaller c = (going_step _ _ _ _ _ c.requires _ _ _ _ c.loop-m.invariant.0 c.loop-m.invariant.1 c.loop-m-test.true c.if-keys-m.true).1

pub loop-m-preserved : goal.loop-m-preserved
loop-m-preserved c = ((going_step _ _ _ _ _ c.requires _ _ _ _ c.loop-m.invariant.0 c.loop-m.invariant.1 c.loop-m-test.true c.if-keys-m.true).0, c.link-m-in-loop-m.ensures)

pub loop-l-preserved : goal.loop-l-preserved
loop-l-preserved c =
    going_down _ _ _ _ _ c.requires _ _ _ _ c.loop-m.invariant.0 c.loop-m.invariant.1
    (elim c.loop-m-test.branch [ then-loop-m-test+else-keys-m w ↦ inr w.if-keys-m.false | else-loop-m-test w ↦ inl w.loop-m-test.false ])

pub returns : goal.returns
returns c =
    let e : c.loop-l.l ≡ 0 = omega arith in
    searched_all _ _ _ _ _ c.requires _ _ (rw e at c.loop-l.invariant)
