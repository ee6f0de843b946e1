-- `soundness::gone_ok` meets its contract.
use Prim.Native.Nat.{◌≤◌}
use borrow.Author.Rules.{rules}
use native.Mathlib.Omega.{arith}
use lib.ListN.{get_or}
use Rattle.lists.proofs.Answers.{all_no, all_yes}
use Rattle.rows.specs.Rows.{removals}
use Rattle.places.specs.Places.{ring_of}
use Rattle.soundness.proofs.Ringing.{list_says}
use Rattle.soundness.proofs.gone_ok.Goals as goal

pub returns-then-le : goal.returns-then-le
returns-then-le c =
    let late : c.args.version.0 ≤ removals c.args.rows.now (get_or (ring_of c.args.rows.now c.args.cap) c.loop-i.i 0) = search rules in
    list_says _ _ _ _ _ c.requires.1 (all_no _ c.loop-i-test.true (λ h. omega (arith, h c.loop-i.auto.i, late)))

pub returns : goal.returns
returns c = list_says _ _ _ _ _ c.requires.1 (all_yes _ c.loop-i-test.false c.loop-i.invariant)
