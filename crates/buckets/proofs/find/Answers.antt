-- `buckets::find` meets its contract.
use mathlib.Core.Path.{ap, ◌∙◌}
use Prim.Native.Nat.{ℕ}
use native.Mathlib.Omega.{arith}
use lib.ListN.{length}
use Rattle.buckets.specs.Finding.{found}
use Rattle.buckets.proofs.Chains.{moved, headed}
use Rattle.buckets.proofs.Walks.{seek_here, seek_more, seek_none}
use Rattle.buckets.proofs.find.Goals as goal

pub loop-n-init : goal.loop-n-init
unfolding found
loop-n-init c =
    let q = c.bucket_of-b in
    let h = c.requires.chained.ends q.result q.ensures.1 in
    (headed _ _ h, (h, rw q.ensures.0))

pub returns-then-keys-n : goal.returns-then-keys-n
returns-then-keys-n c =
    let v = c.loop-n in
    seek_here _ _ _ _ (moved _ _ v.invariant.1.0 c.loop-n-test.true) c.if-keys-n.true ∙ v.invariant.1.1

pub loop-n-smaller : goal.loop-n-smaller
loop-n-smaller c = rw c.cell-n.ensures (omega (arith, ap (length {A = ℕ}) (moved _ _ c.loop-n.invariant.1.0 c.loop-n-test.true).now))

pub loop-n-preserved : goal.loop-n-preserved
loop-n-preserved c =
    let v = c.loop-n in
    let m = moved _ _ v.invariant.1.0 c.loop-n-test.true in
    rw c.cell-n.ensures (headed _ _ m.then, (m.then, seek_more _ _ _ _ m c.if-keys-n.false ∙ v.invariant.1.1))

pub returns : goal.returns
returns c = seek_none _ _ _ _ (omega arith) ∙ c.loop-n.invariant.1.1
