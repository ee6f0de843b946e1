-- `sizes::bucket_of` meets its contract.
use mathlib.Core.Path.{◌≡◌, ◌∙◌}
use native.Mathlib.Nat.{mod-lt}
use native.Mathlib.Omega.{arith}
use Rattle.sizes.proofs.Ranking.{bucket_pattern}
use Rattle.sizes.proofs.bucket_of.Goals as goal

pub returns-then-m-eq5857 : goal.returns-then-m-eq5857
returns-then-m-eq5857 c =
    let m : c.args.n ≡ 5857 = c.if-m-eq5857.true in
    (rw m (bucket_pattern _ _ 5857 c.pattern-p.ensures), omega arith)

pub returns : goal.returns
returns c =
    let e = c.remainder.ensures in
    (e ∙ bucket_pattern _ _ _ c.pattern-p.ensures, rw e (mod-lt _ c.requires))
