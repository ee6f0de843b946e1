-- `buckets::find` meets its contract.
use mathlib.Core.Path.{◌≡◌}
use Prim.Native.Nat.{◌≤◌}
use lib.ListN.{length}
use Rattle.rows.specs.Rows.{chains}
use Rattle.buckets.specs.Chains.{nth, chain_from, Ends}
use Rattle.buckets.specs.Finding.{seek, found}
use Rattle.buckets.proofs.find.Given as goal

abbrev pub invariant-loop-n : goal.invariant-loop-n
invariant-loop-n l = (l.n ≤ l.cap) × (Ends (chains l.rows) l.cap l.n × (seek (nth l.keys) l.rank (chain_from (chains l.rows) l.cap l.n) ≡ found l.keys l.rows l.buckets l.cap l.rank))

abbrev pub decreases-loop-n : goal.decreases-loop-n
decreases-loop-n l = length (chain_from (chains l.rows) l.cap l.n)
