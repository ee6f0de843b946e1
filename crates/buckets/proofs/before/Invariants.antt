-- `buckets::before` meets its contract.
use mathlib.Core.Path.{◌≡◌}
use lib.ListN.{length}
use Rattle.rows.specs.Rows.{chains}
use Rattle.buckets.specs.Chains.{chain_from}
use Rattle.buckets.specs.Changes.{prior}
use Rattle.buckets.proofs.Walks.{Ahead}
use Rattle.buckets.proofs.before.Given as goal

abbrev pub invariant-loop-cap : goal.invariant-loop-cap
invariant-loop-cap l = Ahead (chains l.rows) l.cap l.n l.p × (prior l.n l.cap (chain_from (chains l.rows) l.cap l.p) ≡ prior l.n l.cap (chain_from (chains l.rows) l.cap l.first))

abbrev pub decreases-loop-cap : goal.decreases-loop-cap
decreases-loop-cap l = length (chain_from (chains l.rows) l.cap l.p)
