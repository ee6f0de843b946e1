-- `buckets::chain_ok` meets its contract.
use Rattle.std.proofs.Common.{ℕ, Option}
use Rattle.rows.specs.Rows.{chains}
use Rattle.buckets.specs.Testing.{Fits, Walks}
use Rattle.buckets.proofs.chain_ok.Given as goal

abbrev pub invariant-loop-node : goal.invariant-loop-node
invariant-loop-node l = (w : Option ℕ) → Walks l.cap (chains l.rows) (Fits l.keys l.rows l.count l.b) l.node l.rest w → Walks l.cap (chains l.rows) (Fits l.keys l.rows l.count l.b) l.first l.left w

abbrev pub decreases-loop-node : goal.decreases-loop-node
decreases-loop-node l = l.rest
