-- `places::count_in` meets its contract. The invariant: so many of the nodes below n are in the place.
use Prim.Native.Nat.{◌≤◌}
use mathlib.Core.Path.{◌≡◌}
use lib.ListN.{length}
use Rattle.rows.specs.Rows.{places}
use Rattle.places.specs.Places.{nodes_in}
use Rattle.places.proofs.count_in.Given as goal

abbrev pub invariant-loop-n : goal.invariant-loop-n
invariant-loop-n l = (l.total ≤ l.n) × (l.total ≡ length (nodes_in (places l.rows) l.p l.n))
