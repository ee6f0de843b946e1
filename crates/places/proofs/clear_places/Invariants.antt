-- `places::clear_places` meets its contract. The invariant: the rows so far are those of the definition.
use mathlib.Core.Path.{◌≡◌}
use Rattle.places.specs.Changes.{cleared_nodes}
use Rattle.places.proofs.clear_places.Given as goal

abbrev pub invariant-loop-i : goal.invariant-loop-i
invariant-loop-i l = l.rows ≡ cleared_nodes l.initial.rows l.cap l.i
