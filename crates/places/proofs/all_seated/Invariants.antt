-- `places::all_seated` meets its contract. The invariant: the seats passed are held so.
use Rattle.lists.specs.Tests.{Each}
use Rattle.rows.specs.Columns.{number_of}
use Rattle.rows.specs.Rows.{column, places, seats}
use Rattle.places.specs.Places.{slot, Seated}
use Rattle.places.proofs.all_seated.Given as goal

abbrev pub invariant-loop-i : goal.invariant-loop-i
invariant-loop-i l = Each l.i (λ j. Seated (column l.rows (number_of l.which)) (places l.rows) (seats l.rows) l.cap l.p (slot l.cap l.front j))
