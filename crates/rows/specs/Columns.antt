-- The numbers of the columns and of the directions.
-- Assumes nothing.
use Rattle.std.specs.Prelude.{ℕ, ◌+◌, ◌*◌}
use Rattle.rows.specs.declared.Direction.{Direction}
use Rattle.rows.specs.declared.Direction.TheVariants.{After, Before}
use Rattle.rows.specs.declared.Column.{Column}
use Rattle.rows.specs.declared.Column.TheVariants.{Height, Inserted, Removed, Place, Seat, Chain, Free, Ring, Link}

-- the number of a direction, as `links` takes it
abbrev pub way : Direction → ℕ
way After = 0
way Before = 1

-- the number of a column, as `column` takes it
abbrev pub number_of : Column → ℕ
number_of Height = 0
number_of Inserted = 1
number_of Removed = 2
number_of Place = 3
number_of Seat = 4
number_of Chain = 5
number_of Free = 6
number_of Ring = 7
number_of (Link l d) = 8 + l * 2 + way d
