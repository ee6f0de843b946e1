-- `levels::nearest` meets its contract. The invariant: the walk stands on the level, and the answer from there is that from the start.
use mathlib.Core.Path.{◌≡◌}
use lib.ListN.{length}
use Rattle.rows.specs.Columns.{way}
use Rattle.levels.specs.Levels.{onward}
use Rattle.levels.specs.Nearest.{nearest_of, Walkable}
use Rattle.levels.proofs.nearest.Given as goal

abbrev pub invariant-loop-m : goal.invariant-loop-m
invariant-loop-m l = Walkable l.rows l.cap (way l.fn.d) l.m × (nearest_of l.rows l.cap (way l.fn.d) l.m ≡ nearest_of l.rows l.cap (way l.fn.d) l.from)

abbrev pub decreases-loop-m : goal.decreases-loop-m
decreases-loop-m l = length (onward l.rows l.cap (way l.fn.d) l.m)
