-- `ranges::walk_range` meets its contract. The invariant: what was handed out, with what is ahead, is all that the range may rest on.
use lib.ListN.{length}
use Rattle.levels.specs.Levels.{onward}
use Rattle.ranges.specs.Walk.{walk}
use Rattle.ranges.proofs.Walking.{Going}
use Rattle.ranges.proofs.walk_range.Given as goal

abbrev pub invariant-loop-m : goal.invariant-loop-m
invariant-loop-m l =
    Going l.keys l.values l.rows (walk l.version l.high l.rest) l.room l.initial.out_keys l.initial.out_values l.out_keys l.out_values l.m l.count

abbrev pub decreases-loop-m : goal.decreases-loop-m
decreases-loop-m l = length (onward l.rows (length l.keys) 0 l.m)
