-- `levels::unstitch` meets its contract. The invariant: the rows are those at entry with the neighbours of n linked at each level below l.
use Rattle.std.proofs.Common.{◌≡◌}
use Rattle.levels.specs.Stitch.{unstitched}
use Rattle.levels.proofs.unstitch.Given as goal

abbrev pub invariant-loop-l : goal.invariant-loop-l
invariant-loop-l l = l.rows ≡ unstitched l.initial.rows l.n l.l
