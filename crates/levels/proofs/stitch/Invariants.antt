-- `levels::stitch` meets its contract. The invariant: the rows are those at entry with n linked in at each level below l.
use Rattle.std.proofs.Common.{◌≡◌}
use Rattle.levels.specs.Stitch.{stitched}
use Rattle.levels.proofs.stitch.Given as goal

abbrev pub invariant-loop-l : goal.invariant-loop-l
invariant-loop-l l = l.rows ≡ stitched l.initial.rows l.n l.fn.pairs l.l
