-- `levels::clear_levels` meets its contract. The invariant: the rows are those at entry with the sentinels linked at each level below l.
use Rattle.std.proofs.Common.{◌≡◌}
use Rattle.levels.specs.Stitch.{cleared}
use Rattle.levels.proofs.clear_levels.Given as goal

abbrev pub invariant-loop-l : goal.invariant-loop-l
invariant-loop-l l = l.rows ≡ cleared l.initial.rows l.cap l.l
