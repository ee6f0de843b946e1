-- `levels::levels_ok` meets its contract. The invariant: the levels are linked exactly when what is left from m on is so. The measure is how many nodes may still come.
use Rattle.levels.proofs.Testing.{Passing}
use Rattle.levels.proofs.levels_ok.Given as goal

abbrev pub invariant-loop-m : goal.invariant-loop-m
invariant-loop-m l = Passing l.rows l.cap l.levels l.last l.left l.m

abbrev pub decreases-loop-m : goal.decreases-loop-m
decreases-loop-m l = l.left
