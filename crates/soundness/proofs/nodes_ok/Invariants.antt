-- `soundness::nodes_ok` meets its contract. The invariant: the level is a line exactly when what lies onward is. The measure is what lies onward.
use lib.ListN.{length}
use Rattle.levels.specs.Levels.{onward}
use Rattle.soundness.proofs.Walking.{Walking}
use Rattle.soundness.proofs.nodes_ok.Given as goal

abbrev pub invariant-loop-n : goal.invariant-loop-n
invariant-loop-n l = Walking l.keys l.rows l.cap l.counter.0 l.n l.linked l.retired

abbrev pub decreases-loop-n : goal.decreases-loop-n
decreases-loop-n l = length (onward l.rows l.cap 0 l.n)
