-- `levels::follows` meets its contract. The invariant: the levels below l passed the test.
use Rattle.lists.specs.Tests.{Each}
use Rattle.levels.specs.Test.{Follows}
use Rattle.levels.proofs.follows.Given as goal

abbrev pub invariant-loop-l : goal.invariant-loop-l
invariant-loop-l l = Each l.l (Follows l.rows l.last l.m)
