-- `soundness::tickets_ok` meets its contract. The invariant: the tickets passed are fine.
use Rattle.lists.specs.Tests.{Each}
use Rattle.soundness.proofs.Tickets.{Fine}
use Rattle.soundness.proofs.tickets_ok.Given as goal

abbrev pub invariant-loop-i : goal.invariant-loop-i
invariant-loop-i l = Each l.i (Fine l.keys l.rows l.cap l.counter.0 l.tickets)
