-- `ranges::drop_ticket` meets its contract. The invariant: from i - 1 on, what is left to do comes to the same.
use Rattle.std.proofs.Common.{◌≡◌, ◌-◌}
use Rattle.ranges.specs.Tickets.{slide}
use Rattle.ranges.proofs.drop_ticket.Given as goal

abbrev pub invariant-loop-i : goal.invariant-loop-i
invariant-loop-i l = slide (l.i - 1) l.ranges l.tickets ≡ slide l.j l.ranges l.fn.tickets
