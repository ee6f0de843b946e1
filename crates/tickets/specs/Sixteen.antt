-- Sixteen tickets, taken out of a lent run by value and stored back.
-- Assumes nothing.
use Rattle.std.specs.Prelude.{cond, List, eqb, length, replicate, Option}
use Rattle.std.specs.Borrow.{LendsIf, MutBor, Fml, Array}
use Rattle.tables.specs.declared.Ticket.{Ticket}
use Rattle.tables.specs.contracts.Ticket.{the_row}
use Rattle.tables.specs.Tables.{no_ticket}

-- what is taken out: the run's tickets where there are sixteen, else sixteen that are not open
abbrev pub loaded : List Ticket → List Ticket
loaded ts = cond (eqb (length ts) 16) ts (replicate 16 no_ticket)

-- what the run holds after these were stored: these, where it has sixteen, else what it held
abbrev pub stored : List Ticket → List Ticket → List Ticket
stored ts us = cond (eqb (length ts) 16) us ts

-- what is left in the array that is lent is what the run stores
abbrev pub StoresIf : MutBor (List Ticket) → Option (MutBor (List Ticket)) → Fml
StoresIf run all = LendsIf (Array the_row 0) (Array the_row 0) run all (λ us. stored run.now us) run.now
