-- The open tickets of a run: one found, one moved on, one removed at close.
-- Assumes nothing.
use Rattle.std.specs.Prelude.{Bool, true, false, cond, List, ℕ, ◌-◌, min, length, set, eqb, ltb, Option, Some, None}
use Rattle.sizes.specs.declared.Node.{Node}
use Rattle.tables.specs.declared.Ticket.{Ticket}
use Rattle.tables.specs.Tables.{ticket_at, gained}
use Rattle.ranges.specs.Tickets.{index_of, slide}

-- whether there was such a ticket, and the tickets afterwards
pub record Changed : Type 0 where
  pub answer : Bool
  pub tickets : List Ticket

-- how many are open: of sixteen tickets so many, of any other number none
abbrev pub open_in : ℕ → ℕ → ℕ
open_in count ranges = cond (eqb count 16) (min 16 ranges) 0

-- ---- one found by its version: the first of k tickets

-- its place among the first k
abbrev pub found_in : ℕ → List Ticket → ℕ → Option ℕ
found_in k ts v = cond (ltb (index_of v k ts) k) (Some (index_of v k ts)) None

-- its place in a run
abbrev pub found : List Ticket → ℕ → ℕ → Option ℕ
found ts ranges v = found_in (open_in (length ts) ranges) ts v

-- ---- one moved on: it rests on another node, and nothing else changes

-- the ticket, resting on that node
abbrev pub resting : Node → Ticket → Ticket
resting n t = record { version = t.version; low = t.low; high = t.high; rest = n; held = t.held }

-- the changed tickets where there is such a ticket
abbrev pub changed : Bool → List Ticket → List Ticket → Changed
changed true ts us = record { answer = true; tickets = us }
changed false ts us = record { answer = false; tickets = ts }

-- the ticket at i moved on, of so many tickets
abbrev pub moved_in : ℕ → List Ticket → ℕ → Node → Changed
moved_in count ts i n = changed (cond (eqb count 16) (ltb i 16) false) ts (set ts i (resting n (ticket_at ts i)))

-- the same in a run
abbrev pub moved : List Ticket → ℕ → Node → Changed
moved ts i n = moved_in (length ts) ts i n

-- ---- one removed at close: the next older one takes over what it holds, and the later ones move down

-- neither it nor the next older one holds more nodes than there are
abbrev pub fits_older : List Ticket → ℕ → Bool
fits_older ts i = cond (eqb i 0) true (cond (ltb 4096 (ticket_at ts i).held) false (cond (ltb 4096 (ticket_at ts (i - 1)).held) false true))

-- the next older one, if any, takes over what the ticket at i holds
abbrev pub taken_over : List Ticket → ℕ → List Ticket
taken_over ts i = cond (eqb i 0) ts (set ts (i - 1) (gained (ticket_at ts i).held (ticket_at ts (i - 1))))

-- the ticket at i removed, where the first k are open
abbrev pub removed_in : ℕ → List Ticket → ℕ → Changed
removed_in k ts i = changed (cond (ltb i k) (fits_older ts i) false) ts (slide i k (taken_over ts i))

-- the same in a run
abbrev pub removed : List Ticket → ℕ → ℕ → Changed
removed ts ranges i = removed_in (open_in (length ts) ranges) ts i
