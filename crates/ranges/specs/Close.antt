-- Close: its answer, and what it does to the tickets and the coordinator.
-- Assumes nothing.
use Rattle.model.specs.declared.Refusal.TheVariants.{NoSuchRange}
use Rattle.std.specs.Prelude.{Bool, true, false, List, ℕ, zero, suc, ◌+◌, ◌-◌, ◌≤◌, ◌<◌, set, ltb, Result, Ok, Err}
use Rattle.tables.specs.declared.Ticket.{Ticket}
use Rattle.tables.specs.declared.Coordinator.{Coordinator}
use Rattle.tables.specs.Tables.{Tables, ticket_at, gained}
use Rattle.model.specs.declared.Refusal.{Refusal}
use Rattle.ranges.specs.Tickets.{index_of, slide, with_tickets}

-- the answer, and the tickets and the coordinator afterwards
pub record Close : Type 0 where
  pub answer : Result ℕ Refusal
  pub tickets : List Ticket
  pub coordinator : Coordinator

-- one range fewer is open, and so many nodes are due
abbrev pub fewer : Coordinator → ℕ → Coordinator
fewer c due = record { counter = c.counter; ranges = c.ranges - 1; due = due }

-- closing the ticket at an index, if there is one: the oldest range's list becomes due, and any other's goes to the end of that of the next older
abbrev pub close_at : Bool → ℕ → List Ticket → Coordinator → Close
close_at false j ts c = record { answer = Err NoSuchRange; tickets = ts; coordinator = c }
close_at true zero ts c =
    record {
      answer = Ok (ticket_at ts 0).held;
      tickets = slide 0 c.ranges ts;
      coordinator = fewer c (c.due + (ticket_at ts 0).held);
    }
close_at true (suc i) ts c =
    record {
      answer = Ok 0;
      tickets = slide (suc i) c.ranges (set ts i (gained (ticket_at ts (suc i)).held (ticket_at ts i)));
      coordinator = fewer c c.due;
    }

unfoldable pub closing : List Ticket → Coordinator → ℕ → Close
closing ts c v = close_at (ltb (index_of v c.ranges ts) c.ranges) (index_of v c.ranges ts) ts c

-- what it relies on: that the sums fit
pub record CloseReady (ts : List Ticket) (c : Coordinator) : Type 0 where
  pub few : c.ranges ≤ 16
  pub held : (i : ℕ) → i < c.ranges → (ticket_at ts i).held ≤ 4096
  pub ripe : c.due ≤ 4096

abbrev pub closing_of : Tables → ℕ → Close
closing_of t v = closing t.tickets t.coordinator v

-- the tables afterwards
abbrev pub closed_tables : Tables → ℕ → Tables
closed_tables t v = with_tickets t (closing_of t v).tickets (closing_of t v).coordinator
