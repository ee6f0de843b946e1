-- Open: its answer, and what it does to the tickets and the coordinator.
-- Assumes nothing.
use Rattle.std.specs.Prelude.{true, cond, List, ℕ, ◌+◌, length, set, leb, ℤ, Result, Ok, Err}
use Rattle.std.specs.Int.Signed.{lt_z}
use Rattle.sizes.specs.Rank.{rank_of}
use Rattle.model.specs.Model.{last_version}
use Rattle.tables.specs.declared.Ticket.{Ticket}
use Rattle.tables.specs.declared.Coordinator.{Coordinator}
use Rattle.tables.specs.Tables.{Tables, version, node}
use Rattle.finds.specs.Near.{near_of}
use Rattle.sizes.specs.declared.Version.{Version}
use Rattle.model.specs.declared.Refusal.{Refusal}
use Rattle.model.specs.declared.Refusal.TheVariants.{BoundsReversed, AllTicketsOpen, LastVersion}
use Rattle.ranges.specs.Tickets.{with_tickets}

-- the ticket of a range of version v that opens now: it rests on the first present node at or above the lower bound, or on the tail
abbrev pub new_ticket : List ℕ → List ℕ → ℕ → ℤ → ℤ → Ticket
new_ticket keys rows v low high =
    record {
      version = version v;
      low = rank_of low;
      high = rank_of high;
      rest = node (near_of keys rows (length keys) (rank_of low) 0 true);
      held = 0;
    }

-- the answer, and the tickets and the coordinator afterwards
pub record Open : Type 0 where
  pub answer : Result Version Refusal
  pub tickets : List Ticket
  pub coordinator : Coordinator

abbrev pub open_refused : Refusal → List Ticket → Coordinator → Open
open_refused n ts c = record { answer = Err n; tickets = ts; coordinator = c }

-- the counter is raised by one, and the ticket of that version stands behind the open ones
abbrev pub opened : List ℕ → List ℕ → List Ticket → Coordinator → ℤ → ℤ → Open
opened keys rows ts c low high =
    record {
      answer = Ok (version (c.counter.0 + 1));
      tickets = set ts c.ranges (new_ticket keys rows (c.counter.0 + 1) low high);
      coordinator = record { counter = version (c.counter.0 + 1); ranges = c.ranges + 1; due = c.due };
    }

-- refused where the bounds cross, where sixteen ranges are open, and where the counter is at the last version
unfoldable pub opening : List ℕ → List ℕ → List Ticket → Coordinator → ℤ → ℤ → Open
opening keys rows ts c low high =
    cond (lt_z high low) (open_refused BoundsReversed ts c)
    (cond (leb 16 c.ranges) (open_refused AllTicketsOpen ts c)
    (cond (leb last_version c.counter.0) (open_refused LastVersion ts c) (opened keys rows ts c low high)))

abbrev pub opening_of : Tables → ℤ → ℤ → Open
opening_of t low high = opening t.keys t.rows t.tickets t.coordinator low high

-- the tables afterwards
abbrev pub opened_tables : Tables → ℤ → ℤ → Tables
opened_tables t low high = with_tickets t (opening_of t low high).tickets (opening_of t low high).coordinator
