-- Hand over: its answer, and what it does to the cells and the tickets.
-- Assumes nothing.
use Rattle.model.specs.declared.Refusal.TheVariants.{NodeNotPending}
use Rattle.std.specs.Prelude.{◌≡◌, cond, Result, Ok, Err, List, ℕ, ◌-◌, ◌<◌, ◌≤◌, length, set, leb, eqb}
use Rattle.rows.specs.Rows.{places, insertions}
use Rattle.places.specs.Places.{Sized, ring_of, ring_front}
use Rattle.places.specs.Changes.{retired}
use Rattle.model.specs.declared.Handed.{Handed}
use Rattle.model.specs.declared.Handed.TheVariants.{Freed, Held}
use Rattle.model.specs.declared.Refusal.{Refusal}
use Rattle.tables.specs.declared.Ticket.{Ticket}
use Rattle.tables.specs.Tables.{Tables, capacity_of, ticket_at, gained}
use Rattle.returns.specs.Freeing.{Freeable, freed}

-- refused where there is no such node or it is not pending; freed where no range is open or the latest is no later than its insertion; else held
unfoldable pub handing : List ℕ → ℕ → List Ticket → ℕ → ℕ → Result Handed Refusal
handing rows cap ts ranges n =
    cond (leb cap n) (Err NodeNotPending)
    (cond (eqb (places rows n) 2)
    (cond (eqb ranges 0) (Ok Freed) (cond (leb (ticket_at ts (ranges - 1)).version.0 (insertions rows n)) (Ok Freed) (Ok Held)))
    (Err NodeNotPending))

abbrev pub handed_rows : Result Handed Refusal → List ℕ → ℕ → ℕ → List ℕ
handed_rows (Err k) rows cap n = rows
handed_rows (Ok Freed) rows cap n = freed rows cap n
handed_rows (Ok Held) rows cap n = retired rows cap n

-- one more node on the list of the latest range
abbrev pub handed_tickets : Result Handed Refusal → List Ticket → ℕ → List Ticket
handed_tickets (Err k) ts ranges = ts
handed_tickets (Ok Freed) ts ranges = ts
handed_tickets (Ok Held) ts ranges = set ts (ranges - 1) (gained 1 (ticket_at ts (ranges - 1)))

-- what it relies on: a pending node can be freed or retired, and a list has room for one more
pub record HandReady (rows : List ℕ) (cap : ℕ) (ts : List Ticket) (ranges : ℕ) : Type 0 where
  pub sized : Sized rows cap
  pub freeable : (n : ℕ) → n < cap → places rows n ≡ 2 → Freeable rows cap n
  pub front : ring_front rows cap < cap
  pub room : (n : ℕ) → n < cap → places rows n ≡ 2 → length (ring_of rows cap) < cap
  pub few : ranges ≤ 16
  pub held : 0 < ranges → (ticket_at ts (ranges - 1)).held ≤ 4096

pub record HandedOver (rows rows' : List ℕ) (cap : ℕ) (ts ts' : List Ticket) (ranges n : ℕ) (h : Result Handed Refusal) : Type 0 where
  pub answer : h ≡ handing rows cap ts ranges n
  pub cells : rows' ≡ handed_rows (handing rows cap ts ranges n) rows cap n
  pub tickets : ts' ≡ handed_tickets (handing rows cap ts ranges n) ts ranges

-- the tables afterwards
abbrev pub handed_tables : Result Handed Refusal → Tables → ℕ → Tables
handed_tables h t n =
    record {
      keys = t.keys;
      values = t.values;
      rows = handed_rows h t.rows (capacity_of t) n;
      buckets = t.buckets;
      tickets = handed_tickets h t.tickets t.coordinator.ranges;
      coordinator = t.coordinator;
    }

abbrev pub handing_of : Tables → ℕ → Result Handed Refusal
handing_of t n = handing t.rows (capacity_of t) t.tickets t.coordinator.ranges n
