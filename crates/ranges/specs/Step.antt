-- Step: its answer, the pairs that it hands out, and where the ticket rests then.
-- Assumes nothing.
use Rattle.std.specs.Prelude.{◌≡◌, cond, Result, Ok, Err, List, [], ℕ, ◌≤◌, ◌<◌, min, length, set, ltb, eqb, ℤ}
use Rattle.lists.specs.Buffers.{written}
use Rattle.model.specs.declared.Stepped.{Stepped}
use Rattle.tables.specs.declared.Ticket.{Ticket}
use Rattle.tables.specs.Tables.{Tables, node, ticket_at}
use Rattle.model.specs.declared.Refusal.{Refusal}
use Rattle.model.specs.declared.Refusal.TheVariants.{TooFewPlaces, NoSuchRange}
use Rattle.ranges.specs.Tickets.{index_of, with_tickets}
use Rattle.ranges.specs.Walk.{walk_of, handed, finished, rest_after, keys_of, values_of, WalkReady}

-- refused, or of the ticket at an index
pub data Case : Type 0 where
  refuse : Refusal → Case
  at : ℕ → Case

-- no open range of that version; no room; else the ticket found
unfoldable pub stepping : List Ticket → ℕ → ℕ → ℕ → Case
stepping ts k v room = cond (ltb (index_of v k ts) k) (cond (eqb room 0) (refuse TooFewPlaces) (at (index_of v k ts))) (refuse NoSuchRange)

-- the answer, and the tickets afterwards
pub record Step : Type 0 where
  pub answer : Result Stepped Refusal
  pub tickets : List Ticket

-- the nodes whose pairs are handed out
abbrev pub step_nodes : Case → List ℕ → List ℕ → List Ticket → ℕ → List ℕ
step_nodes (refuse n) keys rows ts room = []
step_nodes (at j) keys rows ts room = handed keys rows (walk_of (ticket_at ts j)) room

-- the ticket rests on n
abbrev pub rest_on : ℕ → Ticket → Ticket
rest_on n t = record { version = t.version; low = t.low; high = t.high; rest = node n; held = t.held }

abbrev pub step_end : Case → List ℕ → List ℕ → List Ticket → ℕ → Step
step_end (refuse n) keys rows ts room = record { answer = Err n; tickets = ts }
step_end (at j) keys rows ts room =
    record {
      answer = Ok (record {
        pairs = length (handed keys rows (walk_of (ticket_at ts j)) room);
        finished = finished keys rows (walk_of (ticket_at ts j)) room;
      });
      tickets = set ts j (rest_on (rest_after keys rows (walk_of (ticket_at ts j)) room) (ticket_at ts j));
    }

-- what it relies on: that each open ticket rests where a walk can begin
pub record StepReady (keys : List ℕ) (values : List ℤ) (rows : List ℕ) (ts : List Ticket) (k : ℕ) : Type 0 where
  pub few : k ≤ 16
  pub ready : (i : ℕ) → i < k → WalkReady keys values rows (ticket_at ts i).rest.0

-- the smaller length of the two pair buffers
abbrev pub room_of : List ℤ → List ℤ → ℕ
room_of ks vs = min (length ks) (length vs)

-- in all: the answer with the tickets, and the nodes handed out
abbrev pub step_of : List ℕ → List ℕ → List Ticket → ℕ → ℕ → ℕ → Step
step_of keys rows ts k v room = step_end (stepping ts k v room) keys rows ts room

abbrev pub step_given : List ℕ → List ℕ → List Ticket → ℕ → ℕ → ℕ → List ℕ
step_given keys rows ts k v room = step_nodes (stepping ts k v room) keys rows ts room

pub record SteppedBy (keys : List ℕ) (values : List ℤ) (rows : List ℕ) (ts ts' : List Ticket) (k v : ℕ) (ks vs ks' vs' : List ℤ) (r : Result Stepped Refusal) : Type 0 where
  pub answer : r ≡ (step_of keys rows ts k v (room_of ks vs)).answer
  pub tickets : ts' ≡ (step_of keys rows ts k v (room_of ks vs)).tickets
  pub keys_out : ks' ≡ written ks 0 (keys_of keys (step_given keys rows ts k v (room_of ks vs)))
  pub values_out : vs' ≡ written vs 0 (values_of values (step_given keys rows ts k v (room_of ks vs)))

abbrev pub stepping_of : Tables → ℕ → ℕ → Step
stepping_of t v room = step_of t.keys t.rows t.tickets t.coordinator.ranges v room

-- the tables afterwards
abbrev pub stepped_tables : Tables → ℕ → ℕ → Tables
stepped_tables t v room = with_tickets t (stepping_of t v room).tickets t.coordinator
