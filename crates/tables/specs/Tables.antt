-- The lent tables, when they are sound, and what they say as a state of the model.
-- Assumes nothing.
use Rattle.std.specs.Prelude.{Some, None, Option}
use Rattle.sizes.specs.declared.Size.{Size}
use Rattle.std.specs.Prelude.{◌≡◌, ◌⊎◌, cond, List, map, ℕ, ◌+◌, ◌*◌, ◌<◌, ◌≤◌, length, get_or, take, ltb, eqb, ℤ, pos}
use Rattle.lists.specs.Holds.{All}
use Rattle.sizes.specs.declared.Version.{Version}
use Rattle.sizes.specs.declared.Node.{Node}
use Rattle.sizes.specs.Sizes.{size_of}
use Rattle.sizes.specs.Rank.{key_of}
use Rattle.rows.specs.Rows.{heights, insertions, removals, places}
use Rattle.levels.specs.Levels.{order_of, Linked}
use Rattle.buckets.specs.Buckets.{Buckets}
use Rattle.places.specs.Places.{Places, Counted, free_of, ring_of}
use Rattle.model.specs.Model as M
use Rattle.model.specs.Calls.{Call, Answer}
use Rattle.model.specs.WellFormed.{WellFormed}
use Rattle.tables.specs.declared.Ticket.{Ticket}
use Rattle.tables.specs.declared.Coordinator.{Coordinator}

-- ---- the lent parts as lists

pub record Tables : Type 0 where
  pub keys : List ℕ
  pub values : List ℤ
  pub rows : List ℕ
  pub buckets : List ℕ
  pub tickets : List Ticket
  pub coordinator : Coordinator

-- there is a key for each node
abbrev pub capacity_of : Tables → ℕ
capacity_of t = length t.keys

-- a number as a version, and as a node's
abbrev pub version : ℕ → Version
version v = record { 0 = v }

abbrev pub node : ℕ → Node
node n = record { 0 = n }

abbrev pub no_ticket : Ticket
no_ticket = record { version = version 0; low = 0; high = 0; rest = node 0; held = 0 }

abbrev pub levels_in : Option Size → ℕ
levels_in (Some s) = s.levels
levels_in None = 0

abbrev pub buckets_in : Option Size → ℕ
buckets_in (Some s) = s.buckets
buckets_in None = 0

-- the levels and the buckets of a capacity; 0 where the table has no such capacity
unfoldable pub levels_of : ℕ → ℕ
levels_of capacity = levels_in (size_of capacity)

unfoldable pub buckets_of : ℕ → ℕ
buckets_of capacity = buckets_in (size_of capacity)

-- ---- the tables as a state of the model

-- the place of a node that is not free, by its mark, with its removal version
abbrev pub place_of : ℕ → ℕ → M.Place
place_of p r = cond (eqb p 1) M.present (cond (eqb p 2) (M.pending r) (M.retired r))

unfoldable pub node_at : List ℕ → List ℤ → List ℕ → ℕ → M.Node
node_at keys values rows n =
    record {
      number = n;
      key = key_of (get_or keys n 0);
      value = get_or values n (pos 0);
      height = heights rows n;
      inserted = insertions rows n;
      place = place_of (places rows n) (removals rows n);
    }

-- a node below the capacity, or the tail
abbrev pub rest_of : ℕ → ℕ → M.Rest
rest_of capacity n = cond (ltb n capacity) (M.on n) M.tail

unfoldable pub range_of : ℕ → Ticket → M.Range
range_of capacity t =
    record {
      version = t.version.0;
      low = key_of t.low;
      high = key_of t.high;
      rest = rest_of capacity t.rest.0;
      held = t.held;
    }

-- the nodes of the lowest level
abbrev pub nodes_of : List ℕ → List ℤ → List ℕ → List M.Node
nodes_of keys values rows = map (node_at keys values rows) (order_of rows (length keys))

-- the open tickets
abbrev pub ranges_of : ℕ → List Ticket → ℕ → List M.Range
ranges_of capacity tickets open' = map (range_of capacity) (take open' tickets)

-- the ticket at an index
abbrev pub ticket_at : List Ticket → ℕ → Ticket
ticket_at ts i = get_or ts i no_ticket

-- the ticket with h more nodes on its list
abbrev pub gained : ℕ → Ticket → Ticket
gained h t = record { version = t.version; low = t.low; high = t.high; rest = t.rest; held = t.held + h }

unfoldable pub view : Tables → M.State
view t =
    record {
      capacity = capacity_of t;
      levels = levels_of (capacity_of t);
      counter = t.coordinator.counter.0;
      order = nodes_of t.keys t.values t.rows;
      free = free_of t.rows (capacity_of t);
      queue = ring_of t.rows (capacity_of t);
      due = t.coordinator.due;
      ranges = ranges_of (capacity_of t) t.tickets t.coordinator.ranges;
    }

-- ---- sound tables

-- the capacity is in the table, and each part has its length
pub record Lengths (t : Tables) : Type 0 where
  pub known : 0 < levels_of (capacity_of t)
  pub values : length t.values ≡ capacity_of t
  pub rows : length t.rows ≡ (capacity_of t + 2) * 32
  pub buckets : length t.buckets ≡ buckets_of (capacity_of t)
  pub tickets : length t.tickets ≡ 16

-- a linked node is present, pending or retired
abbrev pub Used : ℕ → Type 0
Used p = (0 < p) × (p ≤ 3)

-- the rows by themselves: the levels, the places of the linked nodes, the free stack and the ring, the count of present nodes
pub record Memory (rows : List ℕ) (capacity : ℕ) : Type 0 where
  pub linked : Linked rows capacity (levels_of capacity)
  pub used : All (λ n. Used (places rows n)) (order_of rows capacity)
  pub seated : Places rows capacity
  pub counted : Counted rows capacity

-- the ticket's cell for a rest names a node, or is exactly the tail's number
abbrev pub Resting : ℕ → Ticket → Type 0
Resting capacity t = (t.rest.0 < capacity) ⊎ (t.rest.0 ≡ capacity + 1)

pub record Sound (t : Tables) : Type 0 where
  pub lengths : Lengths t
  pub memory : Memory t.rows (capacity_of t)
  pub hashed : Buckets t.keys t.rows t.buckets (capacity_of t)
  pub few : t.coordinator.ranges ≤ 16
  pub resting : All (Resting (capacity_of t)) (take t.coordinator.ranges t.tickets)
  pub well : WellFormed (view t)

-- ---- a call's outcome on sound tables: the answer and the view are the model's, and the tables are sound again
pub record Met (t t' : Tables) (c : Call) (a : Answer) : Type 0 where
  pub sound : Sound t'
  pub model : M.apply (view t) c ≡ (view t', a)
