-- What the soundness test looks at, said over the cells. That this comes to `Sound` is proved (proofs/Deciding).
-- Assumes nothing.
use Rattle.std.specs.Prelude.{◌≡◌, ◌⊎◌, ◌≢◌, Bool, List, [], ◌∷◌, ℕ, ◌+◌, ◌*◌, ◌<◌, ◌≤◌, length, get_or, take, drop, eqb, ℤ, Some}
use Rattle.lists.specs.Holds.{All, Pairwise}
use Rattle.lists.specs.Filters.{filter}
use Rattle.sizes.specs.declared.Size.{Size}
use Rattle.sizes.specs.Sizes.{size_of}
use Rattle.rows.specs.Rows.{insertions, removals, places}
use Rattle.levels.specs.Levels.{order_of, Linked}
use Rattle.buckets.specs.Buckets.{Buckets}
use Rattle.places.specs.Places.{Places, Counted, free_count, ring_count, ring_of}
use Rattle.tables.specs.declared.Ticket.{Ticket}
use Rattle.tables.specs.declared.Coordinator.{Coordinator}
use Rattle.tables.specs.Tables.{Tables, capacity_of, levels_of, Lengths, Used}

-- the lent parts as tables
abbrev pub lent : List ℕ → List ℤ → List ℕ → List ℕ → List Ticket → Coordinator → Tables
lent keys values rows buckets tickets coordinator =
    record { keys = keys; values = values; rows = rows; buckets = buckets; tickets = tickets; coordinator = coordinator }

-- ---- lengths

-- each part has the length that this size asks for
pub record Parts (size : Size) (keys values rows buckets : ℕ) : Type 0 where
  pub keyed : keys ≡ size.capacity
  pub valued : values ≡ size.capacity
  pub rowed : rows ≡ (size.capacity + 2) * 32
  pub bucketed : buckets ≡ size.buckets

-- the number of keys is a capacity of the table, and the other parts fit it
pub record Measured (keys values rows buckets : ℕ) : Type 0 where
  pub size : Size
  pub known : size_of keys ≡ Some size
  pub parts : Parts size keys values rows buckets

-- what the tests below rely on: a row for each node and both sentinels, and a key for each node
pub record Ready (keys rows : List ℕ) (cap : ℕ) : Type 0 where
  pub keyed : length keys ≡ cap
  pub rowed : length rows ≡ (cap + 2) * 32
  pub small : cap ≤ 4096

-- ---- nodes

-- a linked node is in use, and its versions are no greater than the counter
pub record Timed (rows : List ℕ) (counter n : ℕ) : Type 0 where
  pub used : Used (places rows n)
  pub born : insertions rows n ≤ counter
  pub gone : places rows n ≢ 1 → removals rows n ≤ counter

-- the key of a is not above that of b, and is below it where a is present
pub record Ordered (keys rows : List ℕ) (a b : ℕ) : Type 0 where
  pub rises : get_or keys a 0 ≤ get_or keys b 0
  pub last : places rows a ≡ 1 → get_or keys a 0 < get_or keys b 0

-- the nodes of a level, one after the other
pub record Line (keys rows : List ℕ) (counter : ℕ) (nodes : List ℕ) : Type 0 where
  pub timed : All (Timed rows counter) nodes
  pub ordered : Pairwise (Ordered keys rows) nodes

-- its mark says that it is retired
abbrev pub is_retired : List ℕ → ℕ → Bool
is_retired rows n = eqb (places rows n) 3

-- the lowest level: its nodes, all that are not free, and as many of them retired as the ring has
pub record Nodes (keys rows : List ℕ) (cap counter : ℕ) : Type 0 where
  pub line : Line keys rows counter (order_of rows cap)
  pub full : length (order_of rows cap) + free_count rows cap ≡ cap
  pub whole : length (filter (is_retired rows) (order_of rows cap)) ≡ ring_count rows cap

-- ---- tickets

-- the ticket rests on a linked node that its range may rest on, and whose key is not below the lower bound
pub record Stands (keys rows : List ℕ) (cap : ℕ) (t : Ticket) : Type 0 where
  pub node : t.rest.0 < cap
  pub linked : places rows t.rest.0 ≢ 0
  pub older : insertions rows t.rest.0 < t.version.0
  pub lasts : places rows t.rest.0 ≢ 1 → t.version.0 ≤ removals rows t.rest.0
  pub above : t.low ≤ get_or keys t.rest.0 0

-- or on the tail
abbrev pub Rests : List ℕ → List ℕ → ℕ → Ticket → Type 0
Rests keys rows cap t = (t.rest.0 ≡ cap + 1) ⊎ Stands keys rows cap t

-- by their versions
abbrev pub Earlier : Ticket → Ticket → Type 0
Earlier s t = s.version.0 < t.version.0

-- the open tickets
pub record Opened (keys rows : List ℕ) (cap counter : ℕ) (tickets : List Ticket) : Type 0 where
  pub rising : Pairwise Earlier tickets
  pub past : All (λ t. t.version.0 ≤ counter) tickets
  pub rests : All (Rests keys rows cap) tickets

-- what the test of the ring relies on
pub record Ringed (rows : List ℕ) (cap : ℕ) : Type 0 where
  pub rowed : length rows ≡ (cap + 2) * 32
  pub small : cap ≤ 4096
  pub seated : Places rows cap

-- the ring's nodes are those on a list of this size, each removed before the version of the next ticket, then those on that ticket's list, and so on
abbrev pub Listed : (ℕ → ℕ) → List ℕ → ℕ → List Ticket → Type 0
Listed removal ring size [] = size ≡ length ring
Listed removal ring size (t ∷ ts) = (size ≤ length ring) × All (λ n. removal n < t.version.0) (take size ring) × Listed removal (drop size ring) t.held ts

-- ---- all of it
pub record Tested (t : Tables) : Type 0 where
  pub lengths : Lengths t
  pub linked : Linked t.rows (capacity_of t) (levels_of (capacity_of t))
  pub seated : Places t.rows (capacity_of t)
  pub counted : Counted t.rows (capacity_of t)
  pub hashed : Buckets t.keys t.rows t.buckets (capacity_of t)
  pub nodes : Nodes t.keys t.rows (capacity_of t) t.coordinator.counter.0
  pub few : t.coordinator.ranges ≤ 16
  pub opened : Opened t.keys t.rows (capacity_of t) t.coordinator.counter.0 (take t.coordinator.ranges t.tickets)
  pub listed : Listed (removals t.rows) (ring_of t.rows (capacity_of t)) t.coordinator.due (take t.coordinator.ranges t.tickets)
