-- The one place of each node. A free node has a seat in the free stack, a retired one in the ring of retired nodes.
-- The stack's i-th entry stands in row i, and so for the ring. The head's row holds the number of free nodes and where the ring begins,
-- the tail's row how many are in the ring and how many nodes are present. Places: 0 free, 1 present, 2 pending, 3 retired.
-- Assumes nothing.
use Rattle.std.specs.Prelude.{ℕ, zero, suc, ◌+◌, ◌-◌, ◌*◌, ◌<◌, ◌≤◌, ◌≡◌, cond, List, [], ◌∷◌, length, ltb, eqb}
use Rattle.lists.specs.Filters.{filter, head_or, count}
use Rattle.lists.specs.Tabs.{tab}
use Rattle.lists.specs.Tests.{Each}
use Rattle.rows.specs.Rows.{places, seats, frees, rings}

-- the rows of cap nodes and both sentinels
pub record Sized (rows : List ℕ) (cap : ℕ) : Type 0 where
  pub size : length rows ≡ (cap + 2) * 32
  pub small : cap ≤ 4096

-- how many nodes are free
abbrev pub free_count : List ℕ → ℕ → ℕ
free_count rows cap = frees rows cap

-- the row in which the ring begins
abbrev pub ring_front : List ℕ → ℕ → ℕ
ring_front rows cap = rings rows cap

-- how many nodes are in the ring
abbrev pub ring_count : List ℕ → ℕ → ℕ
ring_count rows cap = rings rows (cap + 1)

-- how many nodes are counted as present
abbrev pub present_count : List ℕ → ℕ → ℕ
present_count rows cap = frees rows (cap + 1)

-- x, less cap where it is not below cap
unfoldable pub wrapped : ℕ → ℕ → ℕ
wrapped cap x = cond (ltb x cap) x (x - cap)

-- the place in a ring of cap of the i-th from the front
abbrev pub slot : ℕ → ℕ → ℕ → ℕ
slot cap front i = wrapped cap (front + i)

-- the k entries of a stack, the last first
unfoldable pub stacked : (ℕ → ℕ) → ℕ → List ℕ
stacked entry zero = []
stacked entry (suc k) = entry k ∷ stacked entry k

-- the k entries of a ring, the front first
unfoldable pub queued : ℕ → (ℕ → ℕ) → ℕ → ℕ → List ℕ
queued cap entry front k = tab k (λ i. entry (slot cap front i))

-- the free nodes, the one freed last first
abbrev pub free_of : List ℕ → ℕ → List ℕ
free_of rows cap = stacked (frees rows) (free_count rows cap)

-- the retired nodes, the one retired first in front
abbrev pub ring_of : List ℕ → ℕ → List ℕ
ring_of rows cap = queued cap (rings rows) (ring_front rows cap) (ring_count rows cap)

-- the node freed last, which is used first
abbrev pub first_free : List ℕ → ℕ → ℕ
first_free rows cap = head_or (free_of rows cap) 0

-- the node retired first
abbrev pub first_retired : List ℕ → ℕ → ℕ
first_retired rows cap = head_or (ring_of rows cap) 0

-- the s-th entry is a node of that place that has the seat s
pub record Seated (entry place seat : ℕ → ℕ) (cap p s : ℕ) : Type 0 where
  pub node : entry s < cap
  pub placed : place (entry s) ≡ p
  pub back : seat (entry s) ≡ s

-- the entries at the seats `at 0`, `at 1` and so on, k of them
abbrev pub Seats : (ℕ → ℕ) → (ℕ → ℕ) → (ℕ → ℕ) → ℕ → ℕ → ℕ → (ℕ → ℕ) → Type 0
Seats entry place seat cap p k at = Each k (λ i. Seated entry place seat cap p (at i))

-- each entry of the free stack and of the ring is a node in that place, and in one entry only
pub record Places (rows : List ℕ) (cap : ℕ) : Type 0 where
  pub spares : free_count rows cap ≤ cap
  pub idle : Seats (frees rows) (places rows) (seats rows) cap 0 (free_count rows cap) (λ i. i)
  pub front : ring_front rows cap < cap
  pub few : ring_count rows cap ≤ cap
  pub gone : Seats (rings rows) (places rows) (seats rows) cap 3 (ring_count rows cap) (slot cap (ring_front rows cap))

-- the nodes in the place p
abbrev pub nodes_in : (ℕ → ℕ) → ℕ → ℕ → List ℕ
nodes_in place p cap = filter (λ n. eqb (place n) p) (count 0 cap)

-- the stored count of present nodes agrees with the places
abbrev pub Counted : List ℕ → ℕ → Type 0
Counted rows cap = present_count rows cap ≡ length (nodes_in (places rows) 1 cap)
