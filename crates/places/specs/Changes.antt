-- What the changes of a node's place store: the rows after each are a function of the rows before.
-- Assumes nothing.
use Rattle.std.specs.Prelude.{ℕ, zero, suc, ◌+◌, ◌-◌, List, [], ◌∷◌}
use Rattle.places.specs.Stores.{store, stored}
use Rattle.places.specs.Places.{free_count, ring_front, ring_count, present_count, wrapped, slot}

-- the columns
abbrev pub place_column : ℕ
place_column = 3

abbrev pub seat_column : ℕ
seat_column = 4

abbrev pub free_column : ℕ
free_column = 6

abbrev pub ring_column : ℕ
ring_column = 7

-- the top of the free stack is taken off
unfoldable pub drawn : List ℕ → ℕ → List ℕ
drawn rows cap = stored rows (store cap free_column (free_count rows cap - 1) ∷ [])

-- n is free, on top of the stack
unfoldable pub released : List ℕ → ℕ → ℕ → List ℕ
released rows cap n =
    let seat : ℕ = free_count rows cap in
    stored rows (store seat free_column n ∷ store n seat_column seat ∷ store n place_column 0 ∷ store cap free_column (seat + 1) ∷ [])

-- n is retired, at the back of the ring
unfoldable pub retired : List ℕ → ℕ → ℕ → List ℕ
retired rows cap n =
    let seat : ℕ = slot cap (ring_front rows cap) (ring_count rows cap) in
    stored rows (store seat ring_column n ∷ store n seat_column seat ∷ store n place_column 3 ∷ store (cap + 1) ring_column (ring_count rows cap + 1) ∷ [])

-- the front of the ring is taken off
unfoldable pub taken : List ℕ → ℕ → List ℕ
taken rows cap =
    stored rows (store cap ring_column (wrapped cap (ring_front rows cap + 1)) ∷ store (cap + 1) ring_column (ring_count rows cap - 1) ∷ [])

-- n is in the place p, and k nodes are present
unfoldable pub marked : List ℕ → ℕ → ℕ → ℕ → ℕ → List ℕ
marked rows cap n p k = stored rows (store n place_column p ∷ store (cap + 1) free_column k ∷ [])

-- n is present, and was not
abbrev pub made_present : List ℕ → ℕ → ℕ → List ℕ
made_present rows cap n = marked rows cap n 1 (present_count rows cap + 1)

-- n is pending, and was present
abbrev pub made_pending : List ℕ → ℕ → ℕ → List ℕ
made_pending rows cap n = marked rows cap n 2 (present_count rows cap - 1)

-- the nodes below n are free: i has the seat cap - 1 - i of the stack, so that 0 is on top of a full one
unfoldable pub cleared_nodes : List ℕ → ℕ → ℕ → List ℕ
cleared_nodes rows cap zero = rows
cleared_nodes rows cap (suc n) =
    let seat : ℕ = cap - 1 - n in
    stored (cleared_nodes rows cap n) (store n place_column 0 ∷ store n seat_column seat ∷ store n free_column seat ∷ [])

-- every node is free, the ring is empty, and none is present
unfoldable pub cleared : List ℕ → ℕ → List ℕ
cleared rows cap =
    stored (cleared_nodes rows cap cap) (store cap free_column cap ∷ store cap ring_column 0 ∷ store (cap + 1) ring_column 0 ∷ store (cap + 1) free_column 0 ∷ [])
