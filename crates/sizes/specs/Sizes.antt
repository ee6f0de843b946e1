-- The capacities, and the rule of the table: the capacity is two to the levels, and the buckets are the least prime number with which the fill is at most 7/10.
-- Assumes nothing.
use Rattle.std.specs.Prelude.{ℕ, ◌-◌, ◌*◌, ◌^◌, ◌%◌, ◌≤◌, ◌<◌, ◌≡◌, Bool, true, false, cond, Option, Some, None, List, [], ◌∷◌, eqb}
use Rattle.lists.specs.Filters.{filter, empty, count}
use Rattle.sizes.specs.declared.Size.{Size}

abbrev pub size : ℕ → ℕ → ℕ → Size
size c l b = record { capacity = c; levels = l; buckets = b }

-- capacity, levels, buckets
abbrev pub sizes : List Size
sizes =
    size 64 6 97
    ∷ size 128 7 191
    ∷ size 256 8 367
    ∷ size 512 9 733
    ∷ size 1024 10 1471
    ∷ size 2048 11 2927
    ∷ size 4096 12 5857
    ∷ []

-- the entry of this capacity
abbrev pub seek : List Size → ℕ → Option Size
seek [] c = None
seek (s ∷ ss) c = cond (eqb s.capacity c) (Some s) (seek ss c)

unfoldable pub size_of : ℕ → Option Size
size_of c = seek sizes c

-- none of the numbers from 2 to n - 1 divides n
unfoldable pub is_prime : ℕ → Bool
is_prime n = empty (filter (λ (d : ℕ). eqb (n % d) 0) (count 2 (n - 2)))

-- the rule of an entry
pub record Rule (s : Size) : Type 0 where
  pub power : s.capacity ≡ 2 ^ s.levels
  pub fill : s.capacity * 10 ≤ s.buckets * 7
  pub prime : is_prime s.buckets ≡ true
  pub smallest : (b : ℕ) → b < s.buckets → s.capacity * 10 ≤ b * 7 → is_prime b ≡ false
  pub least : 64 ≤ s.capacity
  pub most : s.capacity ≤ 4096
  pub low : 6 ≤ s.levels
  pub high : s.levels ≤ 12
  pub wide : s.buckets ≤ 5857

-- an entry that was sought by its capacity
pub record Ruled (s : Size) (c : ℕ) : Type 0 where
  pub asked : s.capacity ≡ c
  pub rule : Rule s
