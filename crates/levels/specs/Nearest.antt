-- The walk along the lowest level past the nodes that are not present.
-- Assumes nothing.
use Rattle.std.specs.Prelude.{◌≡◌, ◌⊎◌, Bool, List, [], ◌∷◌, ◌++◌, ℕ, ◌+◌, ◌-◌, ◌*◌, ◌≤◌, ◌<◌, length, eqb}
use Rattle.lists.specs.Holds.{All, Pairwise}
use Rattle.lists.specs.Filters.{filter, head_or}
use Rattle.lists.specs.Members.{In, Differ}
use Rattle.rows.specs.Rows.{places, links}
use Rattle.levels.specs.Levels.{Run, sentinel, onward, order_of}

abbrev pub present : List ℕ → ℕ → Bool
present rows n = eqb (places rows n) 1

-- the first present node at n or beyond it in the direction d, or the sentinel at the end
unfoldable pub nearest_of : List ℕ → ℕ → ℕ → ℕ → ℕ
nearest_of rows cap d n = head_or (filter (present rows) (onward rows cap d n)) (sentinel cap (1 - d))

-- what a walk along the lowest level relies on
pub record Lowest (rows : List ℕ) (cap : ℕ) : Type 0 where
  pub size : length rows ≡ (cap + 2) * 32
  pub nodes : All (λ n. n < cap) (order_of rows cap)
  pub distinct : Pairwise Differ (order_of rows cap)
  pub run : Run (links rows 0 0) (links rows 0 1) cap (order_of rows cap ++ (cap + 1) ∷ [])

-- a walk in the direction d may stand on n: a node of the order, or the sentinel at the end
pub record Walkable (rows : List ℕ) (cap d n : ℕ) : Type 0 where
  pub lowest : Lowest rows cap
  pub direction : d ≤ 1
  pub on : In n (order_of rows cap) ⊎ (n ≡ sentinel cap (1 - d))
