-- The nearest present node to a rank, in a direction: 0 above it, 1 below it.
-- Assumes nothing.
use Rattle.std.specs.Prelude.{Bool, cond, List, ℕ, zero, suc, ◌-◌, ◌<◌, ◌≤◌, length, get_or, eqb, ltb}
use Rattle.lists.specs.Holds.{Pairwise}
use Rattle.lists.specs.Filters.{filter, head_or}
use Rattle.lists.specs.Members.{In}
use Rattle.levels.specs.Levels.{sentinel, order_in, order_of}
use Rattle.levels.specs.Search.{Searchable}
use Rattle.levels.specs.Nearest.{present}
use Rattle.buckets.specs.Buckets.{Present, Buckets}
use Rattle.tables.specs.Tables.{levels_of}

-- the key is past the rank in the direction d
abbrev pub past : ℕ → ℕ → ℕ → Bool
past zero rank key = ltb rank key
past (suc d) rank key = ltb key rank

-- it is past the rank, or is the rank where `at` says so
abbrev pub beyond : ℕ → Bool → ℕ → ℕ → Bool
beyond d at rank key = cond (eqb key rank) at (past d rank key)

-- the nodes of these that are beyond the rank
abbrev pub nodes_beyond : List ℕ → ℕ → Bool → ℕ → List ℕ → List ℕ
nodes_beyond keys d at rank = filter (λ n. beyond d at rank (get_or keys n 0))

-- of the present nodes on the lowest level, in the direction d, the first beyond the rank, or the sentinel at the end
unfoldable pub near_of : List ℕ → List ℕ → ℕ → ℕ → ℕ → Bool → ℕ
near_of keys rows cap rank d at = head_or (nodes_beyond keys d at rank (filter (present rows) (order_in rows cap d))) (sentinel cap (1 - d))

-- what `near` relies on: the levels, the buckets, that a present node is linked, and that its key is below those of all nodes after it
pub record NearReady (keys rows buckets : List ℕ) : Type 0 where
  pub small : length keys ≤ 4096
  pub searchable : Searchable keys rows (length keys) (levels_of (length keys))
  pub hashed : Buckets keys rows buckets (length keys)
  pub linked : (n : ℕ) → n < length keys → Present rows n → In n (order_of rows (length keys))
  pub last : Pairwise (λ a b. Present rows a → get_or keys a 0 < get_or keys b 0) (order_of rows (length keys))
