-- What a search finds: on each level the place after every node with a key up to the rank.
-- Assumes nothing.
use Rattle.std.specs.Prelude.{◌≡◌, cond, List, map, ℕ, ◌+◌, ◌*◌, ◌≤◌, ◌<◌, length, get_or, ltb, leb}
use Rattle.lists.specs.Holds.{Pairwise}
use Rattle.lists.specs.Filters.{filter, last_or, head_or, count}
use Rattle.rows.specs.Rows.{heights}
use Rattle.levels.specs.declared.Pair.{Pair}
use Rattle.levels.specs.declared.Found.{Found}
use Rattle.levels.specs.Levels.{level, order_of, Linked}
use Rattle.levels.specs.Stitch.{pair}

-- the nodes with keys up to the rank, and those with keys above it
abbrev pub up_to : List ℕ → ℕ → List ℕ → List ℕ
up_to keys rank = filter (λ n. leb (get_or keys n 0) rank)

abbrev pub above : List ℕ → ℕ → List ℕ → List ℕ
above keys rank = filter (λ n. ltb rank (get_or keys n 0))

-- the last node with a key up to the rank, or the head, and the first with a key above it, or the tail
abbrev pub around : List ℕ → ℕ → ℕ → List ℕ → Pair
around keys cap rank nodes = pair (last_or cap (up_to keys rank nodes)) (head_or (above keys rank nodes) (cap + 1))

-- the pair on the level l; 0 and 0 on a level that the map does not have
unfoldable pub pair_on : List ℕ → List ℕ → ℕ → ℕ → ℕ → ℕ → Pair
pair_on keys rows cap levels rank l = cond (ltb l levels) (around keys cap rank (level (heights rows) l (order_of rows cap))) (pair 0 0)

unfoldable pub searched : List ℕ → List ℕ → ℕ → ℕ → ℕ → Found
searched keys rows cap levels rank =
    record { pairs = map (pair_on keys rows cap levels rank) (count 0 12); place = around keys cap rank (order_of rows cap) }

-- an earlier node's key is at most a later one's
abbrev pub Rising : List ℕ → List ℕ → Type 0
Rising keys order = Pairwise (λ a b. get_or keys a 0 ≤ get_or keys b 0) order

-- what a search relies on
pub record Searchable (keys rows : List ℕ) (cap levels : ℕ) : Type 0 where
  pub size : length rows ≡ (cap + 2) * 32
  pub keyed : length keys ≡ cap
  pub leveled : 0 < levels
  pub linked : Linked rows cap levels
  pub rising : Rising keys (order_of rows cap)
