-- Four kinds of tables that are never sound, said plainly over the cells.
-- Assumes nothing.
use Rattle.std.specs.Prelude.{◌≡◌, ◌⊎◌, ◌≢◌, List, [], ◌∷◌, ◌++◌, ℕ, ◌+◌, ◌-◌, ◌<◌, ◌≤◌, length, get_or}
use Rattle.lists.specs.Holds.{All}
use Rattle.lists.specs.Members.{In}
use Rattle.sizes.specs.Rank.{bucket_of}
use Rattle.rows.specs.Rows.{heights, places, chains, links}
use Rattle.levels.specs.Levels.{Leads, sentinel, order_of}
use Rattle.buckets.specs.Chains.{chain_from}
use Rattle.tables.specs.Tables.{Tables, capacity_of, levels_of}

-- on some level, a link from the sentinel where a walk begins, or from a linked node that is high enough, that is past the last node and both sentinels
pub record LinkPast (t : Tables) : Type 0 where
  pub level : ℕ
  pub direction : ℕ
  pub node : ℕ
  pub low : level < levels_of (capacity_of t)
  pub turned : direction ≤ 1
  pub here : (node ≡ sentinel (capacity_of t) direction) ⊎ (In node (order_of t.rows (capacity_of t)) × (level < heights t.rows node))
  pub past : capacity_of t + 1 < links t.rows level direction node

-- on some level, links that lead from the sentinel where a walk begins to where they have been, the other sentinel not being on the way
pub record Circle (t : Tables) : Type 0 where
  pub level : ℕ
  pub direction : ℕ
  pub met : List ℕ
  pub again : ℕ
  pub low : level < levels_of (capacity_of t)
  pub turned : direction ≤ 1
  pub leads : Leads (links t.rows level direction) (sentinel (capacity_of t) direction) (met ++ again ∷ [])
  pub endless : All (λ n. n ≢ sentinel (capacity_of t) (1 - direction)) (met ++ again ∷ [])
  pub twice : In again (sentinel (capacity_of t) direction ∷ met)

-- two linked nodes, the key of the later one below that of the earlier one, or the same as that of a present one (keys by their ranks)
pub record OutOfOrder (t : Tables) : Type 0 where
  pub front : List ℕ
  pub between : List ℕ
  pub back : List ℕ
  pub earlier : ℕ
  pub later : ℕ
  pub order : order_of t.rows (capacity_of t) ≡ front ++ earlier ∷ (between ++ later ∷ back)
  pub falls :
      (get_or t.keys later 0 < get_or t.keys earlier 0)
      ⊎ ((places t.rows earlier ≡ 1) × (get_or t.keys later 0 ≡ get_or t.keys earlier 0))

-- a present node that is not on the chain of its key's bucket
pub record Missing (t : Tables) : Type 0 where
  pub node : ℕ
  pub small : node < capacity_of t
  pub present : places t.rows node ≡ 1
  pub absent :
      In node (chain_from (chains t.rows) (capacity_of t) (get_or t.buckets (bucket_of (get_or t.keys node 0) (length t.buckets)) 0)) → ⊥
