-- The search for a key, by its rank.
-- Assumes nothing.
use Rattle.std.specs.Prelude.{◌≡◌, cond, Option, Some, None, List, [], ◌∷◌, ℕ, ◌<◌, eqb}
use Rattle.rows.specs.Rows.{chains}
use Rattle.buckets.specs.Chains.{nth, chain_from}
use Rattle.buckets.specs.Buckets.{Present, first_of}

-- the first of these nodes that has the rank
abbrev pub seek : (ℕ → ℕ) → ℕ → List ℕ → Option ℕ
seek key rank [] = None
seek key rank (n ∷ ns) = cond (eqb (key n) rank) (Some n) (seek key rank ns)

-- the first on the chain of the rank's bucket
unfoldable pub found : List ℕ → List ℕ → List ℕ → ℕ → ℕ → Option ℕ
found keys rows buckets cap rank = seek (nth keys) rank (chain_from (chains rows) cap (first_of buckets rank))

-- the node n is present and has the rank
pub record Holds (keys rows : List ℕ) (cap rank n : ℕ) : Type 0 where
  pub node : n < cap
  pub here : Present rows n
  pub key : nth keys n ≡ rank

-- a node that holds the rank, or that there is none
abbrev pub Finds : List ℕ → List ℕ → ℕ → ℕ → Option ℕ → Type 0
Finds keys rows cap rank (Some n) = Holds keys rows cap rank n
Finds keys rows cap rank None = (n : ℕ) → Holds keys rows cap rank n → ⊥
