-- Memory of capacity 64 in which every cell of the rows is 0.
-- Assumes nothing.
use Rattle.std.specs.Prelude.{◌≡◌, List, ℕ, length, replicate}

pub record Fresh (keys rows buckets : List ℕ) : Type 0 where
  pub keyed : length keys ≡ 64
  pub rowed : rows ≡ replicate 2112 0
  pub many : length buckets ≡ 97
