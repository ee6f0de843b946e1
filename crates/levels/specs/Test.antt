-- The test of the levels: one walk of the lowest level, with the last node of each level so far.
-- Assumes nothing.
use Rattle.std.specs.Prelude.{◌≡◌, List, ℕ, zero, suc, ◌+◌, ◌*◌, ◌≤◌, ◌<◌, length, get_or, set}
use Rattle.rows.specs.Rows.{links}
use Rattle.levels.specs.Levels.{Row}

-- the last node of the level k and m are linked to each other
abbrev pub Follows : List ℕ → List ℕ → ℕ → ℕ → Type 0
Follows rows last m k = (links rows k 0 (get_or last k 0) ≡ m) × (links rows k 1 m ≡ get_or last k 0)

-- m is the last node of each level below h
unfoldable pub advanced : List ℕ → ℕ → ℕ → List ℕ
advanced last m zero = last
advanced last m (suc h) = set (advanced last m h) h m

-- what the test relies on: m and the last nodes of the levels below h have rows
pub record Followable (rows last : List ℕ) (m h : ℕ) : Type 0 where
  pub few : h ≤ 12
  pub wide : length last ≡ 12
  pub here : Row rows m
  pub lasts : (k : ℕ) → k < h → Row rows (get_or last k 0)

-- a memory of the right length for these levels
pub record RightSize (rows : List ℕ) (cap levels : ℕ) : Type 0 where
  pub size : length rows ≡ (cap + 2) * 32
  pub small : cap ≤ 4096
  pub leveled : 0 < levels
  pub few : levels ≤ 12
