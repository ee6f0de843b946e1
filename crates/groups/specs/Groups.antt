-- Numbers as groups of seven bits: lowest group first, the high bit set on every byte but the last, shortest form only, at most ten bytes, value below 2 ^ 64.
-- Assumes nothing.
use Rattle.std.specs.Prelude.{ℕ, zero, suc, ◌+◌, ◌*◌, ◌/◌, ◌%◌, ◌^◌, ◌≤◌, ◌<◌, ◌≡◌, ◌⊎◌, ◌≢◌, cond, List, [], ◌∷◌, ◌++◌, length, take, ltb, Result, Ok, Err}
use Rattle.lists.specs.Holds.{All}
use Rattle.groups.specs.declared.Unread.{Unread}
use Rattle.groups.specs.declared.Unread.TheVariants.{CutOff, Malformed}

-- the value of bytes: lowest group first, the high bit taken off
abbrev pub worth : List ℕ → ℕ
worth [] = 0
worth (b ∷ bs) = b % 128 + 128 * worth bs

-- a byte whose high bit is set
pub record High (b : ℕ) : Type 0 where
  pub set : 128 ≤ b
  pub byte : b < 256

-- the bytes are the written form of n
pub record Written (n : ℕ) (bytes : List ℕ) : Type 0 where
  pub front : List ℕ
  pub last : ℕ
  pub whole : bytes ≡ front ++ last ∷ []
  pub high : All High front
  pub low : last < 128
  pub shortest : (front ≡ []) ⊎ (last ≢ 0)
  pub short : length bytes ≤ 10
  pub value : worth bytes ≡ n
  pub below : n < 2 ^ 64

-- the bytes left are only the beginning of some number
pub record Begun (rest : List ℕ) : Type 0 where
  pub high : All High rest
  pub short : length rest < 10

-- n is written in the first len of the bytes left
pub record Stands (rest : List ℕ) (n len : ℕ) : Type 0 where
  pub inside : len ≤ length rest
  pub written : Written n (take len rest)

-- the first three of the bytes left, each with its high bit set, are worth first
pub record Led (rest : List ℕ) (first : ℕ) : Type 0 where
  pub high : All High (take 3 rest)
  pub value : first ≡ worth (take 3 rest)

-- the bytes left neither begin with a written number nor are the beginning of one
pub record Neither (rest : List ℕ) : Type 0 where
  pub none : (n len : ℕ) → Stands rest n len → ⊥
  pub over : Begun rest → ⊥

-- what reading a number answers of the bytes left
abbrev pub Reads : List ℕ → Result (ℕ × ℕ) Unread → Type 0
Reads rest (Ok (n, len)) = Stands rest n len
Reads rest (Err CutOff) = Begun rest
Reads rest (Err Malformed) = Neither rest

-- the bytes of a number, with n as more than enough fuel
abbrev pub groups : ℕ → ℕ → List ℕ
groups zero n = n ∷ []
groups (suc k) n = let more : List ℕ = (n % 128 + 128) ∷ groups k (n / 128) in cond (ltb n 128) (n ∷ []) more

unfoldable pub groups_of : ℕ → List ℕ
groups_of n = groups n n
