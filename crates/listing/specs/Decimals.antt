-- The decimal text of a number, as bytes: 48 to 57 are the digits 0 to 9, 45 is `-`.
-- Assumes nothing.
use Rattle.std.specs.Prelude.{◌≡◌, cond, List, [], ◌∷◌, ◌++◌, ℕ, zero, suc, ◌+◌, ◌-◌, ◌*◌, ◌/◌, ◌%◌, ◌≤◌, ◌<◌, ltb, ℤ, pos, negsuc}
use Rattle.lists.specs.Holds.{All}

-- the byte of a digit
abbrev pub digit : ℕ → ℕ
digit d = d + 48

-- a byte that is a digit
abbrev pub Digit : ℕ → Type 0
Digit b = (48 ≤ b) × (b ≤ 57)

-- what the digits are worth behind digits that are worth v: most significant first
abbrev pub worth_from : ℕ → List ℕ → ℕ
worth_from v [] = v
worth_from v (d ∷ ds) = worth_from (v * 10 + (d - 48)) ds

-- at least one digit, and 0 in front of no other
abbrev pub Plain : List ℕ → Type 0
Plain [] = ⊥
Plain (d ∷ []) = Unit {0}
Plain (d ∷ e ∷ ds) = 48 < d

-- the text is the decimal text of n; there is one and only one (proofs/Digits: digits_decimal, decimal_unique)
pub record Decimal (n : ℕ) (text : List ℕ) : Type 0 where
  pub only : All Digit text
  pub worth : worth_from 0 text ≡ n
  pub plain : Plain text

-- the decimal text of n, in k turns: enough for n < k
abbrev pub digits_in : ℕ → ℕ → List ℕ
digits_in zero n = []
digits_in (suc k) n = cond (ltb n 10) (digit n ∷ []) (digits_in k (n / 10) ++ (digit (n % 10) ∷ []))

-- the decimal text of n
unfoldable pub digits : ℕ → List ℕ
digits n = digits_in (suc n) n

-- the decimal text of an integer: `-` in front of a negative one's magnitude
unfoldable pub integer : ℤ → List ℕ
integer (pos n) = digits n
integer (negsuc n) = 45 ∷ digits (suc n)
