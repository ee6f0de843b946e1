-- Numbers one after another, each with a limit.
-- Assumes nothing.
use Rattle.std.specs.Prelude.{ℕ, ◌≤◌, ◌≡◌, Bool, true, List, [], ◌∷◌, ◌++◌, length, take, drop}
use Rattle.std.proofs.Math.Option.{Option, none, some}
use Rattle.std.proofs.Math.ListN.{get_elem?}
use Rattle.groups.specs.Groups.{Written, Begun, Stands, groups_of}

-- the bytes are the written form of n, and behind it what Rest says
pub record First (n : ℕ) (Rest : List ℕ → Type 0) (bytes : List ℕ) : Type 0 where
  pub front : List ℕ
  pub back : List ℕ
  pub whole : bytes ≡ front ++ back
  pub written : Written n front
  pub rest : Rest back

-- the bytes are the written forms of these numbers, one after another
abbrev pub Sequence : List ℕ → List ℕ → Type 0
Sequence [] bytes = bytes ≡ []
Sequence (n ∷ ns) bytes = First n (Sequence ns) bytes

-- these bytes
abbrev pub bytes_of : List ℕ → List ℕ
bytes_of [] = []
bytes_of (n ∷ ns) = groups_of n ++ bytes_of ns

-- A limit is the greatest value that the next number may have, given the numbers before it: none where nothing more belongs to them.
abbrev pub AtMost : ℕ → Option ℕ → Type 0
AtMost n none = ⊥
AtMost n (some most) = n ≤ most

-- each number is within its limit
abbrev pub Within : (List ℕ → Option ℕ) → List ℕ → Type 0
Within limit [] = Unit {0}
Within limit (n ∷ ns) = AtMost n (limit []) × Within (λ ms. limit (n ∷ ms)) ns

-- limits that are a list
abbrev pub listed : List ℕ → List ℕ → Option ℕ
listed limits ns = get_elem? limits (length ns)

-- these numbers, each within its limit, stand in the first bytes, up to this offset
pub record Reached (limit : List ℕ → Option ℕ) (bytes numbers : List ℕ) (offset : ℕ) : Type 0 where
  pub inside : offset ≤ length bytes
  pub before : Sequence numbers (take offset bytes)
  pub within : Within limit numbers

-- the offset of the first number, from the left, that is malformed, cut off or out of range: those before it are well, one more is due, and none within its limit stands there
pub record Stops (limit : List ℕ → Option ℕ) (bytes : List ℕ) (offset : ℕ) : Type 0 where
  pub numbers : List ℕ
  pub reached : Reached limit bytes numbers offset
  pub most : ℕ
  pub due : limit numbers ≡ some most
  pub bad : (n len : ℕ) → Stands (drop offset bytes) n len → n ≤ most → ⊥

-- it stops there: where more bytes may follow, the number there is not one that is only begun
pub record Stopped (limit : List ℕ → Option ℕ) (bytes : List ℕ) (more : Bool) (offset : ℕ) : Type 0 where
  pub stops : Stops limit bytes offset
  pub final : more ≡ true → Begun (drop offset bytes) → ⊥

-- more bytes may follow, and the number that is cut off is only begun
pub record Waits (limit : List ℕ → Option ℕ) (bytes : List ℕ) (more : Bool) : Type 0 where
  pub follows : more ≡ true
  pub offset : ℕ
  pub stops : Stops limit bytes offset
  pub begun : Begun (drop offset bytes)
