-- What the inner functions say, which the public contracts do not cite.
-- Assumes nothing.
use Rattle.std.specs.Prelude.{ℕ, ◌+◌, ◌≤◌, ◌<◌, ◌≡◌, Bool, List, [], ◌∷◌, length, take, replicate, get_or, true, Result, Ok, Err}
use Rattle.transactions.specs.declared.Three.{Three}
use Rattle.transactions.specs.declared.Halt.{Halt}
use Rattle.transactions.specs.declared.Halt.TheVariants.{Stop, More}
use Rattle.groups.specs.Groups.{Begun, Stands}
use Rattle.transactions.specs.Sequences.{Reached, listed}
use Rattle.transactions.specs.Calls.{operands_of, call_limit}
use Rattle.transactions.specs.Readings.{Halts}

-- the three as a list
abbrev pub in_order : Three → List ℕ
in_order t = t.first ∷ t.second ∷ t.third ∷ []

-- no number within the limit stands here, nor is one begun where more bytes may follow
pub record NoNumber (most : ℕ) (rest : List ℕ) (more : Bool) : Type 0 where
  pub none : (n len : ℕ) → Stands rest n len → n ≤ most → ⊥
  pub final : more ≡ true → Begun rest → ⊥

-- a number within the limit and its length, or that there is none, or that it is only begun and more may follow
abbrev pub NumberRead : ℕ → List ℕ → ℕ → Bool → Result (ℕ × ℕ) Halt → Type 0
NumberRead most rest at more (Ok (n, len)) = Stands rest n len × (n ≤ most)
NumberRead most rest at more (Err (Stop place)) = (place ≡ at) × NoNumber most rest more
NumberRead most rest at more (Err More) = (more ≡ true) × Begun rest

-- all numbers that a list of limits asks for, the first of three, which end at the place
pub record WholeNumbers (limits rest : List ℕ) (at : ℕ) (three : Three) (place : ℕ) : Type 0 where
  pub offset : ℕ
  pub is : place ≡ at + offset
  pub reached : Reached (listed limits) rest (take (length limits) (three.first ∷ three.second ∷ three.third ∷ [])) offset

-- these numbers and the place behind them, or why they are not read
abbrev pub NumbersRead : List ℕ → List ℕ → ℕ → Bool → Result (Three × ℕ) Halt → Type 0
NumbersRead limits rest at more (Ok (three, place)) = WholeNumbers limits rest at three place
NumbersRead limits rest at more (Err halt) = Halts (listed limits) rest at more halt

-- the code of a call, which ends at the place
pub record CodeRead (rest : List ℕ) (at code place : ℕ) : Type 0 where
  pub offset : ℕ
  pub is : place ≡ at + offset
  pub reached : Reached call_limit rest (code ∷ []) offset

-- no code stands at the place: a code is a number of one byte
abbrev pub NoCode : List ℕ → ℕ → Type 0
NoCode bytes at = at < length bytes → 13 < get_or bytes at 0

-- the limits of the numbers behind a code: how many, and the limit of each
pub record OperandsFor (code : ℕ) (r : ℕ × ℕ) : Type 0 where
  pub few : r.0 ≤ 3
  pub limits : replicate r.0 r.1 ≡ operands_of code
