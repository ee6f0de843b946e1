-- What the cells and the pairs that a batch lays down tell: how many of a call's cells are numbers of its answer, and how many pairs are its own.
-- Assumes nothing.
use Rattle.std.specs.Prelude.{◌≡◌, Bool, true, false, cond, ◌||◌, List, [], ℕ, ◌+◌, ◌<◌, eqb, length, get_or, ℤ, pos}
use Rattle.std.specs.Int.Signed.{mag}
use Rattle.lists.specs.Holds.{All}
use Rattle.model.specs.Plain.{Pair}
use Rattle.model.specs.Calls as C
use Rattle.batch.specs.Cells.{cells_of}
use Rattle.batch.specs.Turns.{keys_in, values_in}
use Rattle.batch.specs.Lists.{cells_in, pairs_in}

-- how many numbers the answer to a call of this code has: step and sweep two, tally three, any other one
abbrev pub numbers_of : ℕ → ℕ
numbers_of code = cond (eqb code 10) 2 (cond (eqb code 12) 2 (cond (eqb code 13) 3 1))

-- a fast range and a step hand out pairs
abbrev pub hands_out : ℕ → Bool
hands_out code = eqb code 8 || eqb code 10

-- the pairs, where there may be any: as many as the first number says
abbrev pub Paired : Bool → List ℤ → List Pair → Type 0
Paired true xs ps = get_or xs 0 (pos 0) ≡ pos (length ps)
Paired false xs ps = ps ≡ []

-- an answer that a call of this code may get: a refusal is not 0
abbrev pub Fitting : ℕ → C.Answer → Type 0
Fitting code (C.refused n) = 0 < n
Fitting code (C.answered xs ps) = (length xs ≡ numbers_of code) × Paired (hands_out code) xs ps

-- the cells of such an answer
pub record Celled (code : ℕ) (answer : C.Answer) (cells : List ℤ) : Type 0 where
  pub fitting : Fitting code answer
  pub is : cells ≡ cells_of code answer

-- the cells are those of some answer
pub record Cells (cells : List ℤ) : Type 0 where
  pub code : ℕ
  pub answer : C.Answer
  pub celled : Celled code answer cells

-- the cells and the pairs of such an answer
pub record Told (code : ℕ) (answer : C.Answer) (cells ks vs : List ℤ) : Type 0 where
  pub celled : Celled code answer cells
  pub keys : ks ≡ keys_in (C.pairs_in answer)
  pub values : vs ≡ values_in (C.pairs_in answer)

-- they are those of some answer
pub record Tells (cells keys values : List ℤ) : Type 0 where
  pub code : ℕ
  pub answer : C.Answer
  pub told : Told code answer cells keys values

-- the cells and the pairs of calls with their answers, one behind another
pub record ToldAll (hs : List (C.Call × C.Answer)) (xs ks vs : List ℤ) : Type 0 where
  pub fitting : All (λ (h : C.Call × C.Answer). Fitting (C.code h.0) h.1) hs
  pub cells : xs ≡ cells_in hs
  pub keys : ks ≡ keys_in (pairs_in hs)
  pub values : vs ≡ values_in (pairs_in hs)

-- they are those of some calls
pub record TellsAll (cells keys values : List ℤ) : Type 0 where
  pub history : List (C.Call × C.Answer)
  pub told : ToldAll history cells keys values

-- there is such a cell, and it is no negative number
pub record Natural (cells : List ℤ) (i : ℕ) : Type 0 where
  pub inside : i < length cells
  pub is : get_or cells i (pos 0) ≡ pos (mag (get_or cells i (pos 0)))

-- how many of a call's cells its line shows, by its code and 0 or the refusal
abbrev pub shown_of : ℕ → ℕ → ℕ
shown_of code result = cond (eqb result 0) (2 + numbers_of code) 2
