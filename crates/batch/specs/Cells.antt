-- An answer as five cells.
-- Assumes nothing.
use Rattle.std.specs.Prelude.{Result, Ok, Err, List, [], ◌∷◌, ℕ, get_or, ℤ, pos}
use Rattle.model.specs.declared.Refusal.{Refusal}
use Rattle.model.specs.declared.Stepped.{Stepped}
use Rattle.model.specs.Calls.{Answer, refused, answered}

-- the call's code, 0 or the refusal, and the answer's numbers, zeros behind them
abbrev pub cells_of : ℕ → Answer → List ℤ
cells_of code (refused n) = pos code ∷ pos n ∷ pos 0 ∷ pos 0 ∷ pos 0 ∷ []
cells_of code (answered xs ps) = pos code ∷ pos 0 ∷ get_or xs 0 (pos 0) ∷ get_or xs 1 (pos 0) ∷ get_or xs 2 (pos 0) ∷ []

-- how many pairs a fast range, a step hands out
abbrev pub ranged_count : Result ℕ Refusal → ℕ
ranged_count (Ok n) = n
ranged_count (Err n) = 0

abbrev pub stepped_count : Result Stepped Refusal → ℕ
stepped_count (Ok s) = s.pairs
stepped_count (Err n) = 0
