-- The lines that `schedule` prints of transactions, from the number, the code and the answer of each.
-- Assumes nothing.
use Rattle.std.specs.Prelude.{List, [], ◌∷◌, ◌++◌, ℕ, suc, ◌+◌, ◌*◌, pos}
use Rattle.listing.specs.Lines.{line}
use Rattle.listing.specs.Puts.{longest}
use Rattle.model.specs.Calls.{Call, code, Answer, printed}

-- the line of a transaction: its number, its code, 0 or the refusal, the answer's numbers, then any pairs as key, value
unfoldable pub line_of : ℕ → ℕ → Answer → List ℕ
line_of number code answer = line (pos number ∷ pos code ∷ printed answer)

-- the lines of calls with their answers, behind so many transactions
abbrev pub lines_behind : ℕ → List (Call × Answer) → List ℕ
lines_behind before [] = []
lines_behind before (h ∷ hs) = line_of (suc before) (code h.0) h.1 ++ lines_behind (suc before) hs

-- room enough for the lines of so many cells and pairs: a line has its transaction's number and at most five cells
abbrev pub most_for : ℕ → ℕ → ℕ
most_for cells pairs = longest (2 * (cells + pairs))
