-- The calls and their answers, and what a schedule writes of each.
-- Assumes nothing.
use Rattle.std.specs.Prelude.{Bool, true, false, cond, List, [], ◌∷◌, ◌++◌, map, ℕ, length, get_or, ℤ, pos}
use Rattle.std.specs.Int.Signed.{mag}
use Rattle.model.specs.Plain.{Pair}

-- ---- calls

-- a fast range and a step with their room: the smaller length of the two pair buffers
pub data Call : Type 0 where
  lookup : ℤ → Call
  insert : ℤ → ℤ → ℕ → Call
  remove : ℤ → Call
  hand_over : ℕ → Call
  ceil : ℤ → Call
  floor : ℤ → Call
  succ : ℤ → Call
  pred : ℤ → Call
  fast : ℤ → ℤ → ℕ → Call
  «open» : ℤ → ℤ → Call
  step : ℕ → ℕ → Call
  close : ℕ → Call
  sweep : Call
  tally : Call

-- the code of a call in a schedule, and its numbers there
abbrev pub written : Call → ℕ × List ℤ
written (lookup k) = (0, k ∷ [])
written (insert k v coin) = (1, k ∷ v ∷ pos coin ∷ [])
written (remove k) = (2, k ∷ [])
written (hand_over i) = (3, pos i ∷ [])
written (ceil k) = (4, k ∷ [])
written (floor k) = (5, k ∷ [])
written (succ k) = (6, k ∷ [])
written (pred k) = (7, k ∷ [])
written (fast l h room) = (8, l ∷ h ∷ [])
written («open» l h) = (9, l ∷ h ∷ [])
written (step v room) = (10, pos v ∷ pos room ∷ [])
written (close v) = (11, pos v ∷ [])
written sweep = (12, [])
written tally = (13, [])

abbrev pub code : Call → ℕ
code c = (written c).0

-- the version that a step or a close names
abbrev pub names : Call → ℕ
names c = mag (get_or (written c).1 0 (pos 0))

-- ---- answers

-- a refusal with its number; or the answer's numbers in the document's order, and the pairs handed out
pub data Answer : Type 0 where
  refused : ℕ → Answer
  answered : List ℤ → List Pair → Answer

abbrev pub accepted : Answer → Bool
accepted (refused n) = false
accepted (answered xs ps) = true

abbrev pub pairs_in : Answer → List Pair
pairs_in (refused n) = []
pairs_in (answered xs ps) = ps

-- the answer's number at place i, 0 where there is none
abbrev pub number : ℕ → Answer → ℕ
number i (refused n) = 0
number i (answered xs ps) = mag (get_or xs i (pos 0))

abbrev pub told : List ℕ → Answer
told ns = answered (map pos ns) []

-- the kinds of answer: lookup; insert and remove; hand over; ceil, floor, succ and pred; fast range; open; step; close; sweep; tally
abbrev pub found : ℤ → Answer
found x = answered (x ∷ []) []

abbrev pub node : ℕ → Answer
node i = told (i ∷ [])

abbrev pub handed : ℕ → Answer
handed b = told (b ∷ [])

abbrev pub nearest : ℤ → Answer
nearest k = answered (k ∷ []) []

abbrev pub ranged : List Pair → Answer
ranged ps = answered (pos (length ps) ∷ []) ps

abbrev pub opened : ℕ → Answer
opened v = told (v ∷ [])

abbrev pub stepped : List Pair → Bool → Answer
stepped ps finished = answered (pos (length ps) ∷ pos (cond finished 1 0) ∷ []) ps

abbrev pub made_due : ℕ → Answer
made_due n = told (n ∷ [])

abbrev pub swept : ℕ → ℕ → Answer
swept n due = told (n ∷ due ∷ [])

abbrev pub counts : ℕ → ℕ → ℕ → Answer
counts present held free = told (present ∷ held ∷ free ∷ [])

-- ---- what a schedule prints

abbrev pub flat : List Pair → List ℤ
flat [] = []
flat (p ∷ ps) = p.0 ∷ p.1 ∷ flat ps

-- 0 or the refusal, the answer's numbers, then the pairs
abbrev pub printed : Answer → List ℤ
printed (refused n) = pos n ∷ []
printed (answered xs ps) = pos 0 ∷ xs ++ flat ps
