-- The words of a line: what stands between blanks, up to a remark.
-- Assumes nothing.
use Rattle.std.specs.Prelude.{◌≡◌, Bool, true, false, cond, not, ◌||◌, List, [], ◌∷◌, ℕ, suc, ◌+◌, ◌-◌, ◌≤◌, ◌<◌, eqb, length, take, drop, get_or}
use Rattle.std.specs.Bool.{beq}
use Rattle.lists.specs.Filters.{filter, empty}
use Rattle.notation.specs.declared.words.Span.{Span}

-- a space, a tab, a line feed or a carriage return
abbrev pub blank : ℕ → Bool
blank b = eqb b 32 || eqb b 9 || eqb b 10 || eqb b 13

-- a byte in front of the first of some pieces
abbrev pub onto : ℕ → List (List ℕ) → List (List ℕ)
onto b [] = (b ∷ []) ∷ []
onto b (w ∷ ws) = (b ∷ w) ∷ ws

-- the pieces between blanks, the empty ones too
abbrev pub pieces : List ℕ → List (List ℕ)
pieces [] = [] ∷ []
pieces (b ∷ bs) = cond (blank b) ([] ∷ pieces bs) (onto b (pieces bs))

-- these bytes begin with `#`
abbrev pub remark : List ℕ → Bool
remark [] = false
remark (b ∷ bs) = eqb b 35

-- the pieces in front of the first remark
abbrev pub unremarked : List (List ℕ) → List (List ℕ)
unremarked [] = []
unremarked (w ∷ ws) = cond (remark w) [] (w ∷ unremarked ws)

-- the words of a line: the pieces that are not empty, in front of a remark
unfoldable pub words : List ℕ → List (List ℕ)
words line = unremarked (filter (λ w. not (empty w)) (pieces line))

-- the part of a line between two places
abbrev pub part : ℕ → ℕ → List ℕ → List ℕ
part from to line = take (to - from) (drop from line)

-- how many blanks, or bytes that are none, stand at the front
abbrev pub run_of : Bool → List ℕ → ℕ
run_of blanks [] = 0
run_of blanks (b ∷ bs) = cond (beq (blank b) blanks) (suc (run_of blanks bs)) 0

-- how many bytes the word at the front has: none where a remark stands there
abbrev pub word_run : List ℕ → ℕ
word_run s = cond (remark s) 0 (run_of false s)

-- the span of the first word from a place on, behind the blanks there: an empty one where there is no word
pub record NextWord (line : List ℕ) (at : ℕ) (r : Span) : Type 0 where
  pub starts : r.start ≡ at + run_of true (drop at line)
  pub ends : r.end ≡ r.start + word_run (drop r.start line)
  pub order : r.start ≤ r.end
  pub inside : r.end ≤ length line
  pub none : r.start ≡ r.end → words (drop at line) ≡ []
  pub some : r.start < r.end → words (drop at line) ≡ part r.start r.end line ∷ words (drop r.end line)

-- the span of the word with this number, counted from 0 from the left: an empty one where there are fewer words
pub record WordAt (line : List ℕ) (number : ℕ) (r : Span) : Type 0 where
  pub order : r.start ≤ r.end
  pub inside : r.end ≤ length line
  pub is : part r.start r.end line ≡ get_or (words line) number []
