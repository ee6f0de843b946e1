-- The text of a call and of a header: a line of its name and its numbers.
-- Assumes nothing.
use Rattle.std.specs.Prelude.{List, [], ◌∷◌, ◌++◌, ℕ, pos}
use Rattle.listing.specs.Lines.{spaced, line_after}
use Rattle.transactions.specs.declared.Header.{Header}
use Rattle.transactions.specs.declared.Call.{Call}
use Rattle.transactions.specs.declared.Call.TheVariants.{Lookup, Insert, Remove, HandOver, Ceil, Floor, Succ, Pred, Fast, Open, Step, Close, Sweep, Tally}
use Rattle.notation.specs.Forms.{name_of, start}

abbrev pub text_of : Call → List ℕ
text_of (Lookup k) = line_after (name_of 0) (k ∷ [])
text_of (Insert k v coin) = line_after (name_of 1) (k ∷ v ∷ pos coin ∷ [])
text_of (Remove k) = line_after (name_of 2) (k ∷ [])
text_of (HandOver node) = line_after (name_of 3) (pos node.0 ∷ [])
text_of (Ceil k) = line_after (name_of 4) (k ∷ [])
text_of (Floor k) = line_after (name_of 5) (k ∷ [])
text_of (Succ k) = line_after (name_of 6) (k ∷ [])
text_of (Pred k) = line_after (name_of 7) (k ∷ [])
text_of (Fast l r) = line_after (name_of 8) (l ∷ r ∷ [])
text_of (Open l r) = line_after (name_of 9) (l ∷ r ∷ [])
text_of (Step version room) = line_after (name_of 10) (pos version.0 ∷ pos room ∷ [])
text_of (Close version) = line_after (name_of 11) (pos version.0 ∷ [])
text_of Sweep = line_after (name_of 12) []
text_of Tally = line_after (name_of 13) []

-- a header's capacity and start version, each behind its word
abbrev pub header_text : Header → List ℕ
header_text h = line_after ((name_of 14 ++ spaced (pos h.capacity ∷ [])) ++ (32 ∷ start)) (pos h.start.0 ∷ [])

-- no text is longer
abbrev pub longest_text : ℕ
longest_text = 80
