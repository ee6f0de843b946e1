-- A word as an error shows it, the byte order mark, and the byte that a fault leaves in a schedule file.
-- Assumes nothing.
use Rattle.std.specs.Prelude.{Bool, cond, ◌&&◌, List, [], ◌∷◌, ◌++◌, map, ℕ, ◌≤◌, leb, length, take, Err}
use Rattle.transactions.specs.declared.Halt.TheVariants.{Stop}
use Rattle.transactions.specs.Readings.{CallRead}
use Rattle.notation.specs.Forms.{same}

-- printable ASCII: from the space to `~`
abbrev pub Printable : ℕ → Type 0
Printable b = (32 ≤ b) × (b ≤ 126)

-- a byte as it is shown: itself where it is printable, else `?`
abbrev pub shown_byte : ℕ → ℕ
shown_byte b = cond (leb 32 b && leb b 126) b 63

-- a word as it is shown: of one of more than 40 bytes the first 40 and `..`
abbrev pub shown : List ℕ → List ℕ
shown word = cond (leb (length word) 40) (map shown_byte word) (map shown_byte (take 40 word) ++ (46 ∷ 46 ∷ []))

-- how many bytes the byte order mark at the front of a text has: none where there is no mark
abbrev pub mark_length : List ℕ → ℕ
mark_length text = cond (same (take 3 text) (239 ∷ 187 ∷ 191 ∷ [])) 3 0

-- the fault byte, which is no code and never will be: the greatest number of one byte
abbrev pub fault_byte : ℕ
fault_byte = 127

-- a byte at which reading a call stops, at its own place, whatever stands behind it or may follow
abbrev pub NoCall : ℕ → Type 0
NoCall byte = (behind : List ℕ) (at : ℕ) (more : Bool) → CallRead (byte ∷ behind) at more (Err (Stop at))
