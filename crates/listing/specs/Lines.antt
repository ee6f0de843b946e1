-- The lines that `schedule` prints, as bytes: 32 is a space, 10 a line feed.
-- Assumes nothing.
use Rattle.std.specs.Prelude.{List, [], ◌∷◌, ◌++◌, ℕ, ℤ}
use Rattle.listing.specs.Decimals.{integer}

-- each integer with a space in front
abbrev pub spaced : List ℤ → List ℕ
spaced [] = []
spaced (z ∷ zs) = (32 ∷ integer z) ++ spaced zs

-- a line that begins with these bytes, and has these integers behind them
unfoldable pub line_after : List ℕ → List ℤ → List ℕ
line_after word zs = word ++ (spaced zs ++ (10 ∷ []))

-- a line of integers: single spaces between them, and a line feed at the end
unfoldable pub line : List ℤ → List ℕ
line [] = 10 ∷ []
line (z ∷ zs) = line_after (integer z) zs

-- pairs as key, value
abbrev pub paired : List ℤ → List ℤ → List ℤ
paired [] vs = []
paired (k ∷ ks) [] = []
paired (k ∷ ks) (v ∷ vs) = k ∷ v ∷ paired ks vs
