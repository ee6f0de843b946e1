-- Lines of document 01's listing and both ends of the 64-bit range, computed: what the definitions make of them.
-- Assumes nothing.
use mathlib.Core.Path.{◌≡◌, refl, sym, ap}
use mathlib.Core.List.{List, [], ◌∷◌, ◌++◌}
use Prim.Native.Nat.{ℕ}
use borrow.Author.Rules.{rules}
use lib.IntN.{pos, negsuc}
use Rattle.listing.specs.Decimals.{digits, integer}
use Rattle.listing.specs.Lines.{line_after, line, paired}
use Rattle.listing.proofs.Digits.{decimal_unique}

-- `8 8 0 2 10 1 20 -7`
fast_line : line (pos 8 ∷ ((pos 8 ∷ pos 0 ∷ pos 2 ∷ []) ++ paired (pos 10 ∷ pos 20 ∷ []) (pos 1 ∷ negsuc 6 ∷ [])))
    ≡ 56 ∷ 32 ∷ 56 ∷ 32 ∷ 48 ∷ 32 ∷ 50 ∷ 32 ∷ 49 ∷ 48 ∷ 32 ∷ 49 ∷ 32 ∷ 50 ∷ 48 ∷ 32 ∷ 45 ∷ 55 ∷ 10 ∷ []
unfolding line line_after integer digits
fast_line = refl

-- `set-up 0`
set_up_line_lem : line_after (115 ∷ 101 ∷ 116 ∷ 45 ∷ 117 ∷ 112 ∷ []) (pos 0 ∷ [])
    ≡ 115 ∷ 101 ∷ 116 ∷ 45 ∷ 117 ∷ 112 ∷ 32 ∷ 48 ∷ 10 ∷ []
unfolding line_after integer digits
set_up_line_lem = refl

-- `end`
end_line : line_after (101 ∷ 110 ∷ 100 ∷ []) [] ≡ 101 ∷ 110 ∷ 100 ∷ 10 ∷ []
unfolding line_after
end_line = refl

-- both ends of the 64-bit range: great numbers are not computed digit by digit, but known by their one text
greatest : digits 18446744073709551615 ≡ 49 ∷ 56 ∷ 52 ∷ 52 ∷ 54 ∷ 55 ∷ 52 ∷ 52 ∷ 48 ∷ 55 ∷ 51 ∷ 55 ∷ 48 ∷ 57 ∷ 53 ∷ 53 ∷ 49 ∷ 54 ∷ 49 ∷ 53 ∷ []
greatest = sym (decimal_unique _ _ (record { only = search rules; worth = refl; plain = search rules }))

least : integer (negsuc 9223372036854775807) ≡ 45 ∷ 57 ∷ 50 ∷ 50 ∷ 51 ∷ 51 ∷ 55 ∷ 50 ∷ 48 ∷ 51 ∷ 54 ∷ 56 ∷ 53 ∷ 52 ∷ 55 ∷ 55 ∷ 53 ∷ 56 ∷ 48 ∷ 56 ∷ []
unfolding integer
least = ap {B = List ℕ} (λ r. 45 ∷ r) (sym (decimal_unique _ _ (record { only = search rules; worth = refl; plain = search rules })))
