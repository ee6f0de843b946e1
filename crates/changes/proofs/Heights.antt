-- The height that a coin gives, as the code comes to it: by the trailing zeros of the coin's complement.
-- Assumes nothing.
use mathlib.Core.Path.{◌≡◌, refl, sym, ap, ◌∙◌}
use mathlib.Core.Logic.{by_cases}
use Prim.Native.Nat.{ℕ, zero, suc, ◌+◌, ◌-◌, ◌/◌, ◌%◌, ◌^◌, ◌≤◌, ◌<◌, min}
use native.Mathlib.Omega.{arith}
use native.Mathlib.Decide.{dec_le, ℕ_discrete}
use native.Mathlib.Nat.{min-eq_left, min-eq_right, pow-suc}
use lib.Count.{count_trailing_zeros}
use borrow.Author.Tests.{eq-eqb, ne_eqb}
use Rattle.model.specs.Model.{trailing_ones, height_of}

-- LAW: the trailing ones of a number of k digits are the trailing zeros of its complement
pub complement : (k c : ℕ) → c < 2 ^ k → count_trailing_zeros k (2 ^ k - 1 - c) ≡ trailing_ones k c
unfolding count_trailing_zeros
complement zero c h = refl
complement (suc k) c h = go (ℕ_discrete (c % 2) 1) (complement k (c / 2) (omega (arith, pow-suc 2 k)))
  where
    half : (2 ^ suc k - 1 - c) / 2 ≡ 2 ^ k - 1 - c / 2
    half = omega (arith, pow-suc 2 k, h)

    low : (2 ^ suc k - 1 - c) % 2 ≡ 1 - c % 2
    low = omega (arith, pow-suc 2 k, h)

    go : Dec (c % 2 ≡ 1) → count_trailing_zeros k (2 ^ k - 1 - c / 2) ≡ trailing_ones k (c / 2) → count_trailing_zeros (suc k) (2 ^ suc k - 1 - c) ≡ trailing_ones (suc k) c
    go (yes e) ih = let z : 1 - c % 2 ≡ 0 = omega arith in rw (half, low, z, eq-eqb (c % 2) 1 e) (ap suc ih)
    go (no e) ih = let z : 1 - c % 2 ≡ 1 = omega arith in rw (half, low, z, ne_eqb (c % 2) 1 e)

-- LAW: so the height is one more than their count, or the levels where these are fewer
pub height_counted : (levels coin ones : ℕ) → ones ≡ count_trailing_zeros 64 (18446744073709551615 - coin) → coin < 2 ^ 64 → ones < levels → ones + 1 ≡ height_of levels coin
height_counted levels coin ones e f h = go 64 (e ∙ complement 64 coin f)
  where
    go : (k : ℕ) → ones ≡ trailing_ones k coin → ones + 1 ≡ min levels (1 + trailing_ones k coin)
    go k q = rw (sym q) (let z : ones + 1 ≡ 1 + ones = omega arith in z ∙ sym (min-eq_right (omega arith)))

pub height_full : (levels coin ones : ℕ) → ones ≡ count_trailing_zeros 64 (18446744073709551615 - coin) → coin < 2 ^ 64 → levels ≤ ones → levels ≡ height_of levels coin
height_full levels coin ones e f h = go 64 (e ∙ complement 64 coin f)
  where
    go : (k : ℕ) → ones ≡ trailing_ones k coin → levels ≡ min levels (1 + trailing_ones k coin)
    go k q = rw (sym q) (sym (min-eq_left (omega arith)))

-- LAW: a height is 1 to the levels
pub height_within : (levels coin : ℕ) → 0 < levels → (0 < height_of levels coin) × (height_of levels coin ≤ levels)
height_within levels coin h = least levels (trailing_ones 64 coin) h
  where
    least : (a b : ℕ) → 0 < a → (0 < min a (1 + b)) × (min a (1 + b) ≤ a)
    least a b p = by_cases (dec_le a (1 + b)) (λ l. rw (min-eq_left l) (p, omega arith)) (λ l. let q : 1 + b ≤ a = omega arith in rw (min-eq_right q) (omega arith))
