-- The digits of a number, filled in from the last to the first: the digits left to fill make the text whole.
-- Assumes nothing.
use mathlib.Core.Path.{◌≡◌, refl, sym, ◌∙◌}
use mathlib.Core.List.{List}
use Prim.Native.Nat.{ℕ, suc, ◌+◌, ◌-◌, ◌/◌, ◌%◌, ◌≤◌, ◌<◌}
use native.Mathlib.Omega.{arith}
use lib.ListN.{length, set}
use Rattle.lists.specs.Buffers.{written}
use Rattle.lists.proofs.Writing.{written_none, written_last}
use Rattle.listing.specs.Decimals.{digit, digits}
use Rattle.listing.specs.Puts.{Put}
use Rattle.listing.proofs.Digits.{last_digits, last_length, last_all}

pub fill_start : (out : List ℕ) (at n k : ℕ) → k ≡ length (digits n) → written out at (last_digits (at + k - at) n) ≡ written out at (digits n)
fill_start out at n k h = let e : at + k - at ≡ length (digits n) = omega arith in rw (e, last_all n)

pub fill_next : (out : List ℕ) (at i n d : ℕ) → at < i → i ≤ length out → d ≡ digit (n % 10)
    → written (set out (i - 1) d) at (last_digits (i - 1 - at) (n / 10)) ≡ written out at (last_digits (i - at) n)
fill_next out at i n d h l e = go (i - 1 - at) refl
  where
    go : (j : ℕ) → i - 1 - at ≡ j → written (set out (i - 1) d) at (last_digits (i - 1 - at) (n / 10)) ≡ written out at (last_digits (i - at) n)
    go j q =
        let a : i - at ≡ suc j = omega arith in
        let b : i - 1 ≡ at + length (last_digits j (n / 10)) = omega (arith, last_length j (n / 10)) in
        rw (q, a, b, e) (written_last out at (last_digits j (n / 10)) (digit (n % 10)) (omega arith))

pub fill_end : (out last : List ℕ) (at i rest n k : ℕ) → i ≤ at → k ≡ length (digits n)
    → written last at (last_digits (i - at) rest) ≡ written out at (digits n) → Put out at (length (digits n)) (digits n) last (at + k)
fill_end out last at i rest n k h e w =
    let z : i - at ≡ 0 = omega arith in
    record { cells = sym (written_none last at) ∙ (rw z at w); behind = rw e; within = omega arith }
