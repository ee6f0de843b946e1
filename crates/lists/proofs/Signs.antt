-- What the code's test on the sign of a 64-bit integer tells, and what `!` makes of a negative one.
-- Assumes nothing.
use Prim.Native.Nat.{ℕ, suc, ◌-◌, ◌^◌, ◌<◌}
use mathlib.Core.Path.{◌≡◌, refl, sym, ap, ◌∙◌}
use mathlib.Core.Bool.{true, false, true≢false}
use native.Mathlib.Omega.{arith}
use lib.Dec.{ltb}
use lib.IntN.{ℤ, pos, negsuc}
use lib.Signed.{lt_z}
use mir.Syntax.{w64}
use mir.Val.{SFits, to_z, of_z}
use mir.ValLaws.{to_z-of_z, to_z_pos}
use borrow.Author.Tests.{ltb-true}

-- z is negative: `!z` is one less than its magnitude
pub record Neg (z : ℤ) : Type 0 where
  pub n : ℕ
  pub is : z ≡ negsuc n
  pub small : n < 2 ^ 63
  pub flip : to_z w64 (18446744073709551615 - of_z w64 z) ≡ pos n

pub neg : (z : ℤ) → SFits w64 z → lt_z (to_z w64 (of_z w64 z)) (pos 0) ≡ true → Neg z
neg (pos n) f e =
    let t : ltb n 0 ≡ true = ap (λ x. lt_z x (pos 0)) (sym (to_z-of_z w64 (pos n) f)) ∙ e in
    absurd (omega (arith, ltb-true n 0 t))
neg (negsuc n) f e =
    let q : 18446744073709551615 - (18446744073709551616 - suc n) ≡ n = omega (arith, f.sfits) in
    record { n = n; is = refl; small = f.sfits; flip = rw q (to_z_pos w64 n f.sfits) }

-- z is not negative
pub record NonNeg (z : ℤ) : Type 0 where
  pub n : ℕ
  pub is : z ≡ pos n
  pub small : n < 2 ^ 63
  pub same : to_z w64 (of_z w64 z) ≡ pos n

pub nonneg : (z : ℤ) → SFits w64 z → lt_z (to_z w64 (of_z w64 z)) (pos 0) ≡ false → NonNeg z
nonneg (pos n) f e = record { n = n; is = refl; small = f.sfits; same = to_z-of_z w64 (pos n) f }
nonneg (negsuc n) f e =
    let t : true ≡ false = ap (λ x. lt_z x (pos 0)) (sym (to_z-of_z w64 (negsuc n) f)) ∙ e in
    absurd (true≢false t)
