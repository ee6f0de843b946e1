-- Laws of a code that is none of those before it, and of a signed number that was turned back.
-- Assumes nothing.
use Prim.Native.Nat.{ℕ, zero, suc, ◌≤◌, ◌<◌}
use mathlib.Core.Path.{◌≡◌, ap, ◌∙◌}
use native.Mathlib.Omega.{arith}
use native.Mathlib.Nat.{le_antisymm}
use lib.IntN.{ℤ}
use lib.Signed.{mag}
use mir.Syntax.{w64}
use mir.Val.{to_z, of_z}
use mir.ValLaws.{to_z-of_z}
use Rattle.groups.specs.Signs.{turned, unturned}
use Rattle.groups.proofs.Signing.{turned_unturned}

-- the code is none of those below n
abbrev pub Past : ℕ → ℕ → Type 0
Past zero code = Unit {0}
Past (suc n) code = Past n code × (code ≡ n → ⊥)

pub past : (n code : ℕ) → Past n code → n ≤ code
past zero code p = omega arith
past (suc n) code p = let h = past n code p.0 in let k = p.1 in omega arith

pub last_code : (n code : ℕ) → code ≤ n → Past n code → code ≡ n
last_code n code l p = le_antisymm l (past n code p)

-- a signed number that was turned back, as a call holds it
pub signed : {z : ℤ} {n : ℕ} → mag z < 9223372036854775808 → z ≡ unturned n → turned (to_z w64 (of_z w64 z)) ≡ n
signed {z} {n} f e = ap turned (to_z-of_z w64 z (record { sfits = f }) ∙ e) ∙ turned_unturned n
