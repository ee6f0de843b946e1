-- Laws of signed numbers as unsigned ones.
-- Assumes nothing.
use Prim.Native.Nat.{ℕ, suc, ◌-◌, ◌*◌, ◌%◌, ◌^◌, ◌<◌}
use mathlib.Core.Path.{◌≡◌, ap}
use native.Mathlib.Omega.{arith}
use native.Mathlib.Decide.{ℕ_discrete}
use lib.IntN.{ℤ, pos, negsuc}
use mir.Syntax.{w64}
use mir.Val.{SFits}
use borrow.Author.Tests.{eq-eqb, ne_eqb}
use Rattle.groups.specs.Signs.{turned, unturned}

-- LAW: unturned undoes turned, on every number
pub unturned_turned : (z : ℤ) → unturned (turned z) ≡ z
unturned_turned (pos n) = rw (eq-eqb (2 * n % 2) 0 (omega arith)) (ap pos (omega arith))
unturned_turned (negsuc n) = rw (ne_eqb ((2 * suc n - 1) % 2) 0 (omega arith)) (ap negsuc (omega arith))

-- LAW: turned undoes unturned, on every number
pub turned_unturned : (n : ℕ) → turned (unturned n) ≡ n
turned_unturned n = go (ℕ_discrete (n % 2) 0)
  where
    go : Dec (n % 2 ≡ 0) → turned (unturned n) ≡ n
    go (yes e) = rw (eq-eqb (n % 2) 0 e) (omega arith)
    go (no e) = rw (ne_eqb (n % 2) 0 e) (omega arith)

-- LAW: the 64-bit numbers, signed and unsigned, are each other's
pub turned_fits : (z : ℤ) → SFits w64 z → turned z < 2 ^ 64
turned_fits (pos n) f = omega (arith, f.sfits)
turned_fits (negsuc n) f = omega (arith, f.sfits)

pub unturned_fits : (n : ℕ) → n < 2 ^ 64 → SFits w64 (unturned n)
unturned_fits n f = go (ℕ_discrete (n % 2) 0)
  where
    go : Dec (n % 2 ≡ 0) → SFits w64 (unturned n)
    go (yes e) = rw (eq-eqb (n % 2) 0 e) (record { sfits = omega arith })
    go (no e) = rw (ne_eqb (n % 2) 0 e) (record { sfits = omega arith })
