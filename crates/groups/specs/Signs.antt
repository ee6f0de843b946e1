-- Signed numbers as unsigned ones: n ≥ 0 is written as 2 × n, n < 0 as −2 × n − 1.
-- Assumes nothing.
use Rattle.std.specs.Prelude.{ℕ, suc, ◌*◌, ◌-◌, ◌/◌, ◌%◌, cond, eqb, ℤ, pos, negsuc}

-- negsuc n is the number −(n + 1)
abbrev pub turned : ℤ → ℕ
turned (pos n) = 2 * n
turned (negsuc n) = 2 * suc n - 1

-- the signed number that is written as n
abbrev pub unturned : ℕ → ℤ
unturned n = cond (eqb (n % 2) 0) (pos (n / 2)) (negsuc (n / 2))
