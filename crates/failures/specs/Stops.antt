-- Why a program stops, and its exit status then.
-- Assumes nothing.
use Rattle.std.specs.Prelude.{ℕ}
use Rattle.failures.specs.declared.Stop.{Stop}
use Rattle.failures.specs.declared.Stop.TheVariants.{Told, ReaderLeft}

-- the exit status: 141 where the reader left, and else 0
abbrev pub status_of : Stop → ℕ
status_of Told = 0
status_of ReaderLeft = 141
