-- `failures::write_front` meets its contract.
use Rattle.std.specs.Prelude.{Err}
use mathlib.Core.Path.{ap}
use native.Mathlib.Omega.{arith}
use Rattle.std.specs.IoError.{os_error_kind}
use Rattle.failures.proofs.write_front.Goals as goal

pub returns-in-None : goal.returns-in-None
unfolding os_error_kind
returns-in-None c n = ap Err (c.unwritten.ensures.told (λ e. grind (arith, c.from_raw_os_error.ensures.kind, e)))
