-- `notation::fault_byte` meets its contract.
use mathlib.Core.Path.{refl}
use native.Mathlib.Omega.{arith}
use Rattle.notation.proofs.Telling.{no_call}
use Rattle.notation.proofs.fault_byte.Goals as goal

pub returns : goal.returns
returns c = (refl, no_call _ (omega arith) (omega arith))
