-- `changes::height_of` meets its contract.
use mathlib.Core.Path.{refl}
use native.Mathlib.Omega.{arith}
use Rattle.changes.proofs.Heights.{height_counted, height_full}
use Rattle.changes.proofs.height_of.Goals as goal

pub returns-then-ones-levels : goal.returns-then-ones-levels
returns-then-ones-levels c = height_counted _ _ _ refl (omega arith) c.if-ones-levels.true

pub returns-else-ones-levels : goal.returns-else-ones-levels
returns-else-ones-levels c = height_full _ _ _ refl (omega arith) c.if-ones-levels.false
