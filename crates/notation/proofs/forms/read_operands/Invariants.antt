-- `notation::forms::read_operands` meets its contract.
use mathlib.Core.Path.{◌≡◌}
use lib.ListN.{length}
use Rattle.notation.proofs.Forming.{Found}
use Rattle.notation.proofs.forms.read_operands.Given as goal

abbrev pub invariant-loop-i : goal.invariant-loop-i
invariant-loop-i l = (length l.found ≡ 3) × Found l.kinds l.line l.at l.found l.place l.i
