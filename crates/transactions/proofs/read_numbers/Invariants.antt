-- The invariant: the first numbers are found (`Found`).
use Rattle.transactions.specs.Inner.{in_order}
use Rattle.transactions.proofs.Running.{Found}
use Rattle.transactions.proofs.read_numbers.Given as goal

abbrev pub invariant-loop-i : goal.invariant-loop-i
invariant-loop-i l = Found l.count l.most l.bytes (in_order l.found) l.at l.place l.i
