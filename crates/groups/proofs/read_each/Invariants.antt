-- `groups::read_each` meets its contract. The loop's invariant: the bytes behind have their high bits set (`Going`).
use lib.ListN.{drop}
use Rattle.groups.proofs.Scanning as scan
use Rattle.groups.proofs.read_each.Given as goal

abbrev pub invariant-loop-count : goal.invariant-loop-count
invariant-loop-count l = scan.Going (drop l.at l.bytes) l.sum l.power l.count
