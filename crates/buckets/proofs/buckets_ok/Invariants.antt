-- `buckets::buckets_ok` meets its contract.
use Rattle.buckets.proofs.Testing.{Passed}
use Rattle.buckets.proofs.buckets_ok.Given as goal

abbrev pub invariant-loop-b : goal.invariant-loop-b
invariant-loop-b l = Passed l.keys l.rows l.buckets l.cap l.left l.b
