-- `notation::words::word_at` meets its contract.
use Rattle.notation.proofs.Wording.{Passed}
use Rattle.notation.proofs.words.word_at.Given as goal

abbrev pub invariant-loop : goal.invariant-loop
invariant-loop l = Passed l.line l.place l.counter
