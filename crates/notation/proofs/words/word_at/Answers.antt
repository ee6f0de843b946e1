-- `notation::words::word_at` meets its contract.
use native.Mathlib.Omega.{arith}
use Rattle.notation.proofs.Wording.{passed_next}
use Rattle.notation.proofs.words.word_at.Goals as goal

pub loop-preserved : goal.loop-preserved
loop-preserved c = let w = c.next_word-word.ensures in passed_next c.loop.invariant c.next_word-word.result w (omega (arith, w.order, c.if-word.false))
