-- `notation::words::run_end` meets its contract: what is left of the run, behind the place reached, ends where the run ends.
use native.Mathlib.Omega.{arith}
use Rattle.notation.proofs.Wording.{run_stops, run_goes, run_over}
use Rattle.notation.proofs.words.run_end.Goals as goal

pub returns-then-is_blank-blanks : goal.returns-then-is_blank-blanks
returns-then-is_blank-blanks c = (omega (arith, c.loop-i.invariant, run_stops _ _ _ _ c.loop-i-test.true c.is_blank.ensures c.if-is_blank-blanks.true), omega arith)

pub loop-i-preserved : goal.loop-i-preserved
loop-i-preserved c = omega (arith, c.loop-i.invariant, run_goes _ _ _ _ c.loop-i-test.true c.is_blank.ensures c.if-is_blank-blanks.false)

pub returns : goal.returns
returns c = (omega (arith, c.loop-i.invariant, run_over c.args.blanks c.args.line.now c.loop-i.i c.loop-i-test.false), omega arith)
