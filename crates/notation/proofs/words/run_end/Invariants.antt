-- `notation::words::run_end` meets its contract: what is left of the run, behind the place reached, ends where the run ends.
use Prim.Native.Nat.{◌+◌}
use mathlib.Core.Path.{◌≡◌}
use lib.ListN.{drop}
use Rattle.notation.specs.Words.{run_of}
use Rattle.notation.proofs.words.run_end.Given as goal

abbrev pub invariant-loop-i : goal.invariant-loop-i
invariant-loop-i l = l.at + run_of l.blanks (drop l.at l.line) ≡ l.i + run_of l.blanks (drop l.i l.line)
