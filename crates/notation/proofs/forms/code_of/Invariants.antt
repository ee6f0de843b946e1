-- `notation::forms::code_of` meets its contract.
use mathlib.Core.Path.{◌≡◌}
use Prim.Native.Nat.{◌+◌}
use lib.ListN.{drop}
use Rattle.notation.specs.Forms.{names, find}
use Rattle.notation.proofs.forms.code_of.Given as goal

abbrev pub invariant-loop-code : goal.invariant-loop-code
invariant-loop-code l = find names l.word ≡ l.code + find (drop l.code names) l.word
