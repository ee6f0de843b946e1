-- `notation::forms::code_of` meets its contract.
use mathlib.Core.Path.{sym, ◌∙◌}
use native.Mathlib.Omega.{arith}
use Rattle.notation.proofs.Forming.{find_here, find_behind, find_none}
use Rattle.notation.proofs.forms.code_of.Goals as goal

pub returns-then-is_name-clause-is : goal.returns-then-is_name-clause-is
returns-then-is_name-clause-is c = omega (arith, c.loop-code.invariant, find_here c.args.word.now _ c.loop-code-test.true (sym c.if-is_name.true ∙ c.is_name.ensures))

pub loop-code-preserved : goal.loop-code-preserved
loop-code-preserved c = omega (arith, c.loop-code.invariant, find_behind c.args.word.now _ c.loop-code-test.true (sym c.if-is_name.false ∙ c.is_name.ensures))

pub returns-clause-is : goal.returns-clause-is
returns-clause-is c = omega (arith, c.loop-code.invariant, find_none c.args.word.now _ c.loop-code-test.false)
