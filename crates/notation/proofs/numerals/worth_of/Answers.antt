-- `notation::numerals::worth_of` meets its contract.
use mathlib.Core.Path.{◌∙◌}
use native.Mathlib.Omega.{arith}
use Rattle.notation.proofs.Numbering.{worth_passed}
use Rattle.notation.proofs.numerals.worth_of.Goals as goal

pub returns-in_err-checked_mul : goal.returns-in_err-checked_mul
returns-in_err-checked_mul c =
    let l = c.loop-digit in
    c.from_residual.ensures ∙ worth_passed c.args.digits.now l.digit-index l.sum c.loop-digit-test.true l.invariant.2 (omega (arith, c.in_err-checked_mul.ensures))

pub returns-in_err-sum : goal.returns-in_err-sum
returns-in_err-sum c =
    let l = c.loop-digit in
    c.from_residual-in_err-sum.ensures ∙ worth_passed c.args.digits.now l.digit-index l.sum c.loop-digit-test.true l.invariant.2 (omega (arith, c.in_ok-checked_mul.ensures, c.in_err-sum.ensures))
