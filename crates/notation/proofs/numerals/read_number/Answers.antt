-- `notation::numerals::read_number` meets its contract.
use mathlib.Core.Path.{◌∙◌}
use Rattle.notation.proofs.Numbering.{number_minus, number_plain}
use Rattle.notation.proofs.numerals.read_number.Goals as goal

pub returns-in-Some : goal.returns-in-Some
returns-in-Some c = c.read_digits.ensures ∙ number_minus c.args.kind c.args.word.now _ c.in-Some.ensures.cases

pub returns-in-None : goal.returns-in-None
returns-in-None c = c.read_digits-in-None.ensures ∙ number_plain c.args.kind c.args.word.now c.in-None.ensures.cases
