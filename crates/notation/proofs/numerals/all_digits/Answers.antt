-- `notation::numerals::all_digits` meets its contract.
use mathlib.Core.Path.{◌∙◌}
use mathlib.Core.Bool.{◌&&◌}
use lib.Dec.{leb}
use borrow.Author.Rules.{rules}
use borrow.Author.Tests.{tests}
use Rattle.std.proofs.lemmas.Iterator.{YieldsList-from_slice}
use Rattle.std.proofs.lemmas.Iterator.Search.{all_from_yields_List}
use Rattle.notation.proofs.Numbering.{digits_all}
use Rattle.notation.proofs.numerals.all_digits.Goals as goal

pub returns : goal.returns
returns c = all_from_yields_List (λ b. leb 48 b && leb b 57) _ _ c.all.result c.all.ensures.ran (YieldsList-from_slice c.args.bytes.now (cc)) (λ x b q k. search (rules, tests)) ∙ digits_all c.args.bytes.now
