-- `notation::forms::kinds_of` meets its contract.
use borrow.Author.Rules.{rules}
use Rattle.notation.specs.Forms.{kinds}
use Rattle.notation.proofs.Forming.{read_at}
use Rattle.notation.proofs.forms.kinds_of.Goals as goal

pub returns : goal.returns
unfolding kinds
returns c = search (rules, read_at)
