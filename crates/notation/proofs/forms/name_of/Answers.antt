-- `notation::forms::name_of` meets its contract.
use borrow.Author.Rules.{rules}
use Rattle.notation.specs.Forms.{names, start, name_of}
use Rattle.notation.proofs.Forming.{read_at}
use Rattle.notation.proofs.forms.name_of.Goals as goal

pub returns : goal.returns
unfolding name_of names start
returns c = search (rules, read_at)
