-- `notation::forms::is_name` meets its contract.
use Rattle.notation.proofs.Forming.{same_told}
use Rattle.notation.proofs.forms.is_name.Goals as goal

pub returns : goal.returns
returns c = same_told _ _ _ _ c.eq.ensures c.name_of.ensures
