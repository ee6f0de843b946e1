-- `places::free_count` meets its contract: the list is as long as its count.
use mathlib.Core.Path.{sym, ◌∙◌}
use Rattle.places.proofs.Lists.{free_length}
use Rattle.places.proofs.free_count.Goals as goal

pub returns : goal.returns
returns c = c.cell.ensures ∙ sym (free_length _ _)
