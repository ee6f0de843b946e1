-- `places::make_pending` meets its contract.
use Rattle.places.specs.Stores.{stored}
use Rattle.places.specs.Changes.{marked}
use Rattle.places.proofs.make_pending.Goals as goal

pub returns : goal.returns
unfolding marked stored
returns c = rw (c.put-2.ensures, c.put.ensures, c.cell-count.ensures)
