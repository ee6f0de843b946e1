-- `finds::tally` meets its contract.
use Rattle.finds.proofs.tally.Goals as goal

pub returns : goal.returns
returns c = rw (c.free_count.ensures, c.present_count.ensures, c.cell.ensures)
