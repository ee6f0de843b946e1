use mathlib.Core.Path.{ap}
use Rattle.tables.specs.Tables.{version}
use Rattle.tables.proofs.inserted.Goals as goal

pub returns : goal.returns
returns c = ap version c.cell.ensures
