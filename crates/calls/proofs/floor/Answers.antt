-- `calls::floor` meets its contract.
use mir.Syntax.{w64}
use mir.ValLaws.{to_z-of_z}
use Rattle.calls.proofs.floor.Goals as goal

pub returns : goal.returns
returns c = rw (to_z-of_z w64 c.args.key c.ranges.key) at c.nearest.ensures
