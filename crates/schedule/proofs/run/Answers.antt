-- `schedule::run` meets its contract.
use Rattle.schedule.proofs.Turning.{turn_inside}
use Rattle.schedule.proofs.run.Goals as goal

pub print-requires : goal.print-requires
print-requires c = turn_inside c.turn-turned.ensures
