-- `schedule::first_turn` meets its contract.
use Rattle.std.proofs.Common.{arith}
use Rattle.schedule.proofs.Turning.{put_laid, header_begins, header_stops}
use Rattle.schedule.proofs.first_turn.Goals as goal

pub returns-in-Ok : goal.returns-in-Ok
returns-in-Ok c = header_begins _ c.requires.0 c.args.input.now (omega arith) c.in-Ok.ensures c.begin.ensures

pub returns-in-Err-Stop : goal.returns-in-Err-Stop
returns-in-Err-Stop c =
    header_stops _ c.requires.0 c.args.input.now (omega arith) _ (rw c.in-Err-Stop.field-0-is at c.in-Err-Stop.ensures) c.offset_of.ensures (put_laid (omega arith) c.put_number_line.auto.out c.put_number_line.ensures)
