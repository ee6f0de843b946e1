-- `schedule::begin` meets its contract.
use Rattle.std.proofs.Common.{arith}
use Rattle.schedule.proofs.Turning.{put_laid, begins}
use Rattle.schedule.proofs.begin.Goals as goal

pub returns : goal.returns
returns c = begins c.prepare-answer.ensures c.result_of-result.ensures (put_laid (omega arith) c.put_number_line.auto.out c.put_number_line.ensures) c.drop_front-session.ensures c.next_after.ensures
