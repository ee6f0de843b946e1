-- A call takes at least one byte.
use Rattle.std.proofs.Common.{arith}
use Rattle.transactions.proofs.Lengths.{call_length}
use Rattle.read_schedule.proofs.take_calls.Goals as goal

pub loop-at-smaller : goal.loop-at-smaller
loop-at-smaller c = omega (arith, call_length c.in-Ok.ensures)
