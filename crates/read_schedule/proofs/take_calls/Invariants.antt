-- The place lies in the bytes, and the measure is what is left of them.
use Rattle.std.proofs.Common.{◌-◌, ◌≤◌, length}
use Rattle.read_schedule.proofs.take_calls.Given as goal

abbrev pub invariant-loop-at : goal.invariant-loop-at
invariant-loop-at l = l.at ≤ length l.bytes

abbrev pub decreases-loop-at : goal.decreases-loop-at
decreases-loop-at l = length l.bytes - l.at
