-- What stands in the line's buffer stays within it.
use Rattle.std.proofs.Common.{◌≤◌, length}
use Rattle.write_schedule.proofs.Progress.take_bytes.Given as goal

abbrev pub invariant-loop-byte : goal.invariant-loop-byte
invariant-loop-byte l = l.filled ≤ length l.line
