-- Both buffers keep their lengths, and what stands in the line's stays within it.
use Rattle.std.proofs.Common.{◌≡◌, ◌≤◌, length}
use Rattle.write_schedule.proofs.write_file.Given as goal

abbrev pub invariant-loop : goal.invariant-loop
invariant-loop l = (length l.line ≡ 4096) × (length l.chunk ≡ 4096) × (l.filled ≤ 4096)
