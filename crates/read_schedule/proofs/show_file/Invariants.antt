-- What is held lies in the buffer.
use Rattle.std.proofs.Common.{◌≡◌, length}
use Rattle.windows.specs.Windows.{Held, left_of}
use Rattle.read_schedule.proofs.show_file.Given as goal

abbrev pub invariant-loop-window : goal.invariant-loop-window
invariant-loop-window l = (length l.buffer ≡ 4096) × Held l.window (length l.buffer)

abbrev pub decreases-loop-window : goal.decreases-loop-window
decreases-loop-window l = left_of l.window
