-- The buffer keeps its length, what is held lies in it, and more may follow.
use Rattle.std.proofs.Common.{◌≡◌, true, length}
use Rattle.windows.specs.Windows.{Held, left_of}
use Rattle.read_schedule.proofs.begin.Given as goal

abbrev pub invariant-loop-window : goal.invariant-loop-window
invariant-loop-window l = (length l.buffer ≡ length l.initial.buffer) × Held l.window (length l.buffer) × (l.window.more ≡ true)

abbrev pub decreases-loop-window : goal.decreases-loop-window
decreases-loop-window l = left_of l.window
