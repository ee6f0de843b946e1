-- The next turn is ready, and the room for the input has the length that it had.
use Rattle.std.proofs.Common.{◌≡◌, length}
use Rattle.windows.specs.Windows.{left_of}
use Rattle.schedule.specs.Turns.{Ready, input_size}
use Rattle.schedule.proofs.run.Given as goal

abbrev pub invariant-loop-input : goal.invariant-loop-input
invariant-loop-input l = Ready l.session × (length l.input ≡ input_size)

abbrev pub decreases-loop-input : goal.decreases-loop-input
decreases-loop-input l = left_of l.session.window
