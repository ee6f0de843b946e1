-- `windows::move_to_front` meets its contract. The invariant: the first i bytes were moved, and the rest is as it was.
use Rattle.std.proofs.Common.{◌≡◌, ℕ, ◌+◌, ◌≤◌, ◌<◌, get_or}
use Rattle.windows.proofs.move_to_front.Given as goal

abbrev pub invariant-loop-i : goal.invariant-loop-i
invariant-loop-i l = record {
  front : (k : ℕ) → k < l.i → get_or l.buffer k 0 ≡ get_or l.initial.buffer (l.from + k) 0;
  back : (k : ℕ) → l.i ≤ k → get_or l.buffer k 0 ≡ get_or l.initial.buffer k 0;
}
