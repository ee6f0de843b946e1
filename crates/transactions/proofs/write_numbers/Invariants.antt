-- The invariant: the first numbers' bytes stand at the front.
use Prim.Native.Nat.{◌≤◌}
use mathlib.Core.Path.{◌≡◌}
use lib.ListN.{length, take}
use lib.Seq.{sets}
use Rattle.transactions.specs.Sequences.{bytes_of}
use Rattle.transactions.proofs.write_numbers.Given as goal

abbrev pub invariant-loop-n : goal.invariant-loop-n
invariant-loop-n l =
    (l.place ≡ length (bytes_of (take l.n-index l.numbers)))
    × (l.buffer ≡ sets l.initial.buffer 0 (bytes_of (take l.n-index l.numbers)))
    × (length (bytes_of l.numbers) ≤ length l.initial.buffer)
