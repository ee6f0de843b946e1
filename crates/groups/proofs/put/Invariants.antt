-- The invariant: storing the bytes of what is left gives the buffer that is asked for. The measure is what is left.
use Prim.Native.Nat.{◌+◌}
use mathlib.Core.Path.{◌≡◌}
use lib.ListN.{length}
use lib.Seq.{sets}
use Rattle.groups.specs.Groups.{groups_of}
use Rattle.groups.proofs.put.Given as goal

abbrev pub invariant-loop-left : goal.invariant-loop-left
invariant-loop-left l =
    (l.place + length (groups_of l.left) ≡ l.at + length (groups_of l.n))
    × (length l.buffer ≡ length l.initial.buffer)
    × (sets l.buffer l.place (groups_of l.left) ≡ sets l.initial.buffer l.at (groups_of l.n))

abbrev pub decreases-loop-left : goal.decreases-loop-left
decreases-loop-left l = l.left
