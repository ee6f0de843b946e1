-- The invariant: the bytes counted, with those of what is left, are one more than the number's. The measure is what is left.
use Prim.Native.Nat.{◌+◌, ◌^◌, ◌<◌}
use mathlib.Core.Path.{◌≡◌}
use lib.ListN.{length}
use Rattle.groups.specs.Groups.{groups_of}
use Rattle.groups.proofs.length_of.Given as goal

abbrev pub invariant-loop-rest : goal.invariant-loop-rest
invariant-loop-rest l = (l.count + length (groups_of l.rest) ≡ 1 + length (groups_of l.n)) × (l.n < 2 ^ 64)

abbrev pub decreases-loop-rest : goal.decreases-loop-rest
decreases-loop-rest l = l.rest
