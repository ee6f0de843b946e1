-- The measure is what is left of the bytes.
use Prim.Native.Nat.{◌-◌}
use lib.ListN.{length}
use Rattle.listing_check.proofs.list_calls.Given as goal

abbrev pub decreases-loop-at : goal.decreases-loop-at
decreases-loop-at g l = length l.bytes - l.at
