-- `listing::put_pairs` meets its contract: the pairs so far are put.
use Prim.Native.Nat.{◌*◌}
use lib.ListN.{length, take}
use Rattle.listing.specs.Lines.{spaced, paired}
use Rattle.listing.specs.Puts.{longest, Put}
use Rattle.listing.proofs.put_pairs.Given as goal

abbrev pub invariant-loop-key : goal.invariant-loop-key
invariant-loop-key l = Put l.initial.out l.at (longest (2 * length l.yielded)) (spaced (paired (take (length l.yielded) l.keys) (take (length l.yielded) l.values))) l.out l.next
