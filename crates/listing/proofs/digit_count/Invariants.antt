-- `listing::digit_count` meets its contract: the digits counted so far and those of what is left are all of them, and one.
use mathlib.Core.Path.{◌≡◌}
use Prim.Native.Nat.{◌+◌}
use lib.ListN.{length}
use Rattle.listing.specs.Decimals.{digits}
use Rattle.listing.proofs.digit_count.Given as goal

abbrev pub invariant-loop-rest : goal.invariant-loop-rest
invariant-loop-rest l = l.count + length (digits l.rest) ≡ length (digits l.n) + 1

abbrev pub decreases-loop-rest : goal.decreases-loop-rest
decreases-loop-rest l = l.rest
