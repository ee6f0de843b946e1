-- `listing::put_numbers` meets its contract: those before the index are put.
use native.Mathlib.Omega.{arith}
use Rattle.listing.proofs.Putting.{put_none_lem, put_number}
use Rattle.listing.proofs.put_numbers.Goals as goal

pub loop-number-init : goal.loop-number-init
loop-number-init c = put_none_lem _ _

pub loop-number-preserved : goal.loop-number-preserved
loop-number-preserved c = put_number _ _ (omega arith) c.loop-number-test.true c.loop-number.invariant (omega arith) c.put_spaced-next.ensures
