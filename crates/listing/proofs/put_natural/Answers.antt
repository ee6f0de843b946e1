-- `listing::put_natural` meets its contract: the digits left, written before those that stand, make the whole text.
use mathlib.Core.Path.{◌∙◌}
use native.Mathlib.Omega.{arith}
use Rattle.listing.proofs.Filling.{fill_start, fill_next, fill_end}
use Rattle.listing.proofs.put_natural.Goals as goal

pub loop-i-init : goal.loop-i-init
loop-i-init c = fill_start _ _ _ _ c.digit_count.ensures

pub loop-i-preserved : goal.loop-i-preserved
loop-i-preserved c = fill_next _ _ _ _ _ c.loop-i-test.true (omega arith) c.last_digit.ensures ∙ c.loop-i.invariant

pub returns : goal.returns
returns c = fill_end _ _ _ _ _ _ _ c.loop-i-test.false c.digit_count.ensures c.loop-i.invariant
