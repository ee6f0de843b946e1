-- `places::wrap` meets its contract.
use borrow.Author.Tests.{lt-ltb, le-ltb}
use Rattle.places.specs.Places.{wrapped}
use Rattle.places.proofs.wrap.Goals as goal

pub returns-then-x-cap : goal.returns-then-x-cap
unfolding wrapped
returns-then-x-cap c = simp (lt-ltb _ _ c.if-x-cap.true)

pub returns-else-x-cap : goal.returns-else-x-cap
unfolding wrapped
returns-else-x-cap c = simp (le-ltb _ _ c.if-x-cap.false)
