-- The cases of an open, as the code comes to them.
-- Assumes nothing.
use mathlib.Core.Path.{◌≡◌}
use mathlib.Core.Bool.{Bool, true, false}
use mathlib.Core.List.{List}
use Prim.Native.Nat.{ℕ, ◌≤◌, ◌<◌}
use lib.IntN.{ℤ}
use lib.Signed.{lt_z}
use mir.Syntax.{w64}
use mir.Val.{SFits, to_z, of_z}
use mir.ValLaws.{to_z-of_z}
use borrow.Author.Tests.{le-leb, lt-leb}
use Rattle.model.specs.declared.Refusal.TheVariants.{BoundsReversed, AllTicketsOpen, LastVersion}
use Rattle.tables.specs.declared.Ticket.{Ticket}
use Rattle.tables.specs.declared.Coordinator.{Coordinator}
use Rattle.ranges.specs.Open.{open_refused, opened, opening}

-- what the code's test on two signed numbers says of them
pub signed_lt : (a b : ℤ) (r : Bool) → SFits w64 a → SFits w64 b → lt_z (to_z w64 (of_z w64 a)) (to_z w64 (of_z w64 b)) ≡ r → lt_z a b ≡ r
signed_lt a b r f g e = rw (to_z-of_z w64 a f, to_z-of_z w64 b g) at e

module _ (keys rows : List ℕ) (ts : List Ticket) (c : Coordinator) (low high : ℤ) where
  pub open_crossed : lt_z high low ≡ true → opening keys rows ts c low high ≡ open_refused BoundsReversed ts c
  unfolding opening
  open_crossed e = rw e

  module _ (e : lt_z high low ≡ false) where
    pub open_full : 16 ≤ c.ranges → opening keys rows ts c low high ≡ open_refused AllTicketsOpen ts c
    unfolding opening
    open_full h = rw (e, le-leb 16 c.ranges h)

    pub open_last : c.ranges < 16 → 4294967295 ≤ c.counter.0 → opening keys rows ts c low high ≡ open_refused LastVersion ts c
    unfolding opening
    open_last h l = rw (e, lt-leb 16 c.ranges h, le-leb 4294967295 c.counter.0 l)

    pub open_new : c.ranges < 16 → c.counter.0 < 4294967295 → opening keys rows ts c low high ≡ opened keys rows ts c low high
    unfolding opening
    open_new h l = rw (e, lt-leb 16 c.ranges h, lt-leb 4294967295 c.counter.0 l)
