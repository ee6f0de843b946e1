-- The cases of a close, as the code comes to them.
-- Assumes nothing.
use Rattle.std.specs.Prelude.{Ok, Err, Some, None}
use Rattle.model.specs.declared.Refusal.TheVariants.{NoSuchRange}
use mathlib.Core.Path.{◌≡◌, refl}
use mathlib.Core.Logic.{◌≢◌}
use mathlib.Core.Bool.{true}
use mathlib.Core.List.{List}
use Prim.Native.Nat.{ℕ, zero, suc, ◌+◌, ◌-◌, ◌≤◌}
use native.Mathlib.Omega.{arith}
use lib.ListN.{length, set, take}
use Rattle.tables.specs.declared.Ticket.{Ticket}
use Rattle.tables.specs.declared.Coordinator.{Coordinator}
use Rattle.tables.specs.Tables.{ticket_at, gained}
use Rattle.ranges.specs.Tickets.{place_of, slide}
use Rattle.ranges.specs.Close.{fewer, close_at, closing}
use Rattle.ranges.proofs.Tickets.{not_found, is_found}

module _ (ts : List Ticket) (c : Coordinator) (v : ℕ) (l : c.ranges ≤ length ts) where
  abbrev k : ℕ
  k = c.ranges

  pub close_none : place_of v (take k ts) ≡ None → closing ts c v ≡ record { answer = Err NoSuchRange; tickets = ts; coordinator = c }
  unfolding closing
  close_none e = rw (not_found v k ts l e)

  module _ (j : ℕ) (e : place_of v (take k ts) ≡ Some j) where
    found : closing ts c v ≡ close_at true j ts c
    unfolding closing
    found = let w = is_found v k ts j l e in rw (w.1, w.0)

    pub close_oldest : j ≡ 0 → closing ts c v ≡ record { answer = Ok (ticket_at ts j).held; tickets = slide j k ts; coordinator = fewer c (c.due + (ticket_at ts j).held) }
    close_oldest z = rw (found, z)

    pub close_later : j ≢ 0
        → closing ts c v ≡ record { answer = Ok 0; tickets = slide j k (set ts (j - 1) (gained (ticket_at ts j).held (ticket_at ts (j - 1)))); coordinator = fewer c c.due }
    close_later z = rw found (go j z)
      where
        go : (i : ℕ) → i ≢ 0
            → close_at true i ts c ≡ record { answer = Ok 0; tickets = slide i k (set ts (i - 1) (gained (ticket_at ts i).held (ticket_at ts (i - 1)))); coordinator = fewer c c.due }
        go zero y = absurd (y refl)
        go (suc i) y = let d : suc i - 1 ≡ i = omega arith in rw d
