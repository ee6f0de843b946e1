-- A removal at close leaves what `ranges::close_range` leaves in the tickets.
-- Assumes nothing.
use mathlib.Core.Path.{◌≡◌, refl, ap, ◌∙◌}
use mathlib.Core.Bool.{Bool, true, false}
use mathlib.Core.List.{List}
use Prim.Native.Nat.{ℕ, zero, suc, ◌-◌}
use native.Mathlib.Omega.{arith}
use lib.ListN.{length}
use lib.Dec.{ltb}
use borrow.Author.Tests.{le-ltb, eq-eqb, ne_eqb, ltb-true}
use Rattle.tables.specs.declared.Ticket.{Ticket}
use Rattle.tables.specs.declared.Coordinator.{Coordinator}
use Rattle.tables.specs.Tables.{ticket_at}
use Rattle.ranges.specs.Tickets.{index_of}
use Rattle.ranges.specs.Close.{CloseReady, closing, close_at}
use Rattle.tickets_open.specs.Open.{open_in, removed_in, removed}

module _ (ts : List Ticket) (c : Coordinator) (ready : CloseReady ts c) where
  -- at any index, by whether it is that of an open ticket
  at : (b : Bool) (i : ℕ) → ltb i c.ranges ≡ b → (removed_in c.ranges ts i).tickets ≡ (close_at b i ts c).tickets
  at false i e = rw e refl
  at true zero e = rw e refl
  at true (suc i) e =
      let older : suc i - 1 ≡ i = omega arith in
      rw (e, ne_eqb (suc i) 0 (λ z. absurd (omega arith)), le-ltb 4096 (ticket_at ts (suc i)).held (ready.held (suc i) (ltb-true (suc i) c.ranges e)), older, le-ltb 4096 (ticket_at ts i).held (ready.held i (omega (arith, ltb-true (suc i) c.ranges e)))) refl

  open_is : length ts ≡ 16 → open_in (length ts) c.ranges ≡ c.ranges
  open_is s = rw (eq-eqb (length ts) 16 s) (omega (arith, ready.few))

  -- LAW: the ticket of that version removed from sixteen leaves what closing its range leaves
  pub removes_as_close : length ts ≡ 16 → (v : ℕ) → (removed ts c.ranges (index_of v c.ranges ts)).tickets ≡ (closing ts c v).tickets
  unfolding closing
  removes_as_close s v = ap (λ (k : ℕ). (removed_in k ts (index_of v c.ranges ts)).tickets) (open_is s) ∙ at (ltb (index_of v c.ranges ts) c.ranges) (index_of v c.ranges ts) refl
