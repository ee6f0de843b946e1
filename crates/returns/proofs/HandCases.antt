-- The cases of a hand-over, as the code comes to them.
-- Assumes nothing.
use Rattle.std.specs.Prelude.{Result, Ok, Err}
use Rattle.model.specs.declared.Refusal.{Refusal}
use Rattle.model.specs.declared.Refusal.TheVariants.{NodeNotPending}
use mathlib.Core.Path.{◌≡◌, sym}
use mathlib.Core.Logic.{◌≢◌}
use mathlib.Core.List.{List}
use Prim.Native.Nat.{ℕ, ◌-◌, ◌<◌, ◌≤◌}
use borrow.Author.Tests.{eq-eqb, ne_eqb, le-leb, lt-leb}
use Rattle.rows.specs.Rows.{places, insertions}
use Rattle.model.specs.declared.Handed.{Handed}
use Rattle.model.specs.declared.Handed.TheVariants.{Freed, Held}
use Rattle.tables.specs.declared.Ticket.{Ticket}
use Rattle.tables.specs.Tables.{ticket_at}
use Rattle.returns.specs.HandOver.{handing, handed_rows, handed_tickets, HandedOver}

module _ (rows : List ℕ) (cap : ℕ) (ts : List Ticket) (k n : ℕ) where
  pub handed : {rows' : List ℕ} {ts' : List Ticket} (h : Result Handed Refusal) → handing rows cap ts k n ≡ h → rows' ≡ handed_rows h rows cap n → ts' ≡ handed_tickets h ts k → HandedOver rows rows' cap ts ts' k n h
  handed h e r t = record { answer = sym e; cells = rw e r; tickets = rw e t }

  pub case_far : cap ≤ n → handing rows cap ts k n ≡ Err NodeNotPending
  unfolding handing
  case_far h = rw (le-leb cap n h)

  pub case_other : n < cap → places rows n ≢ 2 → handing rows cap ts k n ≡ Err NodeNotPending
  unfolding handing
  case_other l d = rw (lt-leb cap n l, ne_eqb (places rows n) 2 d)

  module _ (l : n < cap) (e : places rows n ≡ 2) where
    pub case_none : k ≡ 0 → handing rows cap ts k n ≡ Ok Freed
    unfolding handing
    case_none z = rw (lt-leb cap n l, eq-eqb (places rows n) 2 e, eq-eqb k 0 z)

    pub case_new : k ≢ 0 → (ticket_at ts (k - 1)).version.0 ≤ insertions rows n → handing rows cap ts k n ≡ Ok Freed
    unfolding handing
    case_new z h = rw (lt-leb cap n l, eq-eqb (places rows n) 2 e, ne_eqb k 0 z, le-leb _ _ h)

    pub case_old : k ≢ 0 → insertions rows n < (ticket_at ts (k - 1)).version.0 → handing rows cap ts k n ≡ Ok Held
    unfolding handing
    case_old z h = rw (lt-leb cap n l, eq-eqb (places rows n) 2 e, ne_eqb k 0 z, lt-leb _ _ h)
