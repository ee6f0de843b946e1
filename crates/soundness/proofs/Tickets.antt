-- The open tickets, one by one.
-- Assumes nothing.
use Prim.Native.Nat.{ℕ, ◌+◌, ◌-◌, ◌<◌, ◌≤◌}
use mathlib.Core.Path.{◌≡◌}
use mathlib.Core.Bool.{Bool}
use mathlib.Core.List.{List}
use native.Mathlib.Omega.{arith}
use native.Mathlib.Nat.{lt_trans}
use lib.ListN.{length, take}
use lib.Seq.{take-length}
use Rattle.lists.specs.Tests.{Says, Each}
use Rattle.lists.proofs.Answers.{over}
use Rattle.lists.proofs.Indexing.{each_all, all_each, near_pairwise, pairwise_near}
use Rattle.tables.specs.declared.Ticket.{Ticket}
use Rattle.tables.specs.Tables.{no_ticket, ticket_at}
use Rattle.soundness.specs.Tested.{Rests, Earlier, Opened}

-- what is tested of the i-th
pub record Fine (keys rows : List ℕ) (cap counter : ℕ) (tickets : List Ticket) (i : ℕ) : Type 0 where
  pub past : (ticket_at tickets i).version.0 ≤ counter
  pub rests : Rests keys rows cap (ticket_at tickets i)
  pub after : 0 < i → Earlier (ticket_at tickets (i - 1)) (ticket_at tickets i)

earlier_trans : (r s t : Ticket) → Earlier r s → Earlier s t → Earlier r t
earlier_trans r s t p q = lt_trans p q

module _ (keys rows : List ℕ) (cap counter : ℕ) (tickets : List Ticket) where
  abbrev n : ℕ
  n = length tickets

  every : take n tickets ≡ tickets
  every = take-length tickets

  each_opened : Each n (Fine keys rows cap counter tickets) → Opened keys rows cap counter tickets
  each_opened e =
      rw (← every)
      (record {
        rising = near_pairwise Earlier earlier_trans no_ticket n tickets (omega arith) (λ i u v. let q : i + 1 - 1 ≡ i = omega arith in rw q at ((e (i + 1) v).after (omega arith)));
        past = each_all no_ticket (λ t. t.version.0 ≤ counter) n tickets (omega arith) (λ i u. (e i u).past);
        rests = each_all no_ticket (Rests keys rows cap) n tickets (omega arith) (λ i u. (e i u).rests);
      })

  opened_each : Opened keys rows cap counter tickets → Each n (Fine keys rows cap counter tickets)
  opened_each o i u =
      let a : Opened keys rows cap counter (take n tickets) = rw every o in
      record {
        past = all_each no_ticket (λ t. t.version.0 ≤ counter) n tickets (omega arith) a.past i u;
        rests = all_each no_ticket (Rests keys rows cap) n tickets (omega arith) a.rests i u;
        after = λ h. let q : i - 1 + 1 ≡ i = omega arith in rw q at (pairwise_near Earlier earlier_trans no_ticket n tickets (omega arith) a.rising (i - 1) (omega arith) (omega arith));
      }

  -- LAW: the tickets are open as they should be exactly when each is fine
  pub opened_says : {r : Bool} → Says r (Each n (Fine keys rows cap counter tickets)) → Says r (Opened keys rows cap counter tickets)
  opened_says = over each_opened opened_each
