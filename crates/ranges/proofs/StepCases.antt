-- The cases of a step, as the code comes to them.
-- Assumes nothing.
use Rattle.std.specs.Prelude.{Result, Ok, Err, Some, None}
use Rattle.model.specs.declared.Refusal.{Refusal}
use Rattle.model.specs.declared.Refusal.TheVariants.{TooFewPlaces, NoSuchRange}
use mathlib.Core.Path.{◌≡◌, refl, sym}
use mathlib.Core.Logic.{◌≢◌}
use mathlib.Core.List.{List}
use Prim.Native.Nat.{ℕ, ◌≤◌}
use lib.ListN.{length, set, take}
use lib.IntN.{ℤ}
use borrow.Author.Tests.{eq-eqb, ne_eqb}
use Rattle.lists.specs.Buffers.{written}
use Rattle.lists.proofs.Writing.{written_none}
use Rattle.model.specs.declared.Stepped.{Stepped}
use Rattle.tables.specs.declared.Ticket.{Ticket}
use Rattle.tables.specs.Tables.{ticket_at}
use Rattle.ranges.specs.declared.Walked.{Walked}
use Rattle.ranges.specs.Tickets.{place_of}
use Rattle.ranges.proofs.Tickets.{not_found, is_found}
use Rattle.ranges.specs.Walk.{walk_of, keys_of, values_of, WalkedBy}
use Rattle.ranges.specs.Step.{Case, refuse, at, stepping, step_nodes, rest_on, step_end, room_of, SteppedBy}

module _ (keys : List ℕ) (values : List ℤ) (rows : List ℕ) (ts : List Ticket) (k v : ℕ) (ks vs : List ℤ) where
  abbrev room : ℕ
  room = room_of ks vs

  stepped : {ts' : List Ticket} {ks' vs' : List ℤ} {r : Result Stepped Refusal} (c : Case) → stepping ts k v room ≡ c → r ≡ (step_end c keys rows ts room).answer → ts' ≡ (step_end c keys rows ts room).tickets
      → ks' ≡ written ks 0 (keys_of keys (step_nodes c keys rows ts room)) → vs' ≡ written vs 0 (values_of values (step_nodes c keys rows ts room))
      → SteppedBy keys values rows ts ts' k v ks vs ks' vs' r
  stepped c e a t b d = record { answer = rw e a; tickets = rw e t; keys_out = rw e b; values_out = rw e d }

  refused : (n : Refusal) → stepping ts k v room ≡ refuse n → SteppedBy keys values rows ts ts k v ks vs ks vs (Err n)
  refused n e = stepped (refuse n) e refl refl (sym (written_none ks 0)) (sym (written_none vs 0))

  module _ (l : k ≤ length ts) where
    pub step_none : place_of v (take k ts) ≡ None → SteppedBy keys values rows ts ts k v ks vs ks vs (Err NoSuchRange)
    unfolding stepping
    step_none e = refused NoSuchRange (rw (not_found v k ts l e))

    module _ (j : ℕ) (e : place_of v (take k ts) ≡ Some j) where
      pub step_full : room ≡ 0 → SteppedBy keys values rows ts ts k v ks vs ks vs (Err TooFewPlaces)
      unfolding stepping
      step_full z = refused TooFewPlaces (rw ((is_found v k ts j l e).1, eq-eqb room 0 z))

      pub step_on : (ts' : List Ticket) (ks' vs' : List ℤ) (r : Walked) → room ≢ 0 → WalkedBy keys values rows (walk_of (ticket_at ts j)) room ks vs ks' vs' r
          → ts' ≡ set ts j (rest_on r.rest (ticket_at ts j)) → SteppedBy keys values rows ts ts' k v ks vs ks' vs' (Ok (record { pairs = r.count; finished = r.finished }))
      unfolding stepping
      step_on ts' ks' vs' r z w t =
          let f = is_found v k ts j l e in
          stepped (at j) (rw (f.1, ne_eqb room 0 z, f.0)) (rw (w.count, w.ended)) (rw w.rest at t) w.keys_out w.values_out
