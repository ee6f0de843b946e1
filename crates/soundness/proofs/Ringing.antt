-- The ring of retired nodes, by the index of a node in it, and the lists in it.
-- Assumes nothing.
use mathlib.Core.Path.{◌≡◌, sym, ap, ◌∙◌}
use mathlib.Core.Bool.{Bool, true, false}
use mathlib.Core.List.{List, [], ◌∷◌}
use Prim.Native.Nat.{ℕ, suc, ◌+◌, ◌-◌, ◌<◌, ◌≤◌}
use native.Mathlib.Omega.{arith}
use lib.ListN.{length, get_or, take, drop, length-drop, length-take, drop_of_length-le}
use lib.Seq.{get_or-take, get_or-drop, drop-cons, drop-drop}
use Rattle.lists.specs.Holds.{All}
use Rattle.lists.specs.Tests.{Says, Each}
use Rattle.lists.proofs.Answers.{over, failed, passed}
use Rattle.lists.proofs.Indexing.{each_all, all_each, tab_at}
use Rattle.rows.specs.Rows.{rings}
use Rattle.places.specs.Places.{Places, ring_front, ring_count, ring_of, queued, slot}
use Rattle.places.proofs.Wraps.{low, high}
use Rattle.places.proofs.Lists.{ring_length}
use Rattle.tables.specs.declared.Ticket.{Ticket}
use Rattle.tables.specs.Tables.{no_ticket, ticket_at}
use Rattle.soundness.specs.Tested.{Listed}

-- ---- one node

module _ (rows : List ℕ) (cap i : ℕ) (l : i < ring_count rows cap) where
  ring_at : get_or (ring_of rows cap) i 0 ≡ rings rows (slot cap (ring_front rows cap) i)
  unfolding queued
  ring_at = tab_at (ring_count rows cap) i 0 (λ k. rings rows (slot cap (ring_front rows cap) k)) l

  pub ring_low : ring_front rows cap + i < cap → rings rows (ring_front rows cap + i) ≡ get_or (ring_of rows cap) i 0
  ring_low h = ap (rings rows) (sym (low h)) ∙ sym ring_at

  pub ring_high : cap ≤ ring_front rows cap + i → rings rows (ring_front rows cap + i - cap) ≡ get_or (ring_of rows cap) i 0
  ring_high h = ap (rings rows) (sym (high h)) ∙ sym ring_at

  -- LAW: it is a node
  pub ring_node_lem : Places rows cap → get_or (ring_of rows cap) i 0 < cap
  ring_node_lem P = rw ring_at (P.gone i l).node

-- ---- a list of nodes in the ring

-- LAW: a property of each of so many nodes from `start` on, by their index in the ring
pub list_says : (P : ℕ → Type 0) (rows : List ℕ) (cap start size : ℕ) → start + size ≤ ring_count rows cap
    → {r : Bool} → Says r (Each (start + size) (λ k. start ≤ k → P (get_or (ring_of rows cap) k 0))) → Says r (All P (take size (drop start (ring_of rows cap))))
list_says P rows cap start size l =
    over (λ e. each_all 0 P size (drop start ring) room (λ i u. rw (get_or-drop start ring i 0) (e (start + i) (omega arith) (omega arith))))
    (λ a k u v.
    let q : start + (k - start) ≡ k = omega arith in
    rw (get_or-drop start ring (k - start) 0, q) at (all_each 0 P size (drop start ring) room a (k - start) (omega arith)))
  where
    ring : List ℕ
    ring = ring_of rows cap

    room : size ≤ length (drop start (ring_of rows cap))
    room = omega (arith, length-drop start (ring_of rows cap), ring_length rows cap, l)

-- ---- all the lists

-- LAW: where the rest of the ring is listed by the tickets from the i-th on, there is room for the list of this size, and its nodes were removed before the i-th
pub listed_here : (removal : ℕ → ℕ) (ring : List ℕ) (tickets : List Ticket) (start size i : ℕ) → i < length tickets → Listed removal (drop start ring) size (drop i tickets)
    → (size ≤ length ring - start) × All (λ m. removal m < (ticket_at tickets i).version.0) (take size (drop start ring))
listed_here removal ring tickets start size i l h =
    let p = rw (drop-cons tickets i no_ticket) at h in
    (omega (arith, p.0, length-drop start ring), p.1)

-- the test stands before the list of this size that starts there, and before the i-th of n tickets: the ring is so listed exactly when what is left of it is
pub record Listing (removal : ℕ → ℕ) (ring : List ℕ) (due : ℕ) (tickets : List Ticket) (n start size i : ℕ) : Type 0 where
  pub within : start ≤ length ring
  pub below : i ≤ n
  pub back : Listed removal (drop start ring) size (drop i (take n tickets)) → Listed removal ring due (take n tickets)
  pub forth : Listed removal ring due (take n tickets) → Listed removal (drop start ring) size (drop i (take n tickets))

module _ (removal : ℕ → ℕ) (ring : List ℕ) (due : ℕ) (tickets : List Ticket) (n : ℕ) (sixteen : length tickets ≡ 16) (few : n ≤ 16) where
  pub listing_start : Listing removal ring due tickets n 0 due 0
  listing_start = record { within = omega arith; below = omega arith; back = λ h. h; forth = λ h. h }

  module _ (start size i : ℕ) (w : Listing removal ring due tickets n start size i) where
    module _ (l : i < n) where
      next : drop i (take n tickets) ≡ ticket_at tickets i ∷ drop (suc i) (take n tickets)
      next =
          drop-cons (take n tickets) i no_ticket (omega (arith, length-take n tickets))
          ∙ ap {B = List Ticket} (λ t. t ∷ drop (suc i) (take n tickets)) (get_or-take n tickets i no_ticket l)

      here : Listed removal ring due (take n tickets) → (size ≤ length ring - start) × All (λ m. removal m < (ticket_at tickets i).version.0) (take size (drop start ring))
      here h = let p = rw next at (w.forth h) in (omega (arith, p.0, length-drop start ring), p.1)

      -- what the lists have here
      pub listing_room : Listed removal ring due (take n tickets) → size ≤ length ring - start
      listing_room h = (here h).0

      module _ {r : Bool} (s : Says r (All (λ m. removal m < (ticket_at tickets i).version.0) (take size (drop start ring)))) where
        pub listing_bad : r ≡ false → Listed removal ring due (take n tickets) → ⊥
        listing_bad e h = failed s e (here h).1

        -- LAW: one list further
        pub listing_on : r ≡ true → size ≤ length ring - start → Listing removal ring due tickets n (start + size) (ticket_at tickets i).held (i + 1)
        listing_on f l' =
            let e : i + 1 ≡ suc i = omega arith in
            rw e
            (record {
              within = omega (arith, w.within);
              below = omega arith;
              back = λ h. w.back (rw next (omega (arith, length-drop start ring), passed s f, rw (drop-drop size start ring) h));
              forth = λ h. let p = rw next at (w.forth h) in rw (drop-drop size start ring) at p.2;
            })

    -- LAW: at the end the last list is what is left of the ring
    module _ (l : n ≤ i) where
      ended : drop i (take n tickets) ≡ []
      ended = let h : length (take n tickets) ≤ i = omega (arith, length-take n tickets) in drop_of_length-le (take n tickets) h

      pub listed_all : size ≡ length ring - start → Listed removal ring due (take n tickets)
      listed_all e = w.back (rw ended (e ∙ sym (length-drop start ring)))

      pub listed_last : Listed removal ring due (take n tickets) → size ≡ length ring - start
      listed_last h = let p : size ≡ length (drop start ring) = rw ended at (w.forth h) in p ∙ length-drop start ring
