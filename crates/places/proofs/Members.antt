-- The nodes of the free stack and of the ring: each in its place, once, and in one of the two.
--     in_free, in_ring             a member is a node, and its place
--     free_distinct, ring_distinct no node twice
--     apart                        no node in both
--     not_free, not_retired        a node of another place is no member
--     free_room, ring_room         a node that is no member leaves room for one more
-- Assumes nothing.
use Prim.Native.Nat.{ℕ, ◌<◌}
use mathlib.Core.Path.{◌≡◌, subst}
use mathlib.Core.Logic.{◌≢◌}
use mathlib.Core.List.{List}
use native.Mathlib.Omega.{arith}
use lib.ListN.{length}
use Rattle.lists.specs.Members.{In, Distinct}
use Rattle.rows.specs.Rows.{places, seats, frees, rings}
use Rattle.places.specs.Places.{slot, free_count, ring_front, ring_count, free_of, ring_of, Places}
use Rattle.places.proofs.Wraps.{slot_inj}
use Rattle.places.proofs.Lists.{in_stacked, stacked_in, stacked_distinct, in_queued, queued_in, queued_distinct}
use Rattle.places.proofs.Seats.{Off, seats_inj, room_for}

module _ (rows : List ℕ) (cap : ℕ) (P : Places rows cap) where
  pub in_free : (x : ℕ) → In x (free_of rows cap) → (x < cap) × (places rows x ≡ 0)
  in_free x i =
      let t = in_stacked (frees rows) (free_count rows cap) x i in
      let s = P.idle t.0 t.1 in
      rw t.2 (s.node, s.placed)

  pub in_ring : (x : ℕ) → In x (ring_of rows cap) → (x < cap) × (places rows x ≡ 3)
  in_ring x i =
      let t = in_queued cap (rings rows) (ring_front rows cap) (ring_count rows cap) x i in
      let s = P.gone t.0 t.1 in
      rw t.2 (s.node, s.placed)

  pub free_distinct : Distinct (free_of rows cap)
  free_distinct =
      stacked_distinct (frees rows) (free_count rows cap) (seats_inj (frees rows) (places rows) (seats rows) cap 0 (free_count rows cap) (λ i. i) P.idle)

  pub ring_distinct : Distinct (ring_of rows cap)
  ring_distinct =
      let few = P.few in
      queued_distinct cap (rings rows) (ring_front rows cap) (ring_count rows cap)
      (λ i j l m e.
      slot_inj P.front (omega arith) (omega arith)
      (seats_inj (rings rows) (places rows) (seats rows) cap 3 (ring_count rows cap) (slot cap (ring_front rows cap)) P.gone i j l m e))

  pub not_free : (n : ℕ) → places rows n ≢ 0 → In n (free_of rows cap) → ⊥
  not_free n d i = d (in_free n i).1

  pub not_retired : (n : ℕ) → places rows n ≢ 3 → In n (ring_of rows cap) → ⊥
  not_retired n d i = d (in_ring n i).1

  pub apart : (x : ℕ) → In x (free_of rows cap) → In x (ring_of rows cap) → ⊥
  apart x i j = let e = (in_free x i).1 in let f = (in_ring x j).1 in omega arith

  pub free_room : (n : ℕ) → n < cap → (In n (free_of rows cap) → ⊥) → length (free_of rows cap) < cap
  free_room n l out = room_for cap n (free_of rows cap) free_distinct (λ x i. (in_free x i).0) l out

  pub ring_room : (n : ℕ) → n < cap → (In n (ring_of rows cap) → ⊥) → length (ring_of rows cap) < cap
  ring_room n l out = room_for cap n (ring_of rows cap) ring_distinct (λ x i. (in_ring x i).0) l out

-- a node that is no member has no seat
module _ (rows : List ℕ) (cap n : ℕ) where
  pub off_stack : (In n (free_of rows cap) → ⊥) → Off (frees rows) (free_count rows cap) (λ i. i) n
  off_stack out i l e = out (subst (λ (z : ℕ). In z (free_of rows cap)) e (stacked_in (frees rows) (free_count rows cap) i l))

  pub off_ring : (In n (ring_of rows cap) → ⊥) → Off (rings rows) (ring_count rows cap) (slot cap (ring_front rows cap)) n
  off_ring out i l e = out (subst (λ (z : ℕ). In z (ring_of rows cap)) e (queued_in cap (rings rows) (ring_front rows cap) (ring_count rows cap) i l))
