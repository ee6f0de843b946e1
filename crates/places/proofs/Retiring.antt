-- The rows after a node is retired, and after the front of the ring is taken.
-- Assumes nothing.
use Prim.Native.Nat.{ℕ, suc, ◌+◌, ◌-◌, ◌<◌}
use mathlib.Core.Path.{◌≡◌, refl, sym, ap, ◌∙◌}
use mathlib.Core.Logic.{◌≢◌}
use mathlib.Core.List.{List, [], ◌∷◌, ◌++◌}
use native.Mathlib.Omega.{arith}
use lib.ListN.{length}
use Rattle.lists.specs.Members.{In}
use Rattle.rows.specs.Rows.{column, upd, places, seats, frees, rings}
use Rattle.rows.proofs.Columns.{upd_same, upd_other}
use Rattle.places.specs.Places.{Sized, wrapped, slot, free_count, ring_front, ring_count, present_count, free_of, ring_of, first_retired, Seated, Places}
use Rattle.places.specs.Changes.{retired, taken}
use Rattle.places.proofs.Wraps.{below as wrap-below, slot_lt, slot_inj, slot_zero, slot_suc}
use Rattle.places.proofs.Lists.{ring_length, queued_same, queued_push, queued_pop, queued_head}
use Rattle.places.proofs.Stores.{Elsewhere, length_stored, column_stored, column_missed}
use Rattle.places.proofs.Seats.{seats_keep, seats_push}
use Rattle.places.proofs.Members.{ring_distinct, ring_room, off_stack, off_ring}

-- ---- retired

module _ (rows : List ℕ) (cap n : ℕ) where
  pub retired_length : length (retired rows cap n) ≡ length rows
  unfolding retired
  retired_length = length_stored rows _

  -- LAW: no other column changes
  pub retired_elsewhere : (f : ℕ) → Elsewhere f → column (retired rows cap n) f ≡ column rows f
  unfolding retired
  retired_elsewhere f e = column_missed f (omega arith) rows _ (omega arith)

  pub retired_frees : frees (retired rows cap n) ≡ frees rows
  unfolding retired
  retired_frees = column_missed 6 (omega arith) rows _ (omega arith)

  -- LAW: the free stack is as it was
  pub retired_free : free_of (retired rows cap n) cap ≡ free_of rows cap
  retired_free = rw retired_frees

  -- LAW: as many nodes are counted as present
  pub retired_present : present_count (retired rows cap n) cap ≡ present_count rows cap
  retired_present = rw retired_frees

module _ (rows : List ℕ) (cap n : ℕ) (size : Sized rows cap) (P : Places rows cap) (low : n < cap) (out : In n (ring_of rows cap) → ⊥) where
  abbrev front : ℕ
  front = ring_front rows cap

  abbrev k : ℕ
  k = ring_count rows cap

  abbrev seat : ℕ
  seat = slot cap front k

  abbrev ring : ℕ → ℕ
  ring = upd (upd (rings rows) seat n) (cap + 1) (k + 1)

  room : k < cap
  room = omega (arith, ring_room rows cap P n low out, ring_length rows cap)

  seat_low : seat < cap
  seat_low = slot_lt P.front room

  -- LAW: n is retired
  pub retired_places : places (retired rows cap n) ≡ upd (places rows) n 3
  unfolding retired
  retired_places = let s = seat_low in column_stored 3 (omega arith) rows _ (omega arith)

  retired_seats : seats (retired rows cap n) ≡ upd (seats rows) n seat
  unfolding retired
  retired_seats = let s = seat_low in column_stored 4 (omega arith) rows _ (omega arith)

  retired_rings : rings (retired rows cap n) ≡ ring
  unfolding retired
  retired_rings = let s = seat_low in column_stored 7 (omega arith) rows _ (omega arith)

  retired_front : ring_front (retired rows cap n) cap ≡ front
  retired_front = let s = seat_low in rw retired_rings (upd_other (upd (rings rows) seat n) (cap + 1) (k + 1) cap (omega arith) ∙ upd_other (rings rows) seat n cap (omega arith))

  retired_count : ring_count (retired rows cap n) cap ≡ k + 1
  retired_count = rw retired_rings (upd_same (upd (rings rows) seat n) (cap + 1) (k + 1))

  ring_old : (s : ℕ) → s < cap → s ≢ seat → ring s ≡ rings rows s
  ring_old s l d = upd_other (upd (rings rows) seat n) (cap + 1) (k + 1) s (omega arith) ∙ upd_other (rings rows) seat n s d

  ring_new : ring seat ≡ n
  ring_new = let s = seat_low in upd_other (upd (rings rows) seat n) (cap + 1) (k + 1) seat (omega arith) ∙ upd_same (rings rows) seat n

  -- LAW: n is at the back of the ring
  pub retired_ring : ring_of (retired rows cap n) cap ≡ ring_of rows cap ++ (n ∷ [])
  retired_ring = rw (retired_front, retired_count, retired_rings) (queued_push cap front k P.front (rings rows) ring n room ring_new ring_old)

  -- LAW: each node is in its place, where n is not in the free stack
  pub retired_kept : (In n (free_of rows cap) → ⊥) → Places (retired rows cap n) cap
  retired_kept off =
      let r = room in
      record {
        spares = rw retired_frees P.spares;
        idle =
            rw (retired_frees, retired_places, retired_seats)
            (seats_keep (frees rows) (places rows) (seats rows) cap 0 (free_count rows cap) (λ i. i) P.idle (frees rows) n 3 seat (λ i l. refl)
            (off_stack rows cap n off));
        front = rw retired_front P.front;
        few = rw retired_count (omega arith);
        gone =
            rw (retired_front, retired_count, retired_rings, retired_places, retired_seats)
            (seats_push (rings rows) (places rows) (seats rows) cap 3 k (slot cap front) P.gone ring n low (off_ring rows cap n out)
            (λ i l. ring_old (slot cap front i) (slot_lt P.front (omega arith)) (λ e. let z = slot_inj P.front (omega arith) r e in omega arith)) ring_new);
      }

-- ---- taken

module _ (rows : List ℕ) (cap : ℕ) where
  pub taken_length : length (taken rows cap) ≡ length rows
  unfolding taken
  taken_length = length_stored rows _

  -- LAW: no column changes but that of the ring, so the places are as they were
  pub taken_others : (f : ℕ) → f < 32 → f ≢ 7 → column (taken rows cap) f ≡ column rows f
  unfolding taken
  taken_others f l d = column_missed f l rows _ ((omega arith, λ e. d (sym e)), ((omega arith, λ e. d (sym e)), tt))

  pub taken_elsewhere : (f : ℕ) → Elsewhere f → column (taken rows cap) f ≡ column rows f
  taken_elsewhere f e = taken_others f e.below e.ring

  pub taken_places : places (taken rows cap) ≡ places rows
  taken_places = taken_others 3 (omega arith) (omega arith)

  -- LAW: the free stack is as it was
  pub taken_free : free_of (taken rows cap) cap ≡ free_of rows cap
  taken_free = rw (taken_others 6 (omega arith) (omega arith))

  -- LAW: as many nodes are counted as present
  pub taken_present : present_count (taken rows cap) cap ≡ present_count rows cap
  taken_present = rw (taken_others 6 (omega arith) (omega arith))

module _ (rows : List ℕ) (cap : ℕ) (size : Sized rows cap) (P : Places rows cap) (some : 0 < length (ring_of rows cap)) where
  abbrev first : ℕ
  first = rings rows (ring_front rows cap)

  abbrev next : ℕ
  next = wrapped cap (ring_front rows cap + 1)

  abbrev less : ℕ
  less = ring_count rows cap - 1

  abbrev rest : ℕ → ℕ
  rest = upd (upd (rings rows) cap next) (cap + 1) less

  any : 0 < ring_count rows cap
  any = omega (arith, ring_length rows cap)

  head : first_retired rows cap ≡ first
  head = queued_head cap (ring_front rows cap) (ring_count rows cap) (rings rows) P.front any

  next_low : next < cap
  next_low = let h = P.front in wrap-below (omega arith)

  taken_rings : rings (taken rows cap) ≡ rest
  unfolding taken
  taken_rings = column_stored 7 (omega arith) rows _ (omega arith)

  taken_front : ring_front (taken rows cap) cap ≡ next
  taken_front = rw taken_rings (upd_other (upd (rings rows) cap next) (cap + 1) less cap (omega arith) ∙ upd_same (rings rows) cap next)

  taken_count : ring_count (taken rows cap) cap ≡ less
  taken_count = rw taken_rings (upd_same (upd (rings rows) cap next) (cap + 1) less)

  rest_same : (s : ℕ) → s < cap → rest s ≡ rings rows s
  rest_same s l = upd_other (upd (rings rows) cap next) (cap + 1) less s (omega arith) ∙ upd_other (rings rows) cap next s (omega arith)

  -- LAW: the node taken was at the front of the ring
  pub taken_ring : ring_of rows cap ≡ first_retired rows cap ∷ ring_of (taken rows cap) cap
  taken_ring =
      let few = P.few in
      rw (taken_front, taken_count, taken_rings, head)
      (queued_pop cap (ring_front rows cap) (ring_count rows cap) (rings rows) P.front any P.few
      ∙ ap {B = List ℕ} (λ l. first ∷ l) (sym (queued_same cap next less next_low (rings rows) rest (omega arith) rest_same)))

  -- LAW: it is a node, its place is still that of a retired one
  pub taken_node : (first_retired rows cap < cap) × (places rows (first_retired rows cap) ≡ 3)
  taken_node =
      let s : Seated (rings rows) (places rows) (seats rows) cap 3 (ring_front rows cap) = rw (slot_zero P.front) at (P.gone 0 any) in
      rw head (s.node, s.placed)

  -- LAW: it is in the ring no more
  pub taken_out : In (first_retired rows cap) (ring_of (taken rows cap) cap) → ⊥
  taken_out = (rw taken_ring at (ring_distinct rows cap P)).0

  -- LAW: each node is in its place
  pub taken_kept : Places (taken rows cap) cap
  taken_kept =
      let few = P.few in
      let e3 = taken_others rows cap 3 (omega arith) (omega arith) in
      let e4 = taken_others rows cap 4 (omega arith) (omega arith) in
      let e6 = taken_others rows cap 6 (omega arith) (omega arith) in
      record {
        spares = rw e6 P.spares;
        idle = rw (e3, e4, e6) P.idle;
        front = rw taken_front next_low;
        few = rw taken_count (omega arith);
        gone =
            rw (taken_front, taken_count, taken_rings, e3, e4)
            (λ i l.
            let later : slot cap next i ≡ slot cap (ring_front rows cap) (suc i) = sym (slot_suc P.front (omega arith)) in
            let e : rest (slot cap next i) ≡ rings rows (slot cap (ring_front rows cap) (suc i)) = rest_same (slot cap next i) (slot_lt next_low (omega arith)) ∙ ap (rings rows) later in
            let s = P.gone (suc i) (omega arith) in
            record { node = rw e s.node; placed = rw e s.placed; back = rw e (s.back ∙ sym later) });
      }
