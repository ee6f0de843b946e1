-- The rows after a node is released, and after one is drawn.
-- Assumes nothing.
use Prim.Native.Nat.{ℕ, ◌+◌, ◌-◌, ◌<◌}
use mathlib.Core.Path.{◌≡◌, refl, sym, ap, ◌∙◌}
use mathlib.Core.Logic.{◌≢◌}
use mathlib.Core.List.{List, ◌∷◌}
use native.Mathlib.Omega.{arith}
use lib.ListN.{length}
use Rattle.lists.specs.Members.{In}
use Rattle.rows.specs.Rows.{column, upd, places, seats, frees, rings}
use Rattle.rows.proofs.Columns.{upd_same, upd_other}
use Rattle.places.specs.Places.{Sized, slot, free_count, ring_front, ring_count, present_count, free_of, ring_of, first_free, Places}
use Rattle.places.specs.Changes.{drawn, released}
use Rattle.places.proofs.Lists.{free_length, stacked_same, stacked_push, stacked_pop, stacked_head}
use Rattle.places.proofs.Stores.{Elsewhere, length_stored, column_stored, column_missed}
use Rattle.places.proofs.Seats.{seats_keep, seats_push}
use Rattle.places.proofs.Members.{free_distinct, free_room, off_stack, off_ring}

-- ---- released

module _ (rows : List ℕ) (cap n : ℕ) where
  pub released_length : length (released rows cap n) ≡ length rows
  unfolding released
  released_length = length_stored rows _

  -- LAW: no other column changes
  pub released_elsewhere : (f : ℕ) → Elsewhere f → column (released rows cap n) f ≡ column rows f
  unfolding released
  released_elsewhere f e = column_missed f (omega arith) rows _ (omega arith)

  pub released_rings : rings (released rows cap n) ≡ rings rows
  unfolding released
  released_rings = column_missed 7 (omega arith) rows _ (omega arith)

  -- LAW: the ring is as it was
  pub released_ring : ring_of (released rows cap n) cap ≡ ring_of rows cap
  released_ring = rw released_rings

module _ (rows : List ℕ) (cap n : ℕ) (size : Sized rows cap) (P : Places rows cap) (low : n < cap) (out : In n (free_of rows cap) → ⊥) where
  abbrev seat : ℕ
  seat = free_count rows cap

  abbrev stack : ℕ → ℕ
  stack = upd (upd (frees rows) seat n) cap (seat + 1)

  room : seat < cap
  room = omega (arith, free_room rows cap P n low out, free_length rows cap)

  -- LAW: n is free
  pub released_places : places (released rows cap n) ≡ upd (places rows) n 0
  unfolding released
  released_places = let r = room in column_stored 3 (omega arith) rows _ (omega arith)

  released_seats : seats (released rows cap n) ≡ upd (seats rows) n seat
  unfolding released
  released_seats = let r = room in column_stored 4 (omega arith) rows _ (omega arith)

  released_frees : frees (released rows cap n) ≡ stack
  unfolding released
  released_frees = let r = room in column_stored 6 (omega arith) rows _ (omega arith)

  released_count : free_count (released rows cap n) cap ≡ seat + 1
  released_count = rw released_frees (upd_same (upd (frees rows) seat n) cap (seat + 1))

  -- LAW: as many nodes are counted as present
  pub released_present : present_count (released rows cap n) cap ≡ present_count rows cap
  released_present =
      let r = room in rw released_frees (upd_other (upd (frees rows) seat n) cap (seat + 1) (cap + 1) (omega arith) ∙ upd_other (frees rows) seat n (cap + 1) (omega arith))

  stack_old : (i : ℕ) → i < seat → stack i ≡ frees rows i
  stack_old i l = let r = room in upd_other (upd (frees rows) seat n) cap (seat + 1) i (omega arith) ∙ upd_other (frees rows) seat n i (omega arith)

  stack_new : stack seat ≡ n
  stack_new = let r = room in upd_other (upd (frees rows) seat n) cap (seat + 1) seat (omega arith) ∙ upd_same (frees rows) seat n

  -- LAW: n is on top of the free stack
  pub released_free : free_of (released rows cap n) cap ≡ n ∷ free_of rows cap
  released_free = rw (released_count, released_frees) (stacked_push (frees rows) stack seat n stack_new stack_old)

  -- LAW: each node is in its place, where n is not in the ring
  pub released_kept : (In n (ring_of rows cap) → ⊥) → Places (released rows cap n) cap
  released_kept off =
      record {
        spares = rw released_count (let r = room in omega arith);
        idle =
            rw (released_count, released_frees, released_places, released_seats)
            (seats_push (frees rows) (places rows) (seats rows) cap 0 seat (λ i. i) P.idle stack n low (off_stack rows cap n out) stack_old stack_new);
        front = rw released_rings P.front;
        few = rw released_rings P.few;
        gone =
            rw (released_rings, released_places, released_seats)
            (seats_keep (rings rows) (places rows) (seats rows) cap 3 (ring_count rows cap) (slot cap (ring_front rows cap)) P.gone (rings rows) n 0 seat
            (λ i l. refl) (off_ring rows cap n off));
      }

-- ---- drawn

module _ (rows : List ℕ) (cap : ℕ) where
  pub drawn_length : length (drawn rows cap) ≡ length rows
  unfolding drawn
  drawn_length = length_stored rows _

  -- LAW: no column changes but that of the free stack, so the places are as they were
  pub drawn_others : (f : ℕ) → f < 32 → f ≢ 6 → column (drawn rows cap) f ≡ column rows f
  unfolding drawn
  drawn_others f l d = column_missed f l rows _ ((omega arith, λ e. d (sym e)), tt)

  pub drawn_elsewhere : (f : ℕ) → Elsewhere f → column (drawn rows cap) f ≡ column rows f
  drawn_elsewhere f e = drawn_others f e.below e.free

  pub drawn_places : places (drawn rows cap) ≡ places rows
  drawn_places = drawn_others 3 (omega arith) (omega arith)

  -- LAW: the ring is as it was
  pub drawn_ring : ring_of (drawn rows cap) cap ≡ ring_of rows cap
  drawn_ring = rw (drawn_others 7 (omega arith) (omega arith))

module _ (rows : List ℕ) (cap : ℕ) (size : Sized rows cap) (P : Places rows cap) (some : 0 < length (free_of rows cap)) where
  abbrev top : ℕ
  top = free_count rows cap - 1

  any : 0 < free_count rows cap
  any = omega (arith, free_length rows cap)

  drawn_frees : frees (drawn rows cap) ≡ upd (frees rows) cap top
  unfolding drawn
  drawn_frees = column_stored 6 (omega arith) rows _ (omega arith)

  drawn_count : free_count (drawn rows cap) cap ≡ top
  drawn_count = rw drawn_frees (upd_same (frees rows) cap top)

  -- LAW: as many nodes are counted as present
  pub drawn_present : present_count (drawn rows cap) cap ≡ present_count rows cap
  drawn_present = rw drawn_frees (upd_other (frees rows) cap top (cap + 1) (omega arith))

  stack_below : (i : ℕ) → i < top → upd (frees rows) cap top i ≡ frees rows i
  stack_below i l = let s = P.spares in upd_other (frees rows) cap top i (omega arith)

  -- LAW: the node drawn was on top of the free stack
  pub drawn_free : free_of rows cap ≡ first_free rows cap ∷ free_of (drawn rows cap) cap
  drawn_free =
      rw (drawn_count, drawn_frees, stacked_head (frees rows) (free_count rows cap) any)
      (stacked_pop (frees rows) (free_count rows cap) any
      ∙ ap {B = List ℕ} (λ l. frees rows top ∷ l) (sym (stacked_same (upd (frees rows) cap top) (frees rows) top stack_below)))

  -- LAW: it is a node, its place is still that of a free one
  pub drawn_node : (first_free rows cap < cap) × (places rows (first_free rows cap) ≡ 0)
  drawn_node =
      let t = any in
      let s = P.idle top (omega arith) in
      rw (stacked_head (frees rows) (free_count rows cap) any) (s.node, s.placed)

  -- LAW: each node is in its place
  pub drawn_kept : Places (drawn rows cap) cap
  drawn_kept =
      let e3 = drawn_others rows cap 3 (omega arith) (omega arith) in
      let e4 = drawn_others rows cap 4 (omega arith) (omega arith) in
      let e7 = drawn_others rows cap 7 (omega arith) (omega arith) in
      record {
        spares = rw drawn_count (let s = P.spares in omega arith);
        idle =
            rw (drawn_count, drawn_frees, e3, e4)
            (λ i l.
            let s = P.idle i (omega arith) in
            let e = stack_below i l in
            record { node = rw e s.node; placed = rw e s.placed; back = rw e s.back });
        front = rw e7 P.front;
        few = rw e7 P.few;
        gone = rw (e3, e4, e7) P.gone;
      }

  -- LAW: it is in the free stack no more
  pub drawn_out : In (first_free rows cap) (free_of (drawn rows cap) cap) → ⊥
  drawn_out = (rw drawn_free at (free_distinct rows cap P)).0
