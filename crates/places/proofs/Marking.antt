-- The rows after a node that is neither in the free stack nor in the ring is marked: made present, or made pending.
-- Assumes nothing.
use Prim.Native.Nat.{ℕ, ◌+◌, ◌<◌}
use mathlib.Core.Path.{◌≡◌, refl}
use mathlib.Core.List.{List}
use native.Mathlib.Omega.{arith}
use lib.ListN.{length}
use Rattle.lists.specs.Members.{In}
use Rattle.rows.specs.Rows.{column, upd, places, seats, frees, rings}
use Rattle.rows.proofs.Columns.{upd_same, upd_other}
use Rattle.places.specs.Places.{Sized, slot, free_count, ring_front, ring_count, present_count, free_of, ring_of, Places}
use Rattle.places.specs.Changes.{marked}
use Rattle.places.proofs.Lists.{stacked_same}
use Rattle.places.proofs.Stores.{Elsewhere, length_stored, column_stored, column_missed}
use Rattle.places.proofs.Seats.{seats_mark}
use Rattle.places.proofs.Members.{off_stack, off_ring}

module _ (rows : List ℕ) (cap n p k : ℕ) where
  pub marked_length : length (marked rows cap n p k) ≡ length rows
  unfolding marked
  marked_length = length_stored rows _

  -- LAW: no other column changes
  pub marked_elsewhere : (f : ℕ) → Elsewhere f → column (marked rows cap n p k) f ≡ column rows f
  unfolding marked
  marked_elsewhere f e = column_missed f (omega arith) rows _ (omega arith)

  pub marked_seats : seats (marked rows cap n p k) ≡ seats rows
  unfolding marked
  marked_seats = column_missed 4 (omega arith) rows _ (omega arith)

  pub marked_rings : rings (marked rows cap n p k) ≡ rings rows
  unfolding marked
  marked_rings = column_missed 7 (omega arith) rows _ (omega arith)

  -- LAW: the ring is as it was
  pub marked_ring : ring_of (marked rows cap n p k) cap ≡ ring_of rows cap
  marked_ring = rw marked_rings

  module _ (size : Sized rows cap) (low : n < cap) where
    -- LAW: n is in the place p
    pub marked_places : places (marked rows cap n p k) ≡ upd (places rows) n p
    unfolding marked
    marked_places = column_stored 3 (omega arith) rows _ (omega arith)

    marked_frees : frees (marked rows cap n p k) ≡ upd (frees rows) (cap + 1) k
    unfolding marked
    marked_frees = column_stored 6 (omega arith) rows _ (omega arith)

    -- LAW: k nodes are counted as present
    pub marked_present : present_count (marked rows cap n p k) cap ≡ k
    marked_present = rw marked_frees (upd_same (frees rows) (cap + 1) k)

    marked_count : free_count (marked rows cap n p k) cap ≡ free_count rows cap
    marked_count = rw marked_frees (upd_other (frees rows) (cap + 1) k cap (omega arith))

    module _ (P : Places rows cap) where
      stack_same : (i : ℕ) → i < free_count rows cap → upd (frees rows) (cap + 1) k i ≡ frees rows i
      stack_same i l = let s = P.spares in upd_other (frees rows) (cap + 1) k i (omega arith)

      -- LAW: the free stack is as it was
      pub marked_free : free_of (marked rows cap n p k) cap ≡ free_of rows cap
      marked_free = rw (marked_count, marked_frees) (stacked_same (upd (frees rows) (cap + 1) k) (frees rows) (free_count rows cap) stack_same)

      -- LAW: each node is in its place
      pub marked_kept : (In n (free_of rows cap) → ⊥) → (In n (ring_of rows cap) → ⊥) → Places (marked rows cap n p k) cap
      marked_kept out off =
          record {
            spares = rw marked_count P.spares;
            idle =
                rw (marked_count, marked_frees, marked_places, marked_seats)
                (seats_mark (frees rows) (places rows) (seats rows) cap 0 (free_count rows cap) (λ i. i) P.idle (upd (frees rows) (cap + 1) k) n p stack_same
                (off_stack rows cap n out));
            front = rw marked_rings P.front;
            few = rw marked_rings P.few;
            gone =
                rw (marked_rings, marked_places, marked_seats)
                (seats_mark (rings rows) (places rows) (seats rows) cap 3 (ring_count rows cap) (slot cap (ring_front rows cap)) P.gone (rings rows) n p
                (λ i l. refl) (off_ring rows cap n off));
          }
