-- The rows of four nodes at each stage of a node's life, with what the laws of `places` say of them.
-- Assumes nothing.
use Prim.Native.Nat.{ℕ, ◌+◌, ◌-◌, ◌<◌}
use mathlib.Core.Path.{◌≡◌, sym, ap, ◌∙◌}
use mathlib.Core.List.{List, [], ◌∷◌, ◌++◌}
use native.Mathlib.Omega.{arith}
use lib.ListN.{length}
use Rattle.lists.specs.Filters.{head_or}
use Rattle.lists.specs.Members.{In}
use Rattle.rows.specs.Rows.{places}
use Rattle.rows.proofs.Columns.{upd_same}
use Rattle.places.specs.Places.{Sized, Places, Counted, present_count, free_of, ring_of, first_free, first_retired}
use Rattle.places.specs.Changes.{drawn, released, retired, taken, made_present, made_pending, cleared}
use Rattle.places.proofs.Stores.{resized}
use Rattle.places.proofs.Members.{not_free, not_retired}
use Rattle.places.proofs.Freeing as F
use Rattle.places.proofs.Retiring as R
use Rattle.places.proofs.Marking as M
use Rattle.places.proofs.Clearing as C
use Rattle.places.proofs.Counting as K

tail_of : (a b : ℕ) (xs ys : List ℕ) → a ∷ xs ≡ b ∷ ys → ys ≡ xs
tail_of a b xs ys e = cc

-- what is known of the rows: the node 0 in the place p, the free nodes, the retired ones, and how many are present
pub record Stage (rows : List ℕ) (p : ℕ) (free ring : List ℕ) (k : ℕ) : Type 0 where
  pub sized : Sized rows 4
  pub kept : Places rows 4
  pub counted : Counted rows 4
  pub place : places rows 0 ≡ p
  pub frees : free_of rows 4 ≡ free
  pub gone : ring_of rows 4 ≡ ring
  pub present : present_count rows 4 ≡ k

pub fresh : (rows : List ℕ) → Sized rows 4 → Stage (cleared rows 4) 0 (0 ∷ 1 ∷ 2 ∷ 3 ∷ []) [] 0
fresh rows s =
    record {
      sized = resized rows (cleared rows 4) 4 (C.cleared_length rows 4) s;
      kept = C.cleared_kept rows 4 s (omega arith);
      counted = K.cleared_counted rows 4 s;
      place = C.cleared_places rows 4 s 0 (omega arith);
      frees = C.cleared_free rows 4 s;
      gone = C.cleared_ring rows 4 s;
      present = C.cleared_present rows 4 s;
    }

module _ (rows free ring : List ℕ) (k : ℕ) where
  -- drawn

  module _ (s : Stage rows 0 (0 ∷ free) ring k) where
    pub some_free : 0 < length (free_of rows 4)
    some_free = rw s.frees (omega arith)

    pub first_free_lem : first_free rows 4 ≡ 0
    first_free_lem = ap (λ l. head_or l 0) s.frees

    pub drawn_off : In 0 (free_of (drawn rows 4) 4) → ⊥
    drawn_off = rw first_free_lem at (F.drawn_out rows 4 s.sized s.kept some_free)

    pub after_draw : Stage (drawn rows 4) 0 free ring k
    after_draw =
        record {
          sized = resized rows (drawn rows 4) 4 (F.drawn_length rows 4) s.sized;
          kept = F.drawn_kept rows 4 s.sized s.kept some_free;
          counted = K.drawn_counted rows 4 s.counted s.sized s.kept some_free;
          place = rw (F.drawn_places rows 4) s.place;
          frees = tail_of 0 (first_free rows 4) free (free_of (drawn rows 4) 4) (sym s.frees ∙ F.drawn_free rows 4 s.sized s.kept some_free);
          gone = F.drawn_ring rows 4 ∙ s.gone;
          present = F.drawn_present rows 4 s.sized s.kept some_free ∙ s.present;
        }

  -- present

  pub after_present : Stage rows 0 free ring k → (In 0 (free_of rows 4) → ⊥) → Stage (made_present rows 4 0) 1 free ring (k + 1)
  after_present s out =
      let more : ℕ = present_count rows 4 + 1 in
      let pl = s.place in
      record {
        sized = resized rows (made_present rows 4 0) 4 (M.marked_length rows 4 0 1 more) s.sized;
        kept = M.marked_kept rows 4 0 1 more s.sized (omega arith) s.kept out (not_retired rows 4 s.kept 0 (omega arith));
        counted = K.present_counted rows 4 0 s.counted (omega arith) s.sized (omega arith);
        place = rw (M.marked_places rows 4 0 1 more s.sized (omega arith)) (upd_same (places rows) 0 1);
        frees = M.marked_free rows 4 0 1 more s.sized (omega arith) s.kept ∙ s.frees;
        gone = M.marked_ring rows 4 0 1 more ∙ s.gone;
        present = M.marked_present rows 4 0 1 more s.sized (omega arith) ∙ ap (λ x. x + 1) s.present;
      }

  -- pending

  pub after_pending : Stage rows 1 free ring k → Stage (made_pending rows 4 0) 2 free ring (k - 1)
  after_pending s =
      let less : ℕ = present_count rows 4 - 1 in
      let pl = s.place in
      record {
        sized = resized rows (made_pending rows 4 0) 4 (M.marked_length rows 4 0 2 less) s.sized;
        kept = M.marked_kept rows 4 0 2 less s.sized (omega arith) s.kept (not_free rows 4 s.kept 0 (omega arith)) (not_retired rows 4 s.kept 0 (omega arith));
        counted = K.pending_counted rows 4 0 s.counted (omega arith) s.sized s.place;
        place = rw (M.marked_places rows 4 0 2 less s.sized (omega arith)) (upd_same (places rows) 0 2);
        frees = M.marked_free rows 4 0 2 less s.sized (omega arith) s.kept ∙ s.frees;
        gone = M.marked_ring rows 4 0 2 less ∙ s.gone;
        present = M.marked_present rows 4 0 2 less s.sized (omega arith) ∙ ap (λ x. x - 1) s.present;
      }

  -- retired

  module _ (s : Stage rows 2 free ring k) where
    pub off_ring : In 0 (ring_of rows 4) → ⊥
    off_ring = let pl = s.place in not_retired rows 4 s.kept 0 (omega arith)

    pub after_retire : Stage (retired rows 4 0) 3 free (ring ++ (0 ∷ [])) k
    after_retire =
        let pl = s.place in
        record {
          sized = resized rows (retired rows 4 0) 4 (R.retired_length rows 4 0) s.sized;
          kept = R.retired_kept rows 4 0 s.sized s.kept (omega arith) off_ring (not_free rows 4 s.kept 0 (omega arith));
          counted = K.retired_counted rows 4 0 s.counted (omega arith) s.sized s.kept off_ring (omega arith);
          place = rw (R.retired_places rows 4 0 s.sized s.kept (omega arith) off_ring) (upd_same (places rows) 0 3);
          frees = R.retired_free rows 4 0 ∙ s.frees;
          gone = R.retired_ring rows 4 0 s.sized s.kept (omega arith) off_ring ∙ ap (λ l. l ++ (0 ∷ [])) s.gone;
          present = R.retired_present rows 4 0 ∙ s.present;
        }

  -- taken from the ring

  module _ (s : Stage rows 3 free (0 ∷ ring) k) where
    pub some_retired : 0 < length (ring_of rows 4)
    some_retired = rw s.gone (omega arith)

    pub first_retired_lem : first_retired rows 4 ≡ 0
    first_retired_lem = ap (λ l. head_or l 0) s.gone

    pub taken_off : In 0 (ring_of (taken rows 4) 4) → ⊥
    taken_off = rw first_retired_lem at (R.taken_out rows 4 s.sized s.kept some_retired)

    pub after_take : Stage (taken rows 4) 3 free ring k
    after_take =
        record {
          sized = resized rows (taken rows 4) 4 (R.taken_length rows 4) s.sized;
          kept = R.taken_kept rows 4 s.sized s.kept some_retired;
          counted = K.taken_counted rows 4 s.counted;
          place = rw (R.taken_places rows 4) s.place;
          frees = R.taken_free rows 4 ∙ s.frees;
          gone = tail_of 0 (first_retired rows 4) ring (ring_of (taken rows 4) 4) (sym s.gone ∙ R.taken_ring rows 4 s.sized s.kept some_retired);
          present = R.taken_present rows 4 ∙ s.present;
        }

  -- released

  module _ (s : Stage rows 3 free ring k) where
    pub off_stack : In 0 (free_of rows 4) → ⊥
    off_stack = let pl = s.place in not_free rows 4 s.kept 0 (omega arith)

    pub after_release : (In 0 (ring_of rows 4) → ⊥) → Stage (released rows 4 0) 0 (0 ∷ free) ring k
    after_release out =
        let pl = s.place in
        record {
          sized = resized rows (released rows 4 0) 4 (F.released_length rows 4 0) s.sized;
          kept = F.released_kept rows 4 0 s.sized s.kept (omega arith) off_stack out;
          counted = K.released_counted rows 4 0 s.counted (omega arith) s.sized s.kept off_stack (omega arith);
          place = rw (F.released_places rows 4 0 s.sized s.kept (omega arith) off_stack) (upd_same (places rows) 0 0);
          frees = F.released_free rows 4 0 s.sized s.kept (omega arith) off_stack ∙ ap {B = List ℕ} (λ l. 0 ∷ l) s.frees;
          gone = F.released_ring rows 4 0 ∙ s.gone;
          present = F.released_present rows 4 0 s.sized s.kept (omega arith) off_stack ∙ s.present;
        }
