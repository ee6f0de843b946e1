-- The rows after set-up cleared the places: every node free, 0 first; the ring empty; none present.
-- Assumes nothing.
use Prim.Native.Nat.{ℕ, zero, suc, ◌+◌, ◌-◌, ◌<◌, ◌≤◌}
use mathlib.Core.Path.{◌≡◌, refl, ap, ◌∙◌}
use mathlib.Core.Logic.{by_cases}
use mathlib.Core.List.{List, [], ◌∷◌}
use native.Mathlib.Omega.{arith}
use native.Mathlib.Decide.{ℕ_discrete}
use native.Mathlib.Nat.{not-suc-le-zero}
use lib.ListN.{length}
use Rattle.lists.specs.Filters.{count}
use Rattle.rows.specs.Rows.{column, upd, places, seats, frees, rings}
use Rattle.rows.proofs.Columns.{upd_same, upd_other}
use Rattle.places.specs.Places.{Sized, free_count, ring_front, ring_count, present_count, queued, free_of, ring_of, Places}
use Rattle.places.specs.Stores.{store}
use Rattle.places.specs.Changes.{cleared_nodes, cleared}
use Rattle.places.proofs.Lists.{stacked_count}
use Rattle.places.proofs.Stores.{Elsewhere, length_stored, column_stored, column_missed}

module _ (rows : List ℕ) (cap : ℕ) where
  nodes_length : (n : ℕ) → length (cleared_nodes rows cap n) ≡ length rows
  unfolding cleared_nodes
  nodes_length zero = refl
  nodes_length (suc n) = length_stored (cleared_nodes rows cap n) _ ∙ nodes_length n

  pub cleared_length : length (cleared rows cap) ≡ length rows
  unfolding cleared
  cleared_length = length_stored (cleared_nodes rows cap cap) _ ∙ nodes_length cap

  nodes_elsewhere : (n f : ℕ) → Elsewhere f → column (cleared_nodes rows cap n) f ≡ column rows f
  unfolding cleared_nodes
  nodes_elsewhere zero f e = refl
  nodes_elsewhere (suc n) f e = column_missed f (omega arith) (cleared_nodes rows cap n) _ (omega arith) ∙ nodes_elsewhere n f e

  -- LAW: no other column changes
  pub cleared_elsewhere : (f : ℕ) → Elsewhere f → column (cleared rows cap) f ≡ column rows f
  unfolding cleared
  cleared_elsewhere f e = column_missed f (omega arith) (cleared_nodes rows cap cap) _ (omega arith) ∙ nodes_elsewhere cap f e

-- the node i is free, with its seat, and stands there
record Idle (place seat free : ℕ → ℕ) (cap i : ℕ) : Type 0 where
  placed : place i ≡ 0
  seated : seat i ≡ cap - 1 - i
  entry : free i ≡ cap - 1 - i

idle_more : (place seat free : ℕ → ℕ) (cap n i : ℕ) → i < suc n → (i < n → Idle place seat free cap i)
    → Idle (upd place n 0) (upd seat n (cap - 1 - n)) (upd free n (cap - 1 - n)) cap i
idle_more place seat free cap n i h before =
    by_cases (ℕ_discrete i n)
    (λ e. rw e (record { placed = upd_same place n 0; seated = upd_same seat n (cap - 1 - n); entry = upd_same free n (cap - 1 - n) }))
    (λ d.
    let b = before (omega arith) in
    record {
      placed = upd_other place n 0 i d ∙ b.placed;
      seated = upd_other seat n (cap - 1 - n) i d ∙ b.seated;
      entry = upd_other free n (cap - 1 - n) i d ∙ b.entry;
    })

module _ (rows : List ℕ) (cap : ℕ) (size : Sized rows cap) where
  idle : (n : ℕ) → n ≤ cap → (i : ℕ) → i < n → Idle (places (cleared_nodes rows cap n)) (seats (cleared_nodes rows cap n)) (frees (cleared_nodes rows cap n)) cap i
  unfolding cleared_nodes
  idle zero u i h = absurd (not-suc-le-zero h)
  idle (suc n) u i h =
      let before : List ℕ = cleared_nodes rows cap n in
      let s : ℕ = cap - 1 - n in
      let z = nodes_length rows cap n in
      rw (
        column_stored 3 (omega arith) before (store n 3 0 ∷ store n 4 s ∷ store n 6 s ∷ []) (omega arith),
        column_stored 4 (omega arith) before (store n 3 0 ∷ store n 4 s ∷ store n 6 s ∷ []) (omega arith),
        column_stored 6 (omega arith) before (store n 3 0 ∷ store n 4 s ∷ store n 6 s ∷ []) (omega arith),
      )
      (idle_more (places before) (seats before) (frees before) cap n i h (idle n (omega arith) i))

  abbrev nodes : List ℕ
  nodes = cleared_nodes rows cap cap

  fields : (f : ℕ) → f < 6 → column (cleared rows cap) f ≡ column nodes f
  unfolding cleared
  fields f l = column_missed f (omega arith) nodes _ (omega arith)

  -- LAW: every node is free
  pub cleared_places : (i : ℕ) → i < cap → places (cleared rows cap) i ≡ 0
  cleared_places i l = rw (fields 3 (omega arith)) (idle cap (omega arith) i l).placed

  cleared_seats : (i : ℕ) → i < cap → seats (cleared rows cap) i ≡ cap - 1 - i
  cleared_seats i l = rw (fields 4 (omega arith)) (idle cap (omega arith) i l).seated

  cleared_frees : frees (cleared rows cap) ≡ upd (upd (frees nodes) cap cap) (cap + 1) 0
  unfolding cleared
  cleared_frees = let z = nodes_length rows cap cap in column_stored 6 (omega arith) nodes _ (omega arith)

  cleared_rings : rings (cleared rows cap) ≡ upd (upd (rings nodes) cap 0) (cap + 1) 0
  unfolding cleared
  cleared_rings = let z = nodes_length rows cap cap in column_stored 7 (omega arith) nodes _ (omega arith)

  cleared_entry : (i : ℕ) → i < cap → frees (cleared rows cap) i ≡ cap - 1 - i
  cleared_entry i l =
      rw cleared_frees
      (upd_other (upd (frees nodes) cap cap) (cap + 1) 0 i (omega arith) ∙ upd_other (frees nodes) cap cap i (omega arith) ∙ (idle cap (omega arith) i l).entry)

  cleared_count : free_count (cleared rows cap) cap ≡ cap
  cleared_count = rw cleared_frees (upd_other (upd (frees nodes) cap cap) (cap + 1) 0 cap (omega arith) ∙ upd_same (frees nodes) cap cap)

  cleared_front : ring_front (cleared rows cap) cap ≡ 0
  cleared_front = rw cleared_rings (upd_other (upd (rings nodes) cap 0) (cap + 1) 0 cap (omega arith) ∙ upd_same (rings nodes) cap 0)

  cleared_retired : ring_count (cleared rows cap) cap ≡ 0
  cleared_retired = rw cleared_rings (upd_same (upd (rings nodes) cap 0) (cap + 1) 0)

  -- LAW: no node is counted as present
  pub cleared_present : present_count (cleared rows cap) cap ≡ 0
  cleared_present = rw cleared_frees (upd_same (upd (frees nodes) cap cap) (cap + 1) 0)

  -- LAW: 0, 1, 2 and so on are free, in this order
  pub cleared_free : free_of (cleared rows cap) cap ≡ count 0 cap
  cleared_free =
      let same : cap - cap ≡ 0 = omega arith in
      rw cleared_count (stacked_count (frees (cleared rows cap)) cap cap (omega arith) cleared_entry ∙ ap (λ n. count n cap) same)

  -- LAW: no node is retired
  pub cleared_ring : ring_of (cleared rows cap) cap ≡ []
  unfolding queued
  cleared_ring = rw cleared_retired

  -- LAW: each node is in its place
  pub cleared_kept : 0 < cap → Places (cleared rows cap) cap
  cleared_kept some =
      record {
        spares = rw cleared_count (omega arith);
        idle =
            rw cleared_count
            (λ i l.
            let e = cleared_entry i l in
            record {
              node = rw e (omega arith);
              placed = rw e (cleared_places (cap - 1 - i) (omega arith));
              back = rw e (cleared_seats (cap - 1 - i) (omega arith) ∙ (omega arith));
            });
        front = rw cleared_front some;
        few = rw cleared_retired (omega arith);
        gone = rw cleared_retired (λ i l. absurd (omega arith));
      }
