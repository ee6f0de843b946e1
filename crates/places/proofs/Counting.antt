-- How many nodes are in a place, and that the stored count of present nodes goes on agreeing.
-- Assumes nothing.
use Prim.Native.Nat.{ℕ, suc, ◌+◌, ◌-◌, ◌<◌}
use mathlib.Core.Path.{◌≡◌, refl, sym, ap, ◌∙◌}
use mathlib.Core.Logic.{◌≢◌, by_cases}
use mathlib.Core.Bool.{Bool, true, false}
use mathlib.Core.List.{List, [], ◌∷◌, ◌++◌}
use native.Mathlib.Omega.{arith}
use native.Mathlib.Decide.{ℕ_discrete}
use native.Mathlib.Numerals.{add-one}
use lib.ListN.{length, length-append}
use lib.Dec.{eqb}
use borrow.Author.Tests.{eq-eqb, ne_eqb, eqb-true}
use Rattle.lists.specs.Filters.{keep, filter, count}
use Rattle.lists.specs.Members.{In, Distinct}
use Rattle.lists.proofs.Filtering.{filter_none, filter_same, filter_append}
use Rattle.lists.proofs.Holding.{all_every}
use Rattle.lists.proofs.Splits.{in_all}
use Rattle.lists.proofs.Tallies.{count_snoc, count_in_lem, in_count, count_distinct, in_filter, filter_in, distinct_filter, one_more_passes}
use Rattle.rows.specs.Rows.{upd, places}
use Rattle.rows.proofs.Columns.{upd_same, upd_other}
use Rattle.places.specs.Places.{Sized, present_count, free_of, ring_of, Places, nodes_in, Counted}
use Rattle.places.specs.Changes.{drawn, released, retired, taken, made_present, made_pending, cleared}
use Rattle.places.proofs.Seats.{room_for}
use Rattle.places.proofs.Freeing.{released_places, released_present, drawn_places, drawn_present}
use Rattle.places.proofs.Retiring.{retired_places, retired_present, taken_places, taken_present}
use Rattle.places.proofs.Marking.{marked_places, marked_present}
use Rattle.places.proofs.Clearing.{cleared_places, cleared_present}

-- ---- the nodes in the place p

module _ (place : ℕ → ℕ) (p cap : ℕ) where
  abbrev test : (ℕ → ℕ) → ℕ → Bool
  test f n = eqb (f n) p

  pub in_nodes : (n : ℕ) → In n (nodes_in place p cap) → (n < cap) × (place n ≡ p)
  in_nodes n i = let t = in_filter (test place) n (count 0 cap) i in (in_count cap n t.0, eqb-true (place n) p t.1)

  pub nodes_in_lem : (n : ℕ) → n < cap → place n ≡ p → In n (nodes_in place p cap)
  nodes_in_lem n l e = filter_in (test place) n (count 0 cap) (count_in_lem cap n l) (eq-eqb (place n) p e)

  pub nodes_distinct : Distinct (nodes_in place p cap)
  nodes_distinct = distinct_filter (test place) (count 0 cap) (count_distinct cap)

  module _ (n : ℕ) where
    -- LAW: a node goes from another place to another
    pub nodes_same : (q : ℕ) → place n ≢ p → q ≢ p → nodes_in (upd place n q) p cap ≡ nodes_in place p cap
    nodes_same q d e =
        filter_same (test (upd place n q)) (test place) (count 0 cap)
        (all_every (λ m. test (upd place n q) m ≡ test place m)
        (λ m.
        by_cases (ℕ_discrete m n) (λ f. rw (f, upd_same place n q, ne_eqb q p e, ne_eqb (place n) p d))
        (λ f. rw (upd_other place n q m f)))
        (count 0 cap))

    -- LAW: a node comes to the place
    pub nodes_more : n < cap → place n ≢ p → length (nodes_in (upd place n p) p cap) ≡ suc (length (nodes_in place p cap))
    nodes_more l d =
        one_more_passes (test place) (test (upd place n p)) n (count 0 cap) (count_distinct cap) (count_in_lem cap n l) (λ m f. rw (upd_other place n p m f))
        (ne_eqb (place n) p d) (rw (upd_same place n p) (eq-eqb p p refl))

    -- LAW: a node leaves the place
    pub nodes_less : (q : ℕ) → n < cap → place n ≡ p → q ≢ p → length (nodes_in place p cap) ≡ suc (length (nodes_in (upd place n q) p cap))
    nodes_less q l d e =
        one_more_passes (test (upd place n q)) (test place) n (count 0 cap) (count_distinct cap) (count_in_lem cap n l) (λ m f. rw (upd_other place n q m f))
        (rw (upd_same place n q) (ne_eqb q p e)) (eq-eqb (place n) p d)

-- LAW: the nodes below n + 1, where n is in the place and where it is not
module _ (place : ℕ → ℕ) (p n : ℕ) where
  step : (b : Bool) → eqb (place n) p ≡ b → nodes_in place p (n + 1) ≡ nodes_in place p n ++ keep b n []
  step b e =
      rw add-one (ap {B = List ℕ} (filter (λ m. eqb (place m) p)) (count_snoc n) ∙ filter_append (λ m. eqb (place m) p) (count 0 n) (n ∷ []) ∙ rw e)

  pub nodes_yes : place n ≡ p → length (nodes_in place p (n + 1)) ≡ length (nodes_in place p n) + 1
  nodes_yes e = ap {B = ℕ} length (step true (eq-eqb (place n) p e)) ∙ length-append (nodes_in place p n) (n ∷ [])

  pub nodes_no : place n ≢ p → length (nodes_in place p (n + 1)) ≡ length (nodes_in place p n)
  nodes_no d = ap {B = ℕ} length (step false (ne_eqb (place n) p d)) ∙ length-append (nodes_in place p n) [] ∙ omega arith

-- ---- the count of present nodes

module _ (rows : List ℕ) (cap n : ℕ) (C : Counted rows cap) (low : n < cap) where
  -- LAW: there is one more to count
  pub present_room : places rows n ≢ 1 → present_count rows cap < cap
  present_room d =
      rw C
      (room_for cap n (nodes_in (places rows) 1 cap) (nodes_distinct (places rows) 1 cap) (λ x i. (in_nodes (places rows) 1 cap x i).0) low
      (λ i. d (in_nodes (places rows) 1 cap n i).1))

  -- LAW: at least one is counted
  pub present_some : places rows n ≡ 1 → 0 < present_count rows cap
  present_some e = let h = nodes_less (places rows) 1 cap n 2 low e (omega arith) in omega arith

  module _ (size : Sized rows cap) where
    pub present_counted : places rows n ≢ 1 → Counted (made_present rows cap n) cap
    present_counted d =
        rw (marked_present rows cap n 1 (present_count rows cap + 1) size low, marked_places rows cap n 1 (present_count rows cap + 1) size low, nodes_more (places rows) 1 cap n low d)
        (add-one (present_count rows cap) ∙ ap suc C)

    pub pending_counted : places rows n ≡ 1 → Counted (made_pending rows cap n) cap
    pending_counted e =
        rw (marked_present rows cap n 2 (present_count rows cap - 1) size low, marked_places rows cap n 2 (present_count rows cap - 1) size low)
        (let h = nodes_less (places rows) 1 cap n 2 low e (omega arith) in omega arith)

    pub released_counted : Places rows cap → (In n (free_of rows cap) → ⊥) → places rows n ≢ 1 → Counted (released rows cap n) cap
    released_counted P out d =
        rw (released_present rows cap n size P low out, released_places rows cap n size P low out, nodes_same (places rows) 1 cap n 0 d (omega arith)) C

    pub retired_counted : Places rows cap → (In n (ring_of rows cap) → ⊥) → places rows n ≢ 1 → Counted (retired rows cap n) cap
    retired_counted P out d =
        rw (retired_present rows cap n, retired_places rows cap n size P low out, nodes_same (places rows) 1 cap n 3 d (omega arith)) C

pub drawn_counted : (rows : List ℕ) (cap : ℕ) → Counted rows cap → Sized rows cap → Places rows cap → 0 < length (free_of rows cap) → Counted (drawn rows cap) cap
drawn_counted rows cap C size P some = rw (drawn_present rows cap size P some, drawn_places rows cap) C

pub taken_counted : (rows : List ℕ) (cap : ℕ) → Counted rows cap → Counted (taken rows cap) cap
taken_counted rows cap C = rw (taken_present rows cap, taken_places rows cap) C

pub cleared_counted : (rows : List ℕ) (cap : ℕ) → Sized rows cap → Counted (cleared rows cap) cap
cleared_counted rows cap size =
    cleared_present rows cap size
    ∙ sym
    (ap {B = ℕ} length
    (filter_none (λ n. eqb (places (cleared rows cap) n) 1) (count 0 cap)
    (in_all (λ n. eqb (places (cleared rows cap) n) 1 ≡ false) (count 0 cap)
    (λ n i. rw (cleared_places rows cap size n (in_count cap n i))))))
