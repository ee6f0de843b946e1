-- Where a range rests: at its opening, and after a step.
-- Assumes nothing.
use mathlib.Core.Path.{◌≡◌, refl, ap, ◌∙◌}
use mathlib.Core.Bool.{Bool, true, false, cond}
use mathlib.Core.List.{List, [], ◌∷◌, ◌++◌, map, map-map, append-nil, append_assoc}
use Prim.Native.Nat.{ℕ, zero, suc}
use native.Mathlib.Omega.{arith}
use lib.ListN.{length, take, drop, take-append-drop}
use lib.Dec.{eqb}
use lib.IntN.{ℤ}
use lib.Signed.{le_z}
use borrow.Author.Tests.{lt-ltb, lt-leb, eq-eqb}
use Rattle.lists.specs.Holds.{All, Pairwise}
use Rattle.lists.specs.Filters.{keep, filter}
use Rattle.lists.proofs.Holding.{all_imp, all_imp₂, all_every, all_drop, all_right, pairwise_right, pairwise_image}
use Rattle.lists.proofs.Filtering.{all_passed, pairwise_filter, filter_all, filter_none, filter_same, filter_filter}
use Rattle.model.specs.Keys.{within}
use Rattle.model.specs.Plain.{between}
use Rattle.model.specs.Model.{Place, present, pending, retired, Node, pair_of, here, is_present, lasts, may_rest, shown, Rest, on, tail, Range, Stop, stops, rest_at, rest_after, new_range, from, ahead, inside, left, rested, pairs_of}
use Rattle.model.specs.WellFormed.{Before, Apart, Dated, Aged, Rested}
use Rattle.model.proofs.Order.{nle_lt, lt_nle, le_trans, lt_le_trans}
use Rattle.model.proofs.Nodes.{before_le}

abbrev pub ApartS : Stop → Stop → Type 0
ApartS x y = eqb x.0 y.0 ≡ false

abbrev pub Rises : Stop → Stop → Type 0
Rises x y = le_z x.1.0 y.1.0 ≡ true

pub stops_apart : (v : ℕ) (ns : List Node) → Pairwise Apart ns → Pairwise ApartS (stops v ns)
stops_apart v ns a =
    pairwise_image ApartS (λ (n : Node). (n.number, pair_of n)) (filter (may_rest v) ns) (pairwise_filter Apart (may_rest v) ns a)

pairwise_weak : {A : Type 0} (R S : A → A → Type 0) → ((x y : A) → R x y → S x y) → (xs : List A) → Pairwise R xs → Pairwise S xs
pairwise_weak R S f [] a = tt
pairwise_weak R S f (x ∷ xs) a = (all_imp (R x) (S x) (f x) xs a.0, pairwise_weak R S f xs a.1)

pub stops_rise : (v : ℕ) (ns : List Node) → Pairwise Before ns → Pairwise Rises (stops v ns)
stops_rise v ns a =
    pairwise_image Rises (λ (n : Node). (n.number, pair_of n)) (filter (may_rest v) ns)
    (pairwise_weak Before (λ n m. le_z n.key m.key ≡ true) before_le (filter (may_rest v) ns) (pairwise_filter Before (may_rest v) ns a))

-- ---- a list behind a first part

-- the resting place of a last part leads back to it
back : (pre ys : List Stop) → Pairwise ApartS (pre ++ ys) → from (rest_at ys) (pre ++ ys) ≡ ys
back [] [] a = refl
back [] (y ∷ ys) a = rw (eq-eqb y.0 y.0 refl)
back (x ∷ pre) [] a = refl
back (x ∷ pre) (y ∷ ys) a =
    rw (all_right (λ z. ApartS x z) pre (y ∷ ys) a.0).0 (back pre (y ∷ ys) a.1)

-- what lies before
skipped : (r : Rest) (xs : List Stop) → (pre : List Stop) × (pre ++ from r xs ≡ xs)
skipped tail xs = (xs, append-nil xs)
skipped (on i) [] = ([], refl)
skipped (on i) (x ∷ xs) = go (eqb x.0 i) (skipped (on i) xs)
  where
    go : (b : Bool) → (pre : List Stop) × (pre ++ from (on i) xs ≡ xs) → (pre : List Stop) × (pre ++ cond b (x ∷ xs) (from (on i) xs) ≡ x ∷ xs)
    go true h = ([], refl)
    go false h = (x ∷ h.0, ap (x ∷◌) h.1)

-- resting n places further on
pub from_drop : (n : ℕ) (r : Rest) (xs : List Stop) → Pairwise ApartS xs → from (rest_at (drop n (from r xs))) xs ≡ drop n (from r xs)
from_drop n r xs a = rw e at (back pre (drop n ys) (rw e a))
  where
    ys : List Stop
    ys = from r xs

    pre : List Stop
    pre = (skipped r xs).0 ++ take n ys

    e : pre ++ drop n ys ≡ xs
    e = append_assoc (skipped r xs).0 (take n ys) (drop n ys) ∙ ap ((skipped r xs).0 ++◌) (take-append-drop n ys) ∙ (skipped r xs).1

pub all_from : (P : Stop → Type 0) (r : Rest) (xs : List Stop) → All P xs → All P (from r xs)
all_from P r xs a = all_right P (skipped r xs).0 (from r xs) (rw (skipped r xs).1 a)

pub pairwise_from : (R : Stop → Stop → Type 0) (r : Rest) (xs : List Stop) → Pairwise R xs → Pairwise R (from r xs)
pairwise_from R r xs a = pairwise_right R (skipped r xs).0 (from r xs) (rw (skipped r xs).1 a)

-- ---- a step

-- in a rising list with nothing below the bounds, what is behind the first ones needed is what is left of those needed
pub cut : (l h : ℤ) (room : ℕ) (xs : List Stop) → Pairwise Rises xs → All (λ x. le_z l x.1.0 ≡ true) xs
    → inside l h (drop (length (take room (inside l h xs))) xs) ≡ drop room (inside l h xs)
cut l h zero [] s a = refl
cut l h (suc room) [] s a = refl
cut l h zero (x ∷ xs) s a = refl
cut l h (suc room) (x ∷ xs) s a = go (le_z x.1.0 h) refl (cut l h room xs s.1 a.1)
  where
    none_left : le_z x.1.0 h ≡ false → inside l h xs ≡ []
    none_left e =
        filter_none (λ (y : Stop). within l h y.1.0) xs
        (all_imp₂ (Rises x) (λ y. le_z l y.1.0 ≡ true) (λ y. within l h y.1.0 ≡ false)
        (λ y u v. rw (v, lt_nle h y.1.0 (lt_le_trans h x.1.0 y.1.0 (nle_lt x.1.0 h e) u))) xs s.0 a.1)

    go : (b : Bool) → le_z x.1.0 h ≡ b → inside l h (drop (length (take room (inside l h xs))) xs) ≡ drop room (inside l h xs)
        → inside l h (drop (length (take (suc room) (inside l h (x ∷ xs)))) (x ∷ xs)) ≡ drop (suc room) (inside l h (x ∷ xs))
    go true e i = rw (a.0, e) i
    go false e i = rw (a.0, e, none_left e, a.0, e) (none_left e)

module _ (r : Range) (room : ℕ) (ns : List Node) (s : Pairwise Before ns) (a : Pairwise Apart ns) (w : Rested ns r) where
  abbrev next : Range
  next = rested (rest_after room (ahead r ns) (left r ns)) r

  pub ahead_step : ahead next ns ≡ drop (length (take room (left r ns))) (ahead r ns)
  ahead_step = from_drop (length (take room (left r ns))) r.rest (stops r.version ns) (stops_apart r.version ns a)

  pub left_step : left next ns ≡ drop room (left r ns)
  left_step =
      ap (inside r.low r.high) ahead_step
      ∙ cut r.low r.high room (ahead r ns)
      (pairwise_from Rises r.rest (stops r.version ns) (stops_rise r.version ns s)) w.above

  pub rested_step : Rested ns next
  rested_step =
      record {
        found = ap rest_at ahead_step;
        above = rw ahead_step (all_drop (λ x. le_z r.low x.1.0 ≡ true) (length (take room (left r ns))) (ahead r ns) w.above);
      }

-- ---- an opening

-- in a rising list those at or above l are a last part
above_last : (l : ℤ) (xs : List Stop) → Pairwise Rises xs → (pre : List Stop) × (pre ++ filter (λ (x : Stop). le_z l x.1.0) xs ≡ xs)
above_last l [] s = ([], refl)
above_last l (x ∷ xs) s = go (le_z l x.1.0) refl (above_last l xs s.1)
  where
    go : (b : Bool) → le_z l x.1.0 ≡ b → (pre : List Stop) × (pre ++ filter (λ (x : Stop). le_z l x.1.0) xs ≡ xs)
        → (pre : List Stop) × (pre ++ keep b x (filter (λ (x : Stop). le_z l x.1.0) xs) ≡ x ∷ xs)
    go true e h = (
      [],
      ap (x ∷◌) (filter_all (λ (y : Stop). le_z l y.1.0) xs
          (all_imp (Rises x) (λ y. le_z l y.1.0 ≡ true) (λ y u. le_trans l x.1.0 y.1.0 e u) xs s.0)),
    )
    go false e h = (x ∷ h.0, ap (x ∷◌) h.1)

-- where the first at or above l is, all from there on are those at or above l
pub from_above : (l : ℤ) (xs : List Stop) → Pairwise Rises xs → Pairwise ApartS xs
    → from (rest_at (filter (λ (x : Stop). le_z l x.1.0) xs)) xs ≡ filter (λ (x : Stop). le_z l x.1.0) xs
from_above l xs s a = rw e at (back pre (filter (λ (x : Stop). le_z l x.1.0) xs) (rw e a))
  where
    pre : List Stop
    pre = (above_last l xs s).0

    e : pre ++ filter (λ (x : Stop). le_z l x.1.0) xs ≡ xs
    e = (above_last l xs s).1

-- a range of a version later than the counter sees the nodes that are present
pub rests_new : (c : ℕ) (n : Node) → Dated c n → may_rest (suc c) n ≡ is_present n
rests_new c n d = rw (lt-ltb n.inserted (suc c) (omega (arith, d.born))) (go n.place d.aged)
  where
    go : (p : Place) → Aged c p → lasts (suc c) p ≡ here p
    go present h = refl
    go (pending r) h = lt-leb (suc c) r (omega arith)
    go (retired r) h = lt-leb (suc c) r (omega arith)

pub pairs_stops : (v : ℕ) (ns : List Node) → pairs_of (stops v ns) ≡ map pair_of (filter (may_rest v) ns)
pairs_stops v ns = map-map (λ (x : Stop). x.1) (λ (n : Node). (n.number, pair_of n)) (filter (may_rest v) ns)

pub stops_new : (c : ℕ) (ns : List Node) → All (Dated c) ns → pairs_of (stops (suc c) ns) ≡ shown ns
stops_new c ns d =
    pairs_stops (suc c) ns
    ∙ ap (map pair_of) (filter_same (may_rest (suc c)) is_present ns (all_imp (Dated c) (λ n. may_rest (suc c) n ≡ is_present n) (rests_new c) ns d))

pub pairs_inside : (l h : ℤ) (xs : List Stop) → pairs_of (inside l h xs) ≡ between l h (pairs_of xs)
pairs_inside l h [] = refl
pairs_inside l h (x ∷ xs) = go (within l h x.1.0) (pairs_inside l h xs)
  where
    go : (b : Bool) → pairs_of (inside l h xs) ≡ between l h (pairs_of xs)
        → pairs_of (keep b x (inside l h xs)) ≡ keep b x.1 (between l h (pairs_of xs))
    go true i = ap (x.1 ∷◌) i
    go false i = i

module _ (v : ℕ) (l h : ℤ) (ns : List Node) (s : Pairwise Before ns) (a : Pairwise Apart ns) where
  pub ahead_new : ahead (new_range v l h ns) ns ≡ filter (λ (x : Stop). le_z l x.1.0) (stops v ns)
  ahead_new = from_above l (stops v ns) (stops_rise v ns s) (stops_apart v ns a)

  pub rested_new : Rested ns (new_range v l h ns)
  rested_new =
      record { found = ap rest_at ahead_new; above = rw ahead_new (all_passed (λ (x : Stop). le_z l x.1.0) (stops v ns)) }

  pub left_new : left (new_range v l h ns) ns ≡ inside l h (stops v ns)
  left_new =
      ap (inside l h) ahead_new
      ∙ filter_filter (λ (x : Stop). within l h x.1.0) (λ (x : Stop). le_z l x.1.0) (stops v ns)
      (all_every (λ x. le_z l x.1.0 ≡ false → within l h x.1.0 ≡ false) (λ x e. rw e) (stops v ns))

-- what a range opened now is to hand out is what the plain map has in its bounds
pub snapshot : (c : ℕ) (l h : ℤ) (ns : List Node) → Pairwise Before ns → Pairwise Apart ns → All (Dated c) ns
    → pairs_of (left (new_range (suc c) l h ns) ns) ≡ between l h (shown ns)
snapshot c l h ns s a d =
    ap pairs_of (left_new (suc c) l h ns s a) ∙ pairs_inside l h (stops (suc c) ns) ∙ ap (between l h) (stops_new c ns d)
