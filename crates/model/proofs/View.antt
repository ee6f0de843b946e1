-- Laws for the code's walks: what the model says of the map shown and of a range, read off the linked nodes.
-- Assumes nothing.
use mathlib.Core.Path.{◌≡◌, refl, sym, ap, ◌∙◌, subst}
use mathlib.Core.Bool.{Bool, true, false, cond, true≢false, ◌&&◌}
use mathlib.Core.List.{List, [], ◌∷◌, ◌++◌, map}
use mathlib.Core.Option.{none, some}
use Prim.Native.Nat.{ℕ}
use lib.IntN.{ℤ}
use lib.Signed.{lt_z}
use borrow.Author.Tests.{eq-eqb}
use Rattle.lists.specs.Holds.{All, Pairwise}
use Rattle.lists.specs.Filters.{keep, filter, first, last, last_or, maybe}
use Rattle.lists.proofs.Holding.{all_imp, all_imp₂}
use Rattle.lists.proofs.Filtering.{first_all}
use Rattle.model.specs.Keys.{eq_z}
use Rattle.model.specs.Plain.{Pair}
use Rattle.model.specs.Model.{Node, pair_of, is_present, may_rest, shown, is, Rest, on, tail, State, stops, rest_at, from, stitch, holds, leave, change, moved, pending}
use Rattle.model.specs.WellFormed.{Before, Apart, WellFormed}
use Rattle.model.proofs.Order.{and_left, and_right, lt_ne, eqb_sym, eq_z_eq}
use Rattle.model.proofs.Nodes.{others}

-- ---- the map shown

-- the pairs that pass a test are those of the present nodes that pass it
pub filter_shown : (p : Pair → Bool) (ns : List Node) → filter p (shown ns) ≡ map pair_of (filter (λ (n : Node). is_present n && p (pair_of n)) ns)
filter_shown p [] = refl
filter_shown p (n ∷ ns) = go (is_present n) (p (pair_of n)) refl refl (filter_shown p ns)
  where
    go : (b c : Bool) → is_present n ≡ b → p (pair_of n) ≡ c → filter p (shown ns) ≡ map pair_of (filter (λ (n : Node). is_present n && p (pair_of n)) ns)
        → filter p (shown (n ∷ ns)) ≡ map pair_of (filter (λ (n : Node). is_present n && p (pair_of n)) (n ∷ ns))
    go true true e f i = rw (e, f) (ap (pair_of n ∷◌) i)
    go true false e f i = rw (e, f) i
    go false c e f i = rw e i

pub first_map : (xs : List Node) → first (map pair_of xs) ≡ maybe none (λ (n : Node). some (pair_of n)) (first xs)
first_map [] = refl
first_map (x ∷ xs) = refl

pub last_map : (xs : List Node) → last (map pair_of xs) ≡ maybe none (λ (n : Node). some (pair_of n)) (last xs)
last_map [] = refl
last_map (x ∷ xs) = ap some (go x xs)
  where
    go : (y : Node) (ys : List Node) → last_or (pair_of y) (map pair_of ys) ≡ pair_of (last_or y ys)
    go y [] = refl
    go y (z ∷ ys) = go z ys

-- ---- a range's walk

-- the nodes from the one of that number on
abbrev pub scan : Rest → List Node → List Node
scan tail ns = []
scan (on i) [] = []
scan (on i) (n ∷ ns) = cond (is i n) (n ∷ ns) (scan (on i) ns)

from_none : (v i : ℕ) (ns : List Node) → All (λ n. is i n ≡ false) ns → from (on i) (stops v ns) ≡ []
from_none v i [] a = refl
from_none v i (n ∷ ns) a = go (may_rest v n) (from_none v i ns a.1)
  where
    go : (b : Bool) → from (on i) (stops v ns) ≡ [] → from (on i) (map (λ (n : Node). (n.number, pair_of n)) (keep b n (filter (may_rest v) ns))) ≡ []
    go true h = rw a.0 h
    go false h = h

-- what is ahead of a range is what a walk along the lowest level from where it rests meets
pub scan_ahead : (v : ℕ) (r : Rest) (ns : List Node) → Pairwise Apart ns → rest_at (from r (stops v ns)) ≡ r → stops v (scan r ns) ≡ from r (stops v ns)
scan_ahead v tail ns w e = refl
scan_ahead v (on i) [] w e = refl
scan_ahead v (on i) (n ∷ ns) w e = go (is i n) (may_rest v n) refl refl e (scan_ahead v (on i) ns w.1)
  where
    Goal : Type 0
    Goal = stops v (scan (on i) (n ∷ ns)) ≡ from (on i) (stops v (n ∷ ns))

    go : (b c : Bool) → is i n ≡ b → may_rest v n ≡ c → rest_at (from (on i) (map (λ (n : Node). (n.number, pair_of n)) (keep c n (filter (may_rest v) ns)))) ≡ on i
        → (rest_at (from (on i) (stops v ns)) ≡ on i → stops v (scan (on i) ns) ≡ from (on i) (stops v ns))
        → stops v (scan (on i) (n ∷ ns)) ≡ from (on i) (stops v (n ∷ ns))
    go true true t u f ih = rw (t, u, t)
    go true false t u f ih =
        let z : ◌≡◌ {A = Rest} tail (on i) = rw (from_none v i ns (others i n ns t w.0)) at f in
        let y : ◌≡◌ {A = Bool} true false = cc in
        absurd (true≢false y)
    go false true t u f ih = rw (t, u, t) (ih (rw t at f))
    go false false t u f ih = rw (t, u) (ih f)

-- ---- the changes of the linked nodes, as code makes them

-- a new node between a first part whose keys are not above its own and a last part whose first key is
pub stitch_at : (n : Node) (as' bs : List Node) → All (λ m. lt_z n.key m.key ≡ false) as' → maybe true (λ (m : Node). lt_z n.key m.key) (first bs) ≡ true
    → stitch n (as' ++ bs) ≡ as' ++ (n ∷ bs)
stitch_at n [] [] a e = refl
stitch_at n [] (b ∷ bs) a e = rw e
stitch_at n (x ∷ as') bs a e = rw a.0 (ap (x ∷◌) (stitch_at n as' bs a.1 e))

-- the node that a removal changes, by its number
held_by : (k : ℤ) (n : Node) (ns : List Node) → Pairwise Before ns → Pairwise Apart ns → first (filter (holds k) ns) ≡ some n
    → All (λ m. holds k m ≡ is n.number m) ns
held_by k n [] s a e = tt
held_by k n (m ∷ ms) s a e = go (holds k m) refl e (held_by k n ms s.1 a.1)
  where
    later : m ≡ n → holds k m ≡ true → (x : Node) → Before m x → Apart m x → holds k x ≡ is n.number x
    later z t x b c = rw (eqb_sym n.number x.number (rw z at c)) (go' (is_present x))
      where
        up : lt_z m.key x.key ≡ true
        up = rw (and_left (is_present m) (eq_z m.key k) t) at b

        ne : eq_z x.key k ≡ false
        ne = subst (λ (y : ℤ). eq_z x.key y ≡ false) (eq_z_eq m.key k (and_right (is_present m) (eq_z m.key k) t)) (lt_ne m.key x.key up)

        go' : (b : Bool) → (b && eq_z x.key k) ≡ false
        go' true = ne
        go' false = refl

    go : (b : Bool) → holds k m ≡ b → first (keep b m (filter (holds k) ms)) ≡ some n → (first (filter (holds k) ms) ≡ some n → All (λ x. holds k x ≡ is n.number x) ms)
        → All (λ x. holds k x ≡ is n.number x) (m ∷ ms)
    go true t f i =
        let z : m ≡ n = cc in
        (t ∙ sym (eq-eqb m.number n.number (ap (λ (y : Node). y.number) z)), all_imp₂ (Before m) (Apart m) (λ x. holds k x ≡ is n.number x) (later z t) ms s.0 a.0)
    go false t f i = (t ∙ sym (first_all (holds k) (Apart m) n ms f a.0), i f)

map_same : {A B : Type 0} (f g : A → B) (xs : List A) → All (λ x. f x ≡ g x) xs → map f xs ≡ map g xs
map_same f g [] a = refl
map_same f g (x ∷ xs) a = rw a.0 (ap (g x ∷◌) (map_same f g xs a.1))

pub leave_at : (s : State) → WellFormed s → (k : ℤ) (n : Node) → first (filter (holds k) s.order) ≡ some n
    → leave s.counter k s.order ≡ change (is n.number) (pending s.counter) s.order
leave_at s w k n e =
    map_same (λ (m : Node). cond (holds k m) (moved (pending s.counter) m) m) (λ (m : Node). cond (is n.number m) (moved (pending s.counter) m) m) s.order
    (all_imp (λ m. holds k m ≡ is n.number m) (λ m. cond (holds k m) (moved (pending s.counter) m) m ≡ cond (is n.number m) (moved (pending s.counter) m) m)
    (λ m h. rw h) s.order (held_by k n s.order w.sorted w.apart e))
