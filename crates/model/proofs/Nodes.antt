-- What stitching, unstitching and a change of place do to the linked nodes.
-- Assumes nothing.
use mathlib.Core.Path.{◌≡◌, refl, sym, ap, ◌∙◌, subst}
use mathlib.Core.Bool.{Bool, true, false, not, cond, false≢true, true≢false, ◌&&◌}
use mathlib.Core.List.{List, [], ◌∷◌, map}
use mathlib.Core.Option.{some}
use Prim.Native.Nat.{ℕ, suc, ◌≤◌}
use lib.ListN.{length, length-map}
use lib.Dec.{eqb}
use lib.IntN.{ℤ}
use lib.Signed.{le_z, lt_z}
use borrow.Author.Tests.{eqb-true, eqb-false, le-ltb, le-leb, ne_eqb}
use Rattle.lists.specs.Holds.{All, Pairwise}
use Rattle.lists.specs.Filters.{keep, filter, first, empty}
use Rattle.lists.proofs.Holding.{all_imp, all_every, all_map_self, pairwise_map}
use Rattle.lists.proofs.Filtering.{filter_filter, filter_all, shown_map}
use Rattle.model.specs.Keys.{eq_z}
use Rattle.model.specs.Plain.{Pair, Map, put, del}
use Rattle.model.specs.Model.{Place, present, pending, retired, Node, pair_of, moved, change, here, is_present, may_rest, shown, stitch, holds, leave, is, unstitch, retire, stops}
use Rattle.model.specs.WellFormed.{Before, Apart, At, linked}
use Rattle.model.proofs.Order.{lt_le, nlt_le, lt_le_trans, le_ne_lt, eqb_sym}

-- ---- the nodes of one number

other : (a b i : ℕ) → eqb a b ≡ false → eqb a i ≡ true → eqb b i ≡ false
other a b i h k = ne_eqb b i (λ e. eqb-false a b h (eqb-true a i k ∙ sym e))

-- the rest of the list, where the first has the number
pub others : (i : ℕ) (m : Node) (ms : List Node) → is i m ≡ true → All (Apart m) ms → All (λ n. is i n ≡ false) ms
others i m ms t a =
    all_imp (Apart m) (λ n. is i n ≡ false) (λ n h. other m.number n.number i h t) ms a

none_at : (P : Node → Type 0) (i : ℕ) (ns : List Node) → All (λ n. is i n ≡ false) ns → At i P ns
none_at P i ns a = all_imp (λ n. is i n ≡ false) (λ n. is i n ≡ true → P n) (λ n f t. absurd (true≢false (sym t ∙ f))) ns a

-- what holds of the first node of a number holds of every one
pub only : (P : Node → Type 0) (i : ℕ) (n : Node) (ns : List Node) → Pairwise Apart ns → first (filter (is i) ns) ≡ some n → P n → At i P ns
only P i n [] w e h = tt
only P i n (m ∷ ms) w e h = go (is i m) refl e (λ f. only P i n ms w.1 f h)
  where
    go : (b : Bool) → is i m ≡ b → first (keep b m (filter (is i) ms)) ≡ some n → (first (filter (is i) ms) ≡ some n → At i P ms) → At i P (m ∷ ms)
    go true t f ih = let q : m ≡ n = cc in (λ u. subst P (sym q) h, none_at P i ms (others i m ms t w.0))
    go false t f ih = (λ u. absurd (true≢false (sym u ∙ t)), ih f)

pub linked_first : (i : ℕ) (n : Node) (ns : List Node) → first (filter (is i) ns) ≡ some n → linked i ns
linked_first i n ns e = go (filter (is i) ns) e
  where
    go : (xs : List Node) → first xs ≡ some n → empty xs ≡ false
    go [] f = let z : ◌≡◌ {A = Bool} true false = cc in z
    go (x ∷ xs) f = refl

-- ---- stitch

pub all_stitch : (P : Node → Type 0) (n : Node) (ns : List Node) → P n → All P ns → All P (stitch n ns)
all_stitch P n [] h a = (h, tt)
all_stitch P n (m ∷ ms) h a = go (lt_z n.key m.key) (all_stitch P n ms h a.1)
  where
    go : (b : Bool) → All P (stitch n ms) → All P (cond b (n ∷ m ∷ ms) (m ∷ stitch n ms))
    go true i = (h, a)
    go false i = (a.0, i)

pub apart_stitch : (n : Node) (ns : List Node) → All (λ m. is n.number m ≡ false) ns → Pairwise Apart ns → Pairwise Apart (stitch n ns)
apart_stitch n [] f a = (tt, tt)
apart_stitch n (m ∷ ms) f a = go (lt_z n.key m.key) (apart_stitch n ms f.1 a.1)
  where
    go : (b : Bool) → Pairwise Apart (stitch n ms) → Pairwise Apart (cond b (n ∷ m ∷ ms) (m ∷ stitch n ms))
    go true i =
        (all_imp (λ x. is n.number x ≡ false) (Apart n) (λ x h. eqb_sym x.number n.number h) (m ∷ ms) f, a)
    go false i = (all_stitch (Apart m) n ms f.0 a.0, i)

-- keys rise
pub before_le : (n m : Node) → Before n m → le_z n.key m.key ≡ true
before_le n m h = go (is_present n) h
  where
    go : (b : Bool) → cond b (lt_z n.key m.key) (le_z n.key m.key) ≡ true → le_z n.key m.key ≡ true
    go true k = lt_le n.key m.key k
    go false k = k

-- the key is not that of a present node
abbrev pub Absent : ℤ → Node → Type 0
Absent k n = is_present n ≡ true → eq_z n.key k ≡ false

pub sorted_stitch : (n : Node) (ns : List Node) → is_present n ≡ true → All (Absent n.key) ns → Pairwise Before ns → Pairwise Before (stitch n ns)
sorted_stitch n [] p f s = (tt, tt)
sorted_stitch n (m ∷ ms) p f s = go (lt_z n.key m.key) refl (sorted_stitch n ms p f.1 s.1)
  where
    up : (b : Bool) → is_present m ≡ b → le_z m.key n.key ≡ true → cond b (lt_z m.key n.key) (le_z m.key n.key) ≡ true
    up true t l = le_ne_lt m.key n.key l (f.0 t)
    up false t l = l

    go : (b : Bool) → lt_z n.key m.key ≡ b → Pairwise Before (stitch n ms) → Pairwise Before (cond b (n ∷ m ∷ ms) (m ∷ stitch n ms))
    go true e i = (
      (
        rw p e,
        all_imp (Before m) (Before n) (λ x h. rw p (lt_le_trans n.key m.key x.key e (before_le m x h))) ms s.0,
      ),
      s,
    )
    go false e i = (all_stitch (Before m) n ms (up (is_present m) refl (nlt_le n.key m.key e)) s.0, i)

pub length_stitch : (n : Node) (ns : List Node) → length (stitch n ns) ≡ suc (length ns)
length_stitch n [] = refl
length_stitch n (m ∷ ms) = go (lt_z n.key m.key) (length_stitch n ms)
  where
    go : (b : Bool) → length (stitch n ms) ≡ suc (length ms) → length (cond b (n ∷ m ∷ ms) (m ∷ stitch n ms)) ≡ suc (suc (length ms))
    go true i = refl
    go false i = ap suc i

-- a test that the new node fails sees nothing of it
pub filter_stitch : (p : Node → Bool) (n : Node) (ns : List Node) → p n ≡ false → filter p (stitch n ns) ≡ filter p ns
filter_stitch p n [] h = rw h
filter_stitch p n (m ∷ ms) h = go (lt_z n.key m.key) (filter_stitch p n ms h)
  where
    go : (b : Bool) → filter p (stitch n ms) ≡ filter p ms → filter p (cond b (n ∷ m ∷ ms) (m ∷ stitch n ms)) ≡ keep (p m) m (filter p ms)
    go true i = rw h
    go false i = ap (keep (p m) m) i

-- ---- a change of place

cond_number : (b : Bool) (p : Place) (n : Node) → (cond b (moved p n) n).number ≡ n.number
cond_number true p n = refl
cond_number false p n = refl

pub all_change : (P Q : Node → Type 0) (t : Node → Bool) (p : Place)
    → ((n : Node) → t n ≡ true → P n → Q (moved p n)) → ((n : Node) → t n ≡ false → P n → Q n)
    → (ns : List Node) → All P ns → All Q (change t p ns)
all_change P Q t p f g ns a = all_map_self P Q (λ n. cond (t n) (moved p n) n) one ns a
  where
    one : (n : Node) → P n → Q (cond (t n) (moved p n) n)
    one n h = go (t n) refl
      where
        go : (b : Bool) → t n ≡ b → Q (cond b (moved p n) n)
        go true e = f n e h
        go false e = g n e h

pub apart_change : (t : Node → Bool) (p : Place) (ns : List Node) → Pairwise Apart ns → Pairwise Apart (change t p ns)
apart_change t p ns a =
    pairwise_map Apart Apart (λ n. cond (t n) (moved p n) n)
    (λ x y h. rw (cond_number (t x) p x, cond_number (t y) p y) h)
    ns a

cond_key : (b : Bool) (p : Place) (n : Node) → (cond b (moved p n) n).key ≡ n.key
cond_key true p n = refl
cond_key false p n = refl

-- to a place that is not present
pub sorted_change : (t : Node → Bool) (p : Place) → here p ≡ false → (ns : List Node) → Pairwise Before ns → Pairwise Before (change t p ns)
sorted_change t p e ns s = pairwise_map Before Before (λ n. cond (t n) (moved p n) n) one ns s
  where
    go : (x : Node) (k : ℤ) (b : Bool) → cond (is_present x) (lt_z x.key k) (le_z x.key k) ≡ true → le_z x.key k ≡ true
        → cond (is_present (cond b (moved p x) x)) (lt_z (cond b (moved p x) x).key k) (le_z (cond b (moved p x) x).key k) ≡ true
    go x k true h l = rw e l
    go x k false h l = h

    one : (x y : Node) → Before x y → Before (cond (t x) (moved p x) x) (cond (t y) (moved p y) y)
    one x y h = rw (cond_key (t y) p y) (go x y.key (t x) h (before_le x y h))

pub length_change : (t : Node → Bool) (p : Place) (ns : List Node) → length (change t p ns) ≡ length ns
length_change t p ns = length-map ns (λ n. cond (t n) (moved p n) n)

-- a test and a view that the change keeps
pub seen_change : {B : Type 0} (g : Node → B) (q : Node → Bool) (t : Node → Bool) (p : Place) (ns : List Node)
    → All (λ n. t n ≡ true → (q (moved p n) ≡ q n) × (g (moved p n) ≡ g n)) ns
    → map g (filter q (change t p ns)) ≡ map g (filter q ns)
seen_change {B} g q t p ns a =
    shown_map g q (λ n. cond (t n) (moved p n) n) ns
    (all_imp (λ n. t n ≡ true → (q (moved p n) ≡ q n) × (g (moved p n) ≡ g n))
    (λ n. (q (cond (t n) (moved p n) n) ≡ q n) × (g (cond (t n) (moved p n) n) ≡ g n)) one ns a)
  where
    one : (n : Node) → (t n ≡ true → (q (moved p n) ≡ q n) × (g (moved p n) ≡ g n))
        → (q (cond (t n) (moved p n) n) ≡ q n) × (g (cond (t n) (moved p n) n) ≡ g n)
    one n h = go (t n) refl
      where
        go : (b : Bool) → t n ≡ b → (q (cond b (moved p n) n) ≡ q n) × (g (cond b (moved p n) n) ≡ g n)
        go true e = h e
        go false e = (refl, refl)

-- ---- unstitch

pub not-false : (b : Bool) → not b ≡ false → b ≡ true
not-false true h = refl
not-false false h = absurd (true≢false h)

-- a test that the nodes of that number fail sees nothing of it
pub filter_unstitch : (p : Node → Bool) (i : ℕ) (ns : List Node) → At i (λ n. p n ≡ false) ns → filter p (unstitch i ns) ≡ filter p ns
filter_unstitch p i ns a =
    filter_filter p (λ n. not (is i n)) ns
    (all_imp (λ n. is i n ≡ true → p n ≡ false) (λ n. not (is i n) ≡ false → p n ≡ false) (λ n h e. h (not-false (is i n) e)) ns a)

unstitch_none : (i : ℕ) (ns : List Node) → All (λ n. is i n ≡ false) ns → unstitch i ns ≡ ns
unstitch_none i ns a = filter_all _ ns (all_imp (λ n. is i n ≡ false) (λ n. not (is i n) ≡ true) (λ n e. ap not e) ns a)

-- of those that pass a test, one less
pub count_unstitch : (p : Node → Bool) (i : ℕ) (ns : List Node) → Pairwise Apart ns → linked i ns → At i (λ n. p n ≡ true) ns
    → suc (length (filter p (unstitch i ns))) ≡ length (filter p ns)
count_unstitch p i [] w l a = absurd (true≢false l)
count_unstitch p i (m ∷ ms) w l a = go (is i m) refl l (λ l'. count_unstitch p i ms w.1 l' a.1)
  where
    both : (b : Bool) → suc (length (filter p (unstitch i ms))) ≡ length (filter p ms)
        → suc (length (keep b m (filter p (unstitch i ms)))) ≡ length (keep b m (filter p ms))
    both true h = ap suc h
    both false h = h

    go : (b : Bool) → is i m ≡ b → empty (keep b m (filter (is i) ms)) ≡ false
        → (linked i ms → suc (length (filter p (unstitch i ms))) ≡ length (filter p ms))
        → suc (length (filter p (keep (not b) m (unstitch i ms)))) ≡ length (keep (p m) m (filter p ms))
    go true t e ih = rw (a.0 t, unstitch_none i ms (others i m ms t w.0))
    go false t e ih = both (p m) (ih e)

-- at another place, where they failed the test, one more
change_none : (i : ℕ) (p : Place) (ns : List Node) → All (λ n. is i n ≡ false) ns → change (is i) p ns ≡ ns
change_none i p [] a = refl
change_none i p (n ∷ ns) a = rw a.0 (ap (n ∷◌) (change_none i p ns a.1))

pub count_change : (q : Node → Bool) (i : ℕ) (p : Place) (ns : List Node) → Pairwise Apart ns → linked i ns
    → At i (λ n. (q n ≡ false) × (q (moved p n) ≡ true)) ns
    → length (filter q (change (is i) p ns)) ≡ suc (length (filter q ns))
count_change q i p [] w l a = absurd (true≢false l)
count_change q i p (m ∷ ms) w l a = go (is i m) refl l (λ l'. count_change q i p ms w.1 l' a.1)
  where
    both : (b : Bool) → length (filter q (change (is i) p ms)) ≡ suc (length (filter q ms))
        → length (keep b m (filter q (change (is i) p ms))) ≡ suc (length (keep b m (filter q ms)))
    both true h = ap suc h
    both false h = h

    go : (b : Bool) → is i m ≡ b → empty (keep b m (filter (is i) ms)) ≡ false
        → (linked i ms → length (filter q (change (is i) p ms)) ≡ suc (length (filter q ms)))
        → length (filter q (cond b (moved p m) m ∷ change (is i) p ms)) ≡ suc (length (keep (q m) m (filter q ms)))
    go true t e ih = rw ((a.0 t).0, (a.0 t).1, change_none i p ms (others i m ms t w.0))
    go false t e ih = both (q m) (ih e)

-- a node of that number
pub witness : (P : Node → Type 0) (i : ℕ) (ns : List Node) → At i P ns → linked i ns → (n : Node) × (is i n ≡ true) × P n
witness P i [] a l = absurd (true≢false l)
witness P i (m ∷ ms) a l = go (is i m) refl l (witness P i ms a.1)
  where
    go : (b : Bool) → is i m ≡ b → empty (keep b m (filter (is i) ms)) ≡ false → (linked i ms → (n : Node) × (is i n ≡ true) × P n) → (n : Node) × (is i n ≡ true) × P n
    go true t e ih = (m, t, a.0 t)
    go false t e ih = ih e

empty_map : {A B : Type 0} (g : A → B) (xs : List A) → empty (map g xs) ≡ empty xs
empty_map g [] = refl
empty_map g (x ∷ xs) = refl

pub linked_change : (i : ℕ) (t : Node → Bool) (p : Place) (ns : List Node) → linked i ns → linked i (change t p ns)
linked_change i t p ns l =
    sym (empty_map (λ (n : Node). n.number) (filter (is i) (change t p ns)))
    ∙ ap empty (seen_change (λ (n : Node). n.number) (is i) t p ns
    (all_every (λ n. t n ≡ true → (is i n ≡ is i n) × (n.number ≡ n.number)) (λ n e. (refl, refl)) ns))
    ∙ empty_map (λ (n : Node). n.number) (filter (is i) ns) ∙ l

pub linked_unstitch : (i j : ℕ) (ns : List Node) → eqb i j ≡ false → linked j ns → linked j (unstitch i ns)
linked_unstitch i j ns d l =
    rw (filter_unstitch (is j) i ns
    (all_every (λ n. is i n ≡ true → is j n ≡ false) (λ n e. ne_eqb n.number j (λ f. eqb-false i j d (sym (eqb-true n.number i e) ∙ f))) ns)) l

filter_true : (ns : List Node) → filter (λ (n : Node). true) ns ≡ ns
filter_true ns = filter_all _ ns (all_every (λ n. true ≡ true) (λ n. refl) ns)

pub length_unstitch : (i : ℕ) (ns : List Node) → Pairwise Apart ns → linked i ns → suc (length (unstitch i ns)) ≡ length ns
length_unstitch i ns w l =
    rw (filter_true (unstitch i ns), filter_true ns) at
    (count_unstitch (λ (n : Node). true) i ns w l (all_every (λ n. is i n ≡ true → true ≡ true) (λ n e. refl) ns))

-- ---- the map shown

pub shown_leave : (c : ℕ) (k : ℤ) (ns : List Node) → shown (leave c k ns) ≡ del k (shown ns)
shown_leave c k [] = refl
shown_leave c k (n ∷ ns) = go (is_present n) (eq_z n.key k) refl refl (shown_leave c k ns)
  where
    go : (b e : Bool) → is_present n ≡ b → eq_z n.key k ≡ e → shown (leave c k ns) ≡ del k (shown ns)
        → shown (leave c k (n ∷ ns)) ≡ del k (shown (n ∷ ns))
    go true true h e i = rw (h, e) i
    go true false h e i = rw (h, e, h) (ap (pair_of n ∷◌) i)
    go false e h f i = rw (h, h) i

pub shown_unstitch : (i : ℕ) (ns : List Node) → At i (λ n. is_present n ≡ false) ns → shown (unstitch i ns) ≡ shown ns
shown_unstitch i ns a = ap (map pair_of) (filter_unstitch is_present i ns a)

pub shown_retire : (i r : ℕ) (ns : List Node) → At i (λ n. is_present n ≡ false) ns → shown (retire i r ns) ≡ shown ns
shown_retire i r ns a =
    seen_change pair_of is_present (is i) (retired r) ns
    (all_imp (λ n. is i n ≡ true → is_present n ≡ false)
    (λ n. is i n ≡ true → (is_present (moved (retired r) n) ≡ is_present n) × (pair_of (moved (retired r) n) ≡ pair_of n))
    (λ n h e. (sym (h e), refl)) ns a)

-- a pair in front of greater keys
put_front : (k v : ℤ) (m : Map) → All (λ p. lt_z k p.0 ≡ true) m → put k v m ≡ (k, v) ∷ m
put_front k v [] a = refl
put_front k v (p ∷ m) a = rw a.0

pub all_shown : (P : Pair → Type 0) (ns : List Node) → All (λ n. is_present n ≡ true → P (pair_of n)) ns → All P (shown ns)
all_shown P [] a = tt
all_shown P (n ∷ ns) a = go (is_present n) refl (all_shown P ns a.1)
  where
    go : (b : Bool) → is_present n ≡ b → All P (shown ns) → All P (map pair_of (keep b n (filter is_present ns)))
    go true e i = (a.0 e, i)
    go false e i = i

pub shown_stitch : (n : Node) (ns : List Node) → is_present n ≡ true → Pairwise Before ns → shown (stitch n ns) ≡ put n.key n.value (shown ns)
shown_stitch n [] p s = rw p
shown_stitch n (m ∷ ms) p s = go (lt_z n.key m.key) (is_present m) refl refl (shown_stitch n ms p s.1)
  where
    above : lt_z n.key m.key ≡ true → All (λ x. lt_z n.key x.key ≡ true) (m ∷ ms)
    above l = (
      l,
      all_imp (Before m) (λ x. lt_z n.key x.key ≡ true) (λ x h. lt_le_trans n.key m.key x.key l (before_le m x h)) ms s.0,
    )

    go : (l b : Bool) → lt_z n.key m.key ≡ l → is_present m ≡ b → shown (stitch n ms) ≡ put n.key n.value (shown ms)
        → shown (stitch n (m ∷ ms)) ≡ put n.key n.value (shown (m ∷ ms))
    go true b e f i =
        rw (e, p)
        (sym (put_front n.key n.value (shown (m ∷ ms))
        (all_shown (λ q. lt_z n.key q.0 ≡ true) (m ∷ ms)
        (all_imp (λ x. lt_z n.key x.key ≡ true) (λ x. is_present x ≡ true → lt_z n.key x.key ≡ true) (λ x h u. h) (m ∷ ms) (above e)))))
    go false true e f i = rw (e, f, e) (ap (pair_of m ∷◌) i)
    go false false e f i = rw (e, f) i

-- ---- what a range may rest on

pub stops_stitch : (v : ℕ) (n : Node) (ns : List Node) → v ≤ n.inserted → stops v (stitch n ns) ≡ stops v ns
stops_stitch v n ns h =
    ap (map (λ (n : Node). (n.number, pair_of n))) (filter_stitch (may_rest v) n ns (rw (le-ltb n.inserted v h)))

pub stops_unstitch : (v i : ℕ) (ns : List Node) → At i (λ n. may_rest v n ≡ false) ns → stops v (unstitch i ns) ≡ stops v ns
stops_unstitch v i ns a = ap (map (λ (n : Node). (n.number, pair_of n))) (filter_unstitch (may_rest v) i ns a)

pub holds_present : (k : ℤ) (n : Node) → holds k n ≡ true → n.place ≡ present
holds_present k n h = go n.place h
  where
    go : (p : Place) → (here p && eq_z n.key k) ≡ true → p ≡ present
    go present e = refl
    go (pending r) e = absurd (false≢true e)
    go (retired r) e = absurd (false≢true e)

pub rests_leave : (v c : ℕ) (k : ℤ) (n : Node) → v ≤ c → holds k n ≡ true → may_rest v (moved (pending c) n) ≡ may_rest v n
rests_leave v c k n h e = rw (holds_present k n e, le-leb v c h)

pub stops_leave : (v c : ℕ) (k : ℤ) (ns : List Node) → v ≤ c → stops v (leave c k ns) ≡ stops v ns
stops_leave v c k ns h =
    seen_change (λ (n : Node). (n.number, pair_of n)) (may_rest v) (holds k) (pending c) ns
    (all_every (λ n. holds k n ≡ true → (may_rest v (moved (pending c) n) ≡ may_rest v n) × ((n.number, pair_of n) ≡ (n.number, pair_of n)))
    (λ n e. (rests_leave v c k n h e, refl)) ns)

pub stops_retire : (v i r : ℕ) (ns : List Node) → At i (λ n. n.place ≡ pending r) ns → stops v (retire i r ns) ≡ stops v ns
stops_retire v i r ns a =
    seen_change (λ (n : Node). (n.number, pair_of n)) (may_rest v) (is i) (retired r) ns
    (all_imp (λ n. is i n ≡ true → n.place ≡ pending r)
    (λ n. is i n ≡ true → (may_rest v (moved (retired r) n) ≡ may_rest v n) × ((n.number, pair_of n) ≡ (n.number, pair_of n)))
    (λ n h e. (rw (h e), refl)) ns a)
