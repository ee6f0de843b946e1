-- Where a number stands in a list, a list without it, and the two ways to say that a list has no number twice.
-- Assumes nothing.
use Prim.Native.Nat.{ℕ, ◌≤◌, ◌<◌}
use mathlib.Core.Path.{◌≡◌, refl, sym, ap, ◌∙◌}
use mathlib.Core.Logic.{◌⊎◌, ⊎_elim, inl, inr}
use mathlib.Core.Bool.{Bool, true, false, not}
use mathlib.Core.List.{List, [], ◌∷◌, ◌++◌}
use native.Mathlib.Omega.{arith}
use native.Mathlib.Decide.{ℕ_discrete}
use lib.ListN.{length}
use lib.Dec.{eqb}
use borrow.Author.Tests.{eq-eqb, ne_eqb}
use Rattle.lists.specs.Holds.{All, Pairwise}
use Rattle.lists.specs.Filters.{keep, filter, without}
use Rattle.lists.specs.Members.{In, Distinct, Differ, Split}
use Rattle.lists.proofs.Holding.{all_imp}
use Rattle.lists.proofs.Filtering.{filter_all, filter_yes, filter_no}
use Rattle.lists.proofs.Pigeons.{room}

-- what holds of all holds of a member, and the other way round
pub all_in : (P : ℕ → Type 0) (xs : List ℕ) → All P xs → (x : ℕ) → In x xs → P x
all_in P [] a x i = absurd i
all_in P (y ∷ ys) a x i = ⊎_elim (λ e. rw e a.0) (λ j. all_in P ys a.1 x j) i

pub in_all : (P : ℕ → Type 0) (xs : List ℕ) → ((x : ℕ) → In x xs → P x) → All P xs
in_all P [] f = tt
in_all P (y ∷ ys) f = (f y (inl refl), in_all P ys (λ x i. f x (inr i)))

pub distinct_differ : (xs : List ℕ) → Distinct xs → Pairwise Differ xs
distinct_differ [] d = tt
distinct_differ (x ∷ xs) d = (in_all (Differ x) xs (λ y i e. d.0 (rw e i)), distinct_differ xs d.1)

pub differ_distinct : (xs : List ℕ) → Pairwise Differ xs → Distinct xs
differ_distinct [] d = tt
differ_distinct (x ∷ xs) d = (λ i. all_in (Differ x) xs d.0 x i refl, differ_distinct xs d.1)

-- LAW: different numbers below cap are at most cap
pub pigeon : (cap : ℕ) (xs : List ℕ) → All (λ m. m < cap) xs → Pairwise Differ xs → length xs ≤ cap
pigeon cap xs a d = room cap xs (differ_distinct xs d) (all_in (λ m. m < cap) xs a)

-- a list without n
pub without_off : (n : ℕ) (xs : List ℕ) → All (Differ n) xs → without n xs ≡ xs
without_off n xs d = filter_all _ xs (all_imp (Differ n) (λ m. not (eqb m n) ≡ true) (λ m e. ap not (ne_eqb m n (λ q. e (sym q)))) xs d)

-- what is left differs from n
pub without_differ : (n : ℕ) (xs : List ℕ) → All (Differ n) (without n xs)
without_differ n [] = tt
without_differ n (x ∷ xs) = go (ℕ_discrete x n) (without_differ n xs)
  where
    go : Dec (x ≡ n) → All (Differ n) (without n xs) → All (Differ n) (without n (x ∷ xs))
    go (yes e) r = rw (filter_no (λ m. not (eqb m n)) x xs (ap not (eq-eqb x n e))) r
    go (no e) r = rw (filter_yes (λ m. not (eqb m n)) x xs (ap not (ne_eqb x n e))) (λ q. e (sym q), r)

-- where a number stands

pub split_cons : (m a : ℕ) (xs : List ℕ) → Split m (a ∷ xs) → (a ≡ m) ⊎ Split m xs
split_cons m a xs s = go s.front s.whole
  where
    go : (f : List ℕ) → a ∷ xs ≡ f ++ m ∷ s.back → (a ≡ m) ⊎ Split m xs
    go [] e = let h : a ≡ m = cc in inl h
    go (x ∷ f) e = let t : xs ≡ f ++ m ∷ s.back = cc in inr (record { front = f; back = s.back; whole = t })

pub split_here : (m a : ℕ) (xs : List ℕ) → a ≡ m → Split m (a ∷ xs)
split_here m a xs e = record { front = []; back = xs; whole = ap (λ x. x ∷ xs) e }

pub split_there : (m a : ℕ) (xs : List ℕ) → Split m xs → Split m (a ∷ xs)
split_there m a xs s = record { front = a ∷ s.front; back = s.back; whole = ap {B = List ℕ} (λ r. a ∷ r) s.whole }

pub in_split : (m : ℕ) (xs : List ℕ) → In m xs → Split m xs
in_split m [] i = absurd i
in_split m (a ∷ xs) i = ⊎_elim (λ e. split_here m a xs (sym e)) (λ j. split_there m a xs (in_split m xs j)) i

pub split_in : (m : ℕ) (xs : List ℕ) → Split m xs → In m xs
split_in m [] s = absurd (none s.front s.whole)
  where
    none : (f : List ℕ) → [] ≡ f ++ m ∷ s.back → ⊥
    none [] q = let z : ◌≡◌ {A = ℕ} 0 1 = cc in omega arith
    none (x ∷ f) q = let z : ◌≡◌ {A = ℕ} 0 1 = cc in omega arith
split_in m (a ∷ xs) s = ⊎_elim (λ e. inl (sym e)) (λ t. inr (split_in m xs t)) (split_cons m a xs s)

pub split_insert : (m : ℕ) (A : List ℕ) (n : ℕ) (B : List ℕ) → Split m (A ++ B) → Split m (A ++ n ∷ B)
split_insert m [] n B s = split_there m n B s
split_insert m (a ∷ A) n B s = ⊎_elim (split_here m a (A ++ n ∷ B)) (λ t. split_there m a (A ++ n ∷ B) (split_insert m A n B t)) (split_cons m a (A ++ B) s)

-- a number that passes a test stands in what is filtered
pub split_filter : (m : ℕ) (p : ℕ → Bool) (xs : List ℕ) → p m ≡ true → Split m xs → Split m (filter p xs)
split_filter m p [] e s = absurd (split_in m [] s)
split_filter m p (a ∷ xs) e s = ⊎_elim (λ h. rw (filter_yes p a xs (ap p h ∙ e)) (split_here m a (filter p xs) h)) (λ t. go (p a) (split_filter m p xs e t)) (split_cons m a xs s)
  where
    go : (b : Bool) → Split m (filter p xs) → Split m (keep b a (filter p xs))
    go true t = split_there m a (filter p xs) t
    go false t = t
