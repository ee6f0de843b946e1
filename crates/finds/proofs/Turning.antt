-- Lists turned round, and what passes a test: laws on lists that belong to `lists`.
-- Assumes nothing.
use mathlib.Core.Path.{◌≡◌, refl, sym, ap, ◌∙◌}
use mathlib.Core.Bool.{Bool, true, false}
use mathlib.Core.List.{List, [], ◌∷◌, ◌++◌, map, append_assoc, reverse, reverse-cons}
use Rattle.lists.specs.Holds.{All, Pairwise}
use Rattle.lists.specs.Filters.{keep, filter}
use Rattle.lists.proofs.Holding.{pairwise_snoc}
use Rattle.lists.proofs.Filtering.{first_split}
use Rattle.lists.proofs.Reversing.{all_reverse}

module _ {A : Type 0} where
  pub pairwise_reverse : (R : A → A → Type 0) (xs : List A) → Pairwise R xs → Pairwise (λ a b. R b a) (reverse xs)
  pairwise_reverse R [] h = tt
  pairwise_reverse R (x ∷ xs) h =
      rw (reverse-cons x xs) (pairwise_snoc (λ a b. R b a) (reverse xs) x (pairwise_reverse R xs h.1) (all_reverse (R x) xs h.0))

  pub pairwise_weak : (R S : A → A → Type 0) → ((a b : A) → R a b → S a b) → (xs : List A) → Pairwise R xs → Pairwise S xs
  pairwise_weak R S f [] h = tt
  pairwise_weak R S f (x ∷ xs) h = (each xs h.0, pairwise_weak R S f xs h.1)
    where
      each : (ys : List A) → All (R x) ys → All (S x) ys
      each [] a = tt
      each (y ∷ ys) a = (f x y a.0, each ys a.1)

  -- what holds of each two that pass a test
  pub pairwise_passed : (R : A → A → Type 0) (p : A → Bool) (xs : List A) → Pairwise (λ a b. p a ≡ true → p b ≡ true → R a b) xs → Pairwise R (filter p xs)
  pairwise_passed R p [] h = tt
  pairwise_passed R p (x ∷ xs) h = go (p x) refl (pairwise_passed R p xs h.1)
    where
      each : p x ≡ true → (ys : List A) → All (λ b. p x ≡ true → p b ≡ true → R x b) ys → All (R x) (filter p ys)
      each e [] a = tt
      each e (y ∷ ys) a = one (p y) refl (each e ys a.1)
        where
          one : (c : Bool) → p y ≡ c → All (R x) (filter p ys) → All (R x) (keep c y (filter p ys))
          one true f r = (a.0 e f, r)
          one false f r = r

      go : (c : Bool) → p x ≡ c → Pairwise R (filter p xs) → Pairwise R (keep c x (filter p xs))
      go true e r = (each e xs h.0, r)
      go false e r = r

-- a place of a list, by a place of what passes a test
pub record Passed {A : Type 0} (p : A → Bool) (xs : List A) (y : A) (ys : List A) : Type 0 where
  pub front : List A
  pub back : List A
  pub whole : xs ≡ front ++ y ∷ back
  pub rest : filter p back ≡ ys

pub filter_split : {A : Type 0} (p : A → Bool) (xs F : List A) (y : A) (ys : List A) → filter p xs ≡ F ++ y ∷ ys → Passed p xs y ys
filter_split p xs [] y ys e =
    let f = first_split p xs y ys e in
    record { front = f.skipped; back = f.later; whole = f.whole; rest = f.others }
filter_split p xs (x ∷ F) y ys e =
    let f = first_split p xs x (F ++ y ∷ ys) e in
    let r = filter_split p f.later F y ys f.others in
    record {
      front = f.skipped ++ x ∷ r.front;
      back = r.back;
      whole = f.whole ∙ (ap {B = List _} (λ l. f.skipped ++ x ∷ l) r.whole ∙ sym (append_assoc f.skipped (x ∷ r.front) (y ∷ r.back)));
      rest = r.rest;
    }

module _ {A B : Type 0} where
  pub filter_map : (f : A → B) (p : B → Bool) (q : A → Bool) (xs : List A) → All (λ x. p (f x) ≡ q x) xs → filter p (map f xs) ≡ map f (filter q xs)
  filter_map f p q [] h = refl
  filter_map f p q (x ∷ xs) h = rw h.0 (go (q x) (filter_map f p q xs h.1))
    where
      go : (c : Bool) → filter p (map f xs) ≡ map f (filter q xs) → keep c (f x) (filter p (map f xs)) ≡ map f (keep c x (filter q xs))
      go true e = ap {B = List B} (λ l. f x ∷ l) e
      go false e = e
