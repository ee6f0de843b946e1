-- Laws on lists: a map with take, drop and one more element, and how long a filtered list is. (They belong to `lists`.)
-- Assumes nothing.
use mathlib.Core.Path.{◌≡◌, refl, ap}
use mathlib.Core.Bool.{Bool, true, false}
use mathlib.Core.List.{List, [], ◌∷◌, ◌++◌, map}
use Prim.Native.Nat.{ℕ, zero, suc, ◌≤◌}
use native.Mathlib.Omega.{arith}
use lib.ListN.{length, take, drop}
use Rattle.lists.specs.Holds.{All}
use Rattle.lists.specs.Filters.{keep, filter, empty}

module _ {A : Type 0} where
  pub filter_shorter : (p : A → Bool) (xs : List A) → length (filter p xs) ≤ length xs
  filter_shorter p [] = omega arith
  filter_shorter p (x ∷ xs) = go (p x) (filter_shorter p xs)
    where
      go : (b : Bool) → length (filter p xs) ≤ length xs → length (keep b x (filter p xs)) ≤ suc (length xs)
      go true h = omega arith
      go false h = omega arith

module _ {A B : Type 0} (f : A → B) where
  pub map_snoc : (xs : List A) (x : A) → map f (xs ++ (x ∷ [])) ≡ map f xs ++ (f x ∷ [])
  map_snoc [] x = refl
  map_snoc (y ∷ xs) x = ap (f y ∷◌) (map_snoc xs x)

  pub map_take : (n : ℕ) (xs : List A) → take n (map f xs) ≡ map f (take n xs)
  map_take zero xs = refl
  map_take (suc n) [] = refl
  map_take (suc n) (x ∷ xs) = ap (f x ∷◌) (map_take n xs)

  pub map_drop : (n : ℕ) (xs : List A) → drop n (map f xs) ≡ map f (drop n xs)
  map_drop zero xs = refl
  map_drop (suc n) [] = refl
  map_drop (suc n) (x ∷ xs) = map_drop n xs

  pub map_empty : (xs : List A) → empty (map f xs) ≡ empty xs
  map_empty [] = refl
  map_empty (x ∷ xs) = refl

  pub all_mapped : (P : B → Type 0) (xs : List A) → All P (map f xs) → All (λ x. P (f x)) xs
  all_mapped P [] a = tt
  all_mapped P (x ∷ xs) a = (a.0, all_mapped P xs a.1)
