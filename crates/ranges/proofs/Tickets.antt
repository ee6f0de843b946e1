-- The open tickets, as the code comes to them and as ranges of the model.
-- Assumes nothing.
use mathlib.Core.Path.{◌≡◌, refl, ap}
use mathlib.Core.Bool.{Bool, true, false, cond}
use mathlib.Core.List.{List, [], ◌∷◌}
use mathlib.Core.Option.{none, some}
use Prim.Native.Nat.{ℕ, zero, suc, ◌-◌, ◌≤◌, ◌<◌}
use native.Mathlib.Omega.{arith}
use lib.ListN.{length, set, take}
use lib.Seq.{length-take-le, take-nil}
use lib.Dec.{eqb, ltb}
use borrow.Author.Tests.{ltb-true}
use Rattle.std.specs.Prelude.{Some, None}
use Rattle.std.specs.List.{position_or_len}
use Rattle.std.proofs.lemmas.List.Recursion.{is_position_or_len}
use Rattle.lists.specs.Holds.{All}
use Rattle.lists.specs.Filters.{keep, filter, first}
use Rattle.model.specs.Model as M
use Rattle.tables.specs.declared.Ticket.{Ticket}
use Rattle.tables.specs.Tables.{range_of, ranges_of, ticket_at}
use Rattle.ranges.specs.Tickets.{index_of, place_of, slide}

-- ---- closing up

pub slide_step : (i k : ℕ) (ts : List Ticket) → 0 < i → i < k → k ≤ length ts → slide i k (set ts (i - 1) (ticket_at ts i)) ≡ slide (i - 1) k ts
slide_step zero k ts p h l = absurd (omega arith)
slide_step (suc i) k ts p h l = let e : suc i - 1 ≡ i = omega arith in rw e (go i k ts h l)
  where
    go : (i k : ℕ) (ts : List Ticket) → suc i < k → k ≤ length ts → slide (suc i) k (set ts i (ticket_at ts (suc i))) ≡ slide i k ts
    go i zero ts h l = absurd (omega arith)
    go i (suc zero) ts h l = absurd (omega arith)
    go i (suc (suc k)) [] h l = absurd (omega arith)
    go zero (suc (suc k)) (x ∷ []) h l = absurd (omega arith)
    go zero (suc (suc k)) (x ∷ y ∷ ts) h l = refl
    go (suc i) (suc (suc k)) (x ∷ ts) h l = ap {B = List Ticket} (λ r. x ∷ r) (go i (suc k) ts (omega arith) (omega arith))

pub slide_end : (i k : ℕ) (ts : List Ticket) → i < k → k ≤ suc i → slide i k ts ≡ ts
slide_end i zero ts h l = refl
slide_end i (suc k) [] h l = refl
slide_end zero (suc zero) (x ∷ ts) h l = refl
slide_end zero (suc (suc k)) (x ∷ ts) h l = absurd (omega arith)
slide_end (suc i) (suc k) (x ∷ ts) h l = ap {B = List Ticket} (λ r. x ∷ r) (slide_end i k ts (omega arith) (omega arith))

pub length_slide : (j k : ℕ) (ts : List Ticket) → length (slide j k ts) ≡ length ts
length_slide j zero ts = refl
length_slide j (suc k) [] = refl
length_slide (suc j) (suc k) (x ∷ ts) = ap suc (length_slide j k ts)
length_slide zero (suc zero) (x ∷ ts) = refl
length_slide zero (suc (suc k)) (x ∷ []) = refl
length_slide zero (suc (suc k)) (x ∷ y ∷ ts) = ap suc (length_slide zero (suc k) (y ∷ ts))

-- ---- the ticket of a version

-- LAW: of all these tickets, it is the first that has the version
pub index_first : (v : ℕ) (ts : List Ticket) → index_of v (length ts) ts ≡ position_or_len (λ (x : Ticket). eqb x.version.0 v) ts
index_first v =
    is_position_or_len (λ ts. index_of v (length ts) ts) (λ (x : Ticket). eqb x.version.0 v) refl (λ x xs. ap (cond (eqb x.version.0 v) 0) (omega arith))

-- LAW: the first k of them are all that is looked at
pub index_taken : (v k : ℕ) (ts : List Ticket) → index_of v k (take k ts) ≡ index_of v k ts
index_taken v zero ts = refl
index_taken v (suc k) [] = refl
index_taken v (suc k) (x ∷ ts) = ap (λ (n : ℕ). cond (eqb x.version.0 v) 0 (suc n)) (index_taken v k ts)

-- LAW: where one of the first k is searched
pub place_taken : (v k : ℕ) (ts : List Ticket) → k ≤ length ts → place_of v (take k ts) ≡ cond (ltb (index_of v k ts) k) (Some (index_of v k ts)) None
place_taken v k ts l = rw (length-take-le k ts l, index_taken v k ts)

-- LAW: and what its answer says of the index
pub not_found : (v k : ℕ) (ts : List Ticket) → k ≤ length ts → place_of v (take k ts) ≡ None → ltb (index_of v k ts) k ≡ false
not_found v k ts l e = go (ltb (index_of v k ts) k) (rw (place_taken v k ts l) at e)
  where
    go : (b : Bool) → cond b (Some (index_of v k ts)) None ≡ None → b ≡ false
    go true e = cc
    go false e = refl

pub is_found : (v k : ℕ) (ts : List Ticket) (j : ℕ) → k ≤ length ts → place_of v (take k ts) ≡ Some j → (index_of v k ts ≡ j) × (ltb (index_of v k ts) k ≡ true) × (j < k)
is_found v k ts j l e = go (ltb (index_of v k ts) k) refl (rw (place_taken v k ts l) at e)
  where
    go : (b : Bool) → ltb (index_of v k ts) k ≡ b → cond b (Some (index_of v k ts)) None ≡ Some j → (index_of v k ts ≡ j) × (ltb (index_of v k ts) k ≡ true) × (j < k)
    go true q e = let i : index_of v k ts ≡ j = cc in (i, q, rw i at (ltb-true (index_of v k ts) k q))
    go false q e = absurd (cc)

-- ---- and the range of the model

pub named_ticket : (cap v : ℕ) (x : Ticket) → M.named v (range_of cap x) ≡ eqb x.version.0 v
unfolding range_of
named_ticket cap v x = refl

pub held_ticket : (cap : ℕ) (x : Ticket) → (range_of cap x).held ≡ x.held
unfolding range_of
held_ticket cap x = refl

module _ (cap v : ℕ) where
  -- LAW: the range of a version is the ticket found
  pub range_found : (k : ℕ) (ts : List Ticket) → index_of v k ts < k → M.range v (ranges_of cap ts k) ≡ some (range_of cap (ticket_at ts (index_of v k ts)))
  range_found zero ts h = absurd (omega arith)
  range_found (suc k) [] h = absurd (omega arith)
  range_found (suc k) (x ∷ ts) h = rw (named_ticket cap v x) (go (eqb x.version.0 v) h (range_found k ts))
    where
      go : (b : Bool) → cond b 0 (suc (index_of v k ts)) < suc k → (index_of v k ts < k → M.range v (ranges_of cap ts k) ≡ some (range_of cap (ticket_at ts (index_of v k ts))))
          → first (keep b (range_of cap x) (filter (M.named v) (ranges_of cap ts k))) ≡ some (range_of cap (ticket_at (x ∷ ts) (cond b 0 (suc (index_of v k ts)))))
      go true h i = refl
      go false h i = i (omega arith)

  -- LAW: where no ticket is found, there is no such range
  pub range_lost : (k : ℕ) (ts : List Ticket) → k ≤ length ts → k ≤ index_of v k ts → M.range v (ranges_of cap ts k) ≡ none
  range_lost zero ts l h = refl
  range_lost (suc k) [] l h = absurd (omega arith)
  range_lost (suc k) (x ∷ ts) l h = rw (named_ticket cap v x) (go (eqb x.version.0 v) h (range_lost k ts (omega arith)))
    where
      go : (b : Bool) → suc k ≤ cond b 0 (suc (index_of v k ts)) → (k ≤ index_of v k ts → M.range v (ranges_of cap ts k) ≡ none)
          → first (keep b (range_of cap x) (filter (M.named v) (ranges_of cap ts k))) ≡ none
      go true h i = absurd (omega arith)
      go false h i = i (omega arith)

-- ---- a property of the open tickets

module _ (P : Ticket → Type 0) where
  pub all_at : (ts : List Ticket) (k i : ℕ) → i < k → k ≤ length ts → All P (take k ts) → P (ticket_at ts i)
  all_at ts zero i h l a = absurd (omega arith)
  all_at [] (suc k) i h l a = absurd (omega arith)
  all_at (x ∷ ts) (suc k) zero h l a = a.0
  all_at (x ∷ ts) (suc k) (suc i) h l a = all_at ts k i (omega arith) (omega arith) a.1

  pub all_set : (ts : List Ticket) (k i : ℕ) (y : Ticket) → P y → All P (take k ts) → All P (take k (set ts i y))
  all_set ts zero i y p a = tt
  all_set [] (suc k) i y p a = tt
  all_set (x ∷ ts) (suc k) zero y p a = (p, a.1)
  all_set (x ∷ ts) (suc k) (suc i) y p a = (a.0, all_set ts k i y p a.1)

  pub all_slide : (j n : ℕ) (ts : List Ticket) → j ≤ n → All P (take (suc n) ts) → All P (take n (slide j (suc n) ts))
  all_slide j zero ts h a = tt
  all_slide j (suc n) [] h a = tt
  all_slide zero (suc n) (x ∷ []) h a = (a.0, rw (take-nil n) tt)
  all_slide zero (suc n) (x ∷ y ∷ ts) h a = (a.1.0, all_slide zero n (y ∷ ts) (omega arith) a.1)
  all_slide (suc j) (suc n) (x ∷ ts) h a = (a.0, all_slide j n ts (omega arith) a.1)
