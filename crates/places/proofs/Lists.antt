-- Laws of `stacked` and `queued`, the free stack and the ring as lists.
-- Assumes nothing.
use Prim.Native.Nat.{ℕ, zero, suc, ◌+◌, ◌-◌, ◌<◌, ◌≤◌}
use mathlib.Core.Path.{◌≡◌, refl, ap, ap₂, ◌∙◌}
use mathlib.Core.Logic.{◌≢◌, ◌⊎◌, inl, inr}
use mathlib.Core.List.{List, [], ◌∷◌, ◌++◌}
use native.Mathlib.Omega.{arith}
use native.Mathlib.Decide.{dec_lt}
use native.Mathlib.Numerals.{add-one}
use lib.ListN.{length}
use Rattle.lists.specs.Filters.{head_or, count}
use Rattle.lists.specs.Members.{In, Distinct}
use Rattle.lists.proofs.Tabbing.{tab_length, tab_ext, tab_snoc, in_tab, tab_in, tab_distinct}
use Rattle.rows.specs.Rows.{frees, rings}
use Rattle.places.specs.Places.{wrapped, slot, stacked, queued, free_count, ring_front, ring_count, free_of, ring_of}
use Rattle.places.proofs.Wraps.{slot_lt, slot_inj, slot_zero, slot_suc}

-- ---- the stack

pub stacked_length : (f : ℕ → ℕ) (k : ℕ) → length (stacked f k) ≡ k
unfolding stacked
stacked_length f zero = refl
stacked_length f (suc k) = ap suc (stacked_length f k)

pub stacked_same : (f g : ℕ → ℕ) (k : ℕ) → ((i : ℕ) → i < k → f i ≡ g i) → stacked f k ≡ stacked g k
unfolding stacked
stacked_same f g zero h = refl
stacked_same f g (suc k) h = ap₂ {C = List ℕ} (λ a l. a ∷ l) (h k (omega arith)) (stacked_same f g k (λ i l. h i (omega arith)))

-- LAW: a push
pub stacked_push : (f g : ℕ → ℕ) (k n : ℕ) → g k ≡ n → ((i : ℕ) → i < k → g i ≡ f i) → stacked g (k + 1) ≡ n ∷ stacked f k
unfolding stacked
stacked_push f g k n e h = rw add-one (ap₂ {C = List ℕ} (λ a l. a ∷ l) e (stacked_same g f k h))

-- LAW: a pop
pub stacked_pop : (f : ℕ → ℕ) (k : ℕ) → 0 < k → stacked f k ≡ f (k - 1) ∷ stacked f (k - 1)
unfolding stacked
stacked_pop f zero p = absurd (omega arith)
stacked_pop f (suc k) p = let d : suc k - 1 ≡ k = omega arith in rw d

pub in_stacked : (f : ℕ → ℕ) (k x : ℕ) → In x (stacked f k) → (i : ℕ) × (i < k) × (x ≡ f i)
unfolding stacked
in_stacked f zero x i = absurd i
in_stacked f (suc k) x (inl e) = (k, omega arith, e)
in_stacked f (suc k) x (inr i) = let t = in_stacked f k x i in (t.0, omega (arith, t.1), t.2)

pub stacked_in : (f : ℕ → ℕ) (k i : ℕ) → i < k → In (f i) (stacked f k)
unfolding stacked
stacked_in f zero i l = absurd (omega arith)
stacked_in f (suc k) i l = go (dec_lt i k) (stacked_in f k i)
  where
    go : Dec (i < k) → (i < k → In (f i) (stacked f k)) → (f i ≡ f k) ⊎ In (f i) (stacked f k)
    go (yes h) ih = inr (ih h)
    go (no h) ih = let e : i ≡ k = omega arith in inl (ap f e)

pub stacked_distinct : (f : ℕ → ℕ) (k : ℕ) → ((i j : ℕ) → i < k → j < k → f i ≡ f j → i ≡ j) → Distinct (stacked f k)
unfolding stacked
stacked_distinct f zero inj = tt
stacked_distinct f (suc k) inj = (
  λ i. let t = in_stacked f k (f k) i in let e = inj k t.0 (omega arith) (omega (arith, t.1)) t.2 in omega (arith, t.1),
  stacked_distinct f k (λ i j l m e. inj i j (omega arith) (omega arith) e),
)

-- the entries c - 1, c - 2, .. of a stack of c, from the top: c - k, c - k + 1, ..
pub stacked_count : (f : ℕ → ℕ) (c k : ℕ) → k ≤ c → ((i : ℕ) → i < k → f i ≡ c - 1 - i) → stacked f k ≡ count (c - k) k
unfolding stacked
stacked_count f c zero l h = refl
stacked_count f c (suc k) l h =
    let e : f k ≡ c - suc k = h k (omega arith) ∙ (omega arith) in
    let d : c - k ≡ suc (c - suc k) = omega arith in
    ap₂ {C = List ℕ} (λ a r. a ∷ r) e (stacked_count f c k (omega arith) (λ i u. h i (omega arith)) ∙ ap (λ n. count n k) d)

-- ---- the ring

module _ (c : ℕ) (entry : ℕ → ℕ) (front k : ℕ) where
  pub queued_length : length (queued c entry front k) ≡ k
  unfolding queued
  queued_length = tab_length k (λ i. entry (slot c front i))

  pub in_queued : (x : ℕ) → In x (queued c entry front k) → (i : ℕ) × (i < k) × (x ≡ entry (slot c front i))
  unfolding queued
  in_queued x i = in_tab k x (λ i. entry (slot c front i)) i

  pub queued_in : (i : ℕ) → i < k → In (entry (slot c front i)) (queued c entry front k)
  unfolding queued
  queued_in i l = tab_in k i (λ i. entry (slot c front i)) l

  pub queued_distinct : ((i j : ℕ) → i < k → j < k → entry (slot c front i) ≡ entry (slot c front j) → i ≡ j) → Distinct (queued c entry front k)
  unfolding queued
  queued_distinct inj = tab_distinct k (λ i. entry (slot c front i)) inj

module _ (c front k : ℕ) (f : front < c) where
  pub queued_same : (entry entry' : ℕ → ℕ) → k ≤ c → ((s : ℕ) → s < c → entry' s ≡ entry s) → queued c entry' front k ≡ queued c entry front k
  unfolding queued
  queued_same entry entry' l h = tab_ext k (λ i. entry' (slot c front i)) (λ i. entry (slot c front i)) (λ j i. h (slot c front j) (slot_lt f (omega arith)))

  -- LAW: one more at the back
  pub queued_push : (entry entry' : ℕ → ℕ) (n : ℕ) → k < c → entry' (slot c front k) ≡ n → ((s : ℕ) → s < c → s ≢ slot c front k → entry' s ≡ entry s)
      → queued c entry' front (k + 1) ≡ queued c entry front k ++ (n ∷ [])
  unfolding queued
  queued_push entry entry' n l e h =
      rw add-one
      (tab_snoc k (λ i. entry' (slot c front i))
      ∙ ap₂ {C = List ℕ} (λ a b. a ++ (b ∷ []))
      (tab_ext k (λ i. entry' (slot c front i)) (λ i. entry (slot c front i))
      (λ j i. h (slot c front j) (slot_lt f (omega arith)) (λ q. let z = slot_inj f (omega arith) l q in omega arith)))
      e)

popped : (c front k : ℕ) (entry : ℕ → ℕ) → front < c → suc k ≤ c → queued c entry front (suc k) ≡ entry front ∷ queued c entry (wrapped c (front + 1)) k
unfolding queued
popped c front k entry f l =
    ap₂ {C = List ℕ} (λ a b. a ∷ b)
    (ap entry (slot_zero f))
    (tab_ext k (λ i. entry (slot c front (suc i))) (λ i. entry (slot c (wrapped c (front + 1)) i)) (λ j h. ap entry (slot_suc f (omega arith))))

-- LAW: one less at the front
pub queued_pop : (c front k : ℕ) (entry : ℕ → ℕ) → front < c → 0 < k → k ≤ c → queued c entry front k ≡ entry front ∷ queued c entry (wrapped c (front + 1)) (k - 1)
queued_pop c front zero entry f p l = absurd (omega arith)
queued_pop c front (suc k) entry f p l = let d : suc k - 1 ≡ k = omega arith in rw d (popped c front k entry f l)

-- what is at the front
pub queued_head : (c front k : ℕ) (entry : ℕ → ℕ) → front < c → 0 < k → head_or (queued c entry front k) 0 ≡ entry front
unfolding queued
queued_head c front zero entry f p = absurd (omega arith)
queued_head c front (suc k) entry f p = ap entry (slot_zero f)

pub stacked_head : (entry : ℕ → ℕ) (k : ℕ) → 0 < k → head_or (stacked entry k) 0 ≡ entry (k - 1)
unfolding stacked
stacked_head entry zero p = absurd (omega arith)
stacked_head entry (suc k) p = let d : suc k - 1 ≡ k = omega arith in rw d

-- ---- the lists of the rows, and their counts

pub free_length : (rows : List ℕ) (cap : ℕ) → length (free_of rows cap) ≡ free_count rows cap
free_length rows cap = stacked_length (frees rows) (free_count rows cap)

pub ring_length : (rows : List ℕ) (cap : ℕ) → length (ring_of rows cap) ≡ ring_count rows cap
ring_length rows cap = queued_length cap (rings rows) (ring_front rows cap) (ring_count rows cap)
