-- Ceil, floor, succ and pred meet the model: one law over the direction and whether the key itself counts.
-- Assumes nothing.
use Rattle.std.specs.Prelude.{Ok, Err}
use Rattle.model.specs.declared.Refusal.TheVariants.{NoPresentKey}
use mathlib.Core.Path.{◌≡◌, refl, ap, ◌∙◌}
use mathlib.Core.Bool.{Bool, true, false, cond}
use mathlib.Core.List.{List}
use Prim.Native.Nat.{ℕ, zero, suc, ◌≤◌, ◌<◌}
use lib.ListN.{length, get_or}
use lib.Dec.{ltb}
use lib.IntN.{ℤ}
use mir.Syntax.{w64}
use mir.Val.{SFits}
use borrow.Author.Tests.{lt-ltb, le-ltb}
use Rattle.sizes.specs.Rank.{rank_of, key_of}
use Rattle.model.specs.Model as M
use Rattle.model.specs.Answers.{of_nearest}
use Rattle.tables.specs.Tables.{Tables, capacity_of, Sound, Met, view, node_at}
use Rattle.tables.proofs.Meeting.{met_same}
use Rattle.finds.specs.Near.{near_of}
use Rattle.finds.specs.Nearest.{nearest_call, nearest_pair, nearest_key, nearest_answer, pair_at}
use Rattle.finds.proofs.NearLaw.{near_shown}

-- ---- as the code comes to its answer

module _ (keys rows : List ℕ) (d : ℕ) (at : Bool) {rank r : ℕ} (k : r ≡ rank) {n i : ℕ} (e : n ≡ near_of keys rows (length keys) r d at) (w : i ≡ n) where
  node_is : i ≡ near_of keys rows (length keys) rank d at
  node_is = w ∙ (e ∙ ap (λ x. near_of keys rows (length keys) x d at) k)

  pub key_found : {z : ℤ} → i < length keys → z ≡ key_of (get_or keys i 0) → Ok z ≡ nearest_key keys (near_of keys rows (length keys) rank d at)
  unfolding nearest_key
  key_found l q = ap Ok q ∙ rw (← node_is, lt-ltb i (length keys) l)

  pub key_none : length keys ≤ i → Err NoPresentKey ≡ nearest_key keys (near_of keys rows (length keys) rank d at)
  unfolding nearest_key
  key_none l = rw (← node_is, le-ltb i (length keys) l)

-- ---- the call

nearest_asks : (s : M.State) (d : ℕ) (at : Bool) (k : ℤ) → M.apply s (nearest_call d at k) ≡ (s, M.nearest_in (nearest_pair d at k (M.plain s)))
unfolding M.apply
nearest_asks s zero true k = refl
nearest_asks s zero false k = refl
nearest_asks s (suc d) true k = refl
nearest_asks s (suc d) false k = refl

-- the answer at a node, and at a sentinel
nearest_told : (t : Tables) (n : ℕ) → M.nearest_in (pair_at t n) ≡ of_nearest (nearest_key t.keys n)
unfolding nearest_key node_at
nearest_told t n = go (ltb n (capacity_of t)) refl
  where
    go : (b : Bool) → ltb n (capacity_of t) ≡ b → M.nearest_in (pair_at t n) ≡ of_nearest (cond (ltb n (capacity_of t)) (Ok (key_of (get_or t.keys n 0))) (Err NoPresentKey))
    go true e = rw e
    go false e = rw e

-- LAW: ceil, floor, succ and pred meet the model. What `nearest` relies on is `near_ready`
pub nearest_meets : (t : Tables) → Sound t → (k : ℤ) → SFits w64 k → (d : ℕ) → d ≤ 1 → (at : Bool) → Met t t (nearest_call d at k) (of_nearest (nearest_answer t k d at))
nearest_meets t S k f d u at =
    met_same t (nearest_call d at k) _ S
    (nearest_asks (view t) d at k
    ∙ ap {B = M.Outcome} (λ a. (view t, a)) (ap M.nearest_in (near_shown t S k f d u at) ∙ nearest_told t (near_of t.keys t.rows (capacity_of t) (rank_of k) d at)))
