-- Lookup meets the model.
-- Assumes nothing.
use Rattle.std.specs.Prelude.{Ok, Err, Some, None, Option as Optional}
use Rattle.model.specs.declared.Refusal.TheVariants.{KeyAbsent}
use mathlib.Core.Path.{◌≡◌, refl, sym, ap, ◌∙◌}
use mathlib.Core.List.{List}
use mathlib.Core.Option.{Option}
use Prim.Native.Nat.{ℕ, ◌<◌}
use native.Mathlib.Omega.{arith}
use lib.ListN.{length, get_or}
use lib.IntN.{ℤ, pos}
use mir.Syntax.{w64}
use mir.Val.{SFits}
use Rattle.sizes.specs.Rank.{rank_of}
use Rattle.buckets.specs.Finding.{found}
use Rattle.buckets.proofs.Finding.{finds}
use Rattle.model.specs.Plain.{Pair, get}
use Rattle.model.specs.Model as M
use Rattle.model.specs.Calls.{lookup}
use Rattle.model.specs.Answers.{of_found}
use Rattle.tables.specs.Tables.{Tables, capacity_of, Sound, Met, view, node_at}
use Rattle.tables.proofs.Telling.{sound_capacity}
use Rattle.tables.proofs.Finding.{found_get, lost_get}
use Rattle.tables.proofs.Meeting.{met_same}
use Rattle.finds.specs.Lookup.{value_of, LookupReady, lookup_answer}

-- ---- as the code comes to its answer

module _ (keys : List ℕ) (values : List ℤ) (rows buckets : List ℕ) {rank r : ℕ} (k : r ≡ rank) {f : Optional ℕ} (e : f ≡ found keys rows buckets (length keys) r) where
  pub value_known : LookupReady keys values rows buckets → {n i : ℕ} → f ≡ Some n → i ≡ n → i < length values
  value_known s {n} {i} q w = let h = finds keys rows buckets (length keys) s.hashed r (sym q ∙ e) in omega (arith, h.node, s.valued)

  pub value_found : {n i : ℕ} {v : ℤ} → f ≡ Some n → i ≡ n → v ≡ get_or values i (pos 0) → Ok v ≡ value_of values (found keys rows buckets (length keys) rank)
  value_found {n} {i} {v} q w u =
      ap Ok (u ∙ ap (λ j. get_or values j (pos 0)) w) ∙ ap (value_of values) (sym q ∙ (e ∙ ap (found keys rows buckets (length keys)) k))

  pub value_lost : f ≡ None → Err KeyAbsent ≡ value_of values (found keys rows buckets (length keys) rank)
  value_lost q = ap (value_of values) (sym q ∙ (e ∙ ap (found keys rows buckets (length keys)) k))

-- ---- the call

lookup_finds : (s : M.State) (k : ℤ) (o : Option Pair) → get k (M.plain s) ≡ o → M.apply s (lookup k) ≡ (s, M.found_in o)
unfolding M.apply
lookup_finds s k o e = rw e

module _ (t : Tables) (S : Sound t) where
  -- LAW: what lookup relies on
  pub lookup_ready : LookupReady t.keys t.values t.rows t.buckets
  lookup_ready = record { small = (sound_capacity t S).most; valued = S.lengths.values; hashed = S.hashed }

  -- LAW: lookup meets the model
  pub lookup_meets : (k : ℤ) → SFits w64 k → Met t t (lookup k) (of_found (lookup_answer t k))
  unfolding node_at
  lookup_meets k f = go (found t.keys t.rows t.buckets (capacity_of t) (rank_of k)) refl
    where
      go : (r : Optional ℕ) → found t.keys t.rows t.buckets (capacity_of t) (rank_of k) ≡ r → Met t t (lookup k) (of_found (value_of t.values r))
      go (Some n) e = met_same t (lookup k) _ S (lookup_finds (view t) k _ (found_get t S k f n e))
      go None e = met_same t (lookup k) _ S (lookup_finds (view t) k _ (lost_get t S k f e))
