-- The cases of a fast range, as the code comes to them.
-- Assumes nothing.
use Rattle.std.specs.Prelude.{Result, Ok, Err}
use Rattle.model.specs.declared.Refusal.{Refusal}
use Rattle.model.specs.declared.Refusal.TheVariants.{BoundsReversed, TooManyPairs, TooFewPlaces}
use mathlib.Core.Path.{◌≡◌, sym, ap, ◌∙◌}
use mathlib.Core.Bool.{true, false, true≢false}
use mathlib.Core.List.{List, [], ◌∷◌}
use Prim.Native.Nat.{ℕ, zero, suc, ◌≤◌, ◌<◌, ◌+◌}
use native.Mathlib.Omega.{arith}
use lib.ListN.{length, take, drop, length-map}
use lib.Seq.{take_all, take_at}
use lib.IntN.{ℤ}
use lib.Signed.{lt_z}
use borrow.Author.Tests.{lt-ltb, le-ltb}
use Rattle.lists.specs.Filters.{empty}
use Rattle.lists.specs.Buffers.{written}
use Rattle.lists.proofs.Writing.{written_none}
use Rattle.finds.specs.Near.{near_of}
use Rattle.finds.proofs.Walking.{near_walkable}
use Rattle.sizes.specs.Rank.{rank_of}
use Rattle.ranges.specs.declared.Walked.{Walked}
use Rattle.ranges.specs.Walk.{Walk, walk, needed, handed, keys_of, values_of, WalkReady, WalkedBy}
use Rattle.ranges.specs.Step.{room_of}
use Rattle.ranges.specs.Fast.{fast_answer, given, FastReady, RangedBy}
use Rattle.ranges.proofs.Walking.{written_front}

-- LAW: what the walk of a fast range relies on
pub fast_walk : (keys : List ℕ) (values : List ℤ) (rows buckets : List ℕ) → FastReady keys values rows buckets → (rank : ℕ) → WalkReady keys values rows (near_of keys rows (length keys) rank 0 true)
fast_walk keys values rows buckets s rank =
    record {
      valued = s.valued;
      small = s.near.small;
      rising = s.near.searchable.rising;
      walkable = near_walkable keys rows buckets s.near 0 (omega arith) rank true;
    }

-- what is laid at the front of a buffer is its front
take_written : (out xs : List ℤ) (n : ℕ) → length xs ≡ n → take n (written out 0 xs) ≡ xs
take_written out xs n e = ap (take n) (written_front out xs) ∙ take_at xs (drop (length xs) out) n e

none_left : (k : ℕ) (xs : List ℕ) → empty (drop k xs) ≡ true → length xs ≤ k
none_left zero [] e = omega arith
none_left (suc k) [] e = omega arith
none_left zero (x ∷ xs) e = absurd (true≢false (sym e))
none_left (suc k) (x ∷ xs) e = omega (arith, none_left k xs e)

some_left : (k : ℕ) (xs : List ℕ) → empty (drop k xs) ≡ false → k < length xs
some_left zero [] e = absurd (true≢false e)
some_left (suc k) [] e = absurd (true≢false e)
some_left zero (x ∷ xs) e = omega arith
some_left (suc k) (x ∷ xs) e = omega (arith, some_left k xs e)

module _ (keys : List ℕ) (values : List ℤ) (rows : List ℕ) (counter : ℕ) (low high : ℤ) (ks vs : List ℤ) where
  abbrev w : Walk
  w = walk (counter + 1) (rank_of high) (near_of keys rows (length keys) (rank_of low) 0 true)

  abbrev nodes : List ℕ
  nodes = needed keys rows w

  abbrev room : ℕ
  room = room_of ks vs

  ranged : {ks' vs' : List ℤ} (r : Result ℕ Refusal) → fast_answer nodes low high room ≡ r → ks' ≡ written ks 0 (keys_of keys (given r nodes)) → vs' ≡ written vs 0 (values_of values (given r nodes))
      → RangedBy keys values rows counter low high ks vs ks' vs' r
  ranged r e a b = record { answer = sym e; keys_out = rw e a; values_out = rw e b }

  refused : (n : Refusal) → fast_answer nodes low high room ≡ Err n → RangedBy keys values rows counter low high ks vs ks vs (Err n)
  refused n e = ranged (Err n) e (sym (written_none ks 0)) (sym (written_none vs 0))

  pub fast_crossed : lt_z high low ≡ true → RangedBy keys values rows counter low high ks vs ks vs (Err BoundsReversed)
  unfolding fast_answer
  fast_crossed e = refused BoundsReversed (rw e)

  module _ (e : lt_z high low ≡ false) (ks₀ vs₀ ks₁ vs₁ : List ℤ) (r : Walked) (h : WalkedBy keys values rows w 64 ks₀ vs₀ ks₁ vs₁ r) where
    pub fast_many : r.finished ≡ false → RangedBy keys values rows counter low high ks vs ks vs (Err TooManyPairs)
    unfolding fast_answer
    fast_many f = refused TooManyPairs (rw (e, lt-ltb 64 (length nodes) (some_left 64 nodes (sym h.ended ∙ f))))

    module _ (f : r.finished ≡ true) where
      few : length nodes ≤ 64
      few = none_left 64 nodes (sym h.ended ∙ f)

      all : handed keys rows w 64 ≡ nodes
      all = take_all 64 nodes few

      count : r.count ≡ length nodes
      count = h.count ∙ ap length all

      pub fast_full : room < r.count → RangedBy keys values rows counter low high ks vs ks vs (Err TooFewPlaces)
      unfolding fast_answer
      fast_full l = refused TooFewPlaces (rw (e, le-ltb 64 (length nodes) few, lt-ltb room (length nodes) (omega (arith, count))))

      pub fast_given_lem : (ks' vs' : List ℤ) → r.count ≤ room → ks' ≡ written ks 0 (take r.count ks₁) → vs' ≡ written vs 0 (take r.count vs₁)
          → RangedBy keys values rows counter low high ks vs ks' vs' (Ok r.count)
      unfolding fast_answer
      fast_given_lem ks' vs' l a b =
          rw count
          (ranged (Ok (length nodes)) (rw (e, le-ltb 64 (length nodes) few, le-ltb room (length nodes) (omega (arith, count))))
          (a ∙ ap (written ks 0) (rw (h.keys_out, all) (take_written ks₀ (keys_of keys nodes) r.count (length-map nodes _ ∙ sym count))))
          (b ∙ ap (written vs 0) (rw (h.values_out, all) (take_written vs₀ (values_of values nodes) r.count (length-map nodes _ ∙ sym count)))))
