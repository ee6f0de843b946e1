-- What a fast range hands out means: the model's answer, and tables that stay as they were.
-- Assumes nothing.
use Rattle.std.specs.Prelude.{Result, Ok, Err}
use Rattle.model.specs.declared.Refusal.{Refusal}
use Rattle.model.specs.declared.Refusal.TheVariants.{BoundsReversed, TooManyPairs, TooFewPlaces}
use mathlib.Core.Path.{◌≡◌, refl, sym, ap, ◌∙◌}
use mathlib.Core.Bool.{Bool, true, false}
use mathlib.Core.List.{List, map}
use Prim.Native.Nat.{ℕ}
use lib.ListN.{length, get_or, length-map}
use lib.Dec.{ltb}
use lib.IntN.{ℤ, pos}
use lib.Signed.{lt_z}
use mir.Syntax.{w64}
use mir.Val.{SFits}
use Rattle.lists.specs.Buffers.{written}
use Rattle.sizes.specs.Rank.{key_of}
use Rattle.model.specs.Model as M
use Rattle.model.specs.Plain.{between}
use Rattle.model.specs.Calls.{fast, refused}
use Rattle.model.specs.Answers.{of_ranged}
use Rattle.model.proofs.Stops.{snapshot}
use Rattle.model.proofs.PlainMap.{refuses}
use Rattle.model.proofs.Applied.{fast_gives}
use Rattle.tables.specs.Tables.{Tables, Sound, Met, view, nodes_of}
use Rattle.tables.proofs.Meeting.{met_same}
use Rattle.finds.proofs.NearLaw.{near_ready}
use Rattle.ranges.specs.Walk.{keys_of, values_of}
use Rattle.ranges.specs.Step.{room_of}
use Rattle.ranges.specs.Fast.{fast_nodes, fast_answer, given, FastReady, fast_of, RangedBy}
use Rattle.ranges.proofs.WalkLaw.{paired_written, pair_at, pairs_stops, left_walk}
use Rattle.ranges.proofs.OpenLaw.{fresh, new_range_lem, new_resting, new_rested}

-- LAW: what fast_range relies on
pub fast_ready : (t : Tables) → Sound t → FastReady t.keys t.values t.rows t.buckets
fast_ready t S = record { near = near_ready t S; valued = S.lengths.values }

module _ (t : Tables) (S : Sound t) (low high : ℤ) (fl : SFits w64 low) (fh : SFits w64 high) (ks vs : List ℤ) where
  abbrev nodes : List ℕ
  nodes = fast_nodes t.keys t.rows t.coordinator.counter.0 low high

  abbrev room : ℕ
  room = room_of ks vs

  -- LAW: they are the pairs of the plain map within the bounds
  pub fast_plain : between low high (M.plain (view t)) ≡ map (pair_at t.keys t.values t.rows) nodes
  unfolding view
  fast_plain =
      sym (snapshot t.coordinator.counter.0 low high (nodes_of t.keys t.values t.rows) S.well.sorted S.well.apart S.well.dated)
      ∙ (ap (λ r. M.pairs_of (M.left r (nodes_of t.keys t.values t.rows))) (sym (new_range_lem t S low high fl fh))
      ∙ (ap M.pairs_of (left_walk t S (fresh t S low high fl fh) (new_resting t S low high fl fh) (new_rested t S low high fl fh)) ∙ pairs_stops t.keys t.values t.rows nodes))

  counted : length (between low high (M.plain (view t))) ≡ length nodes
  counted = ap length fast_plain ∙ length-map nodes (pair_at t.keys t.values t.rows)

  abbrev Goal : Result ℕ Refusal → Type 0
  Goal r = Met t t (fast low high room) (of_ranged (written ks 0 (keys_of t.keys (given r nodes))) (written vs 0 (values_of t.values (given r nodes))) r)

  crossed : lt_z high low ≡ true → Goal (Err BoundsReversed)
  crossed e = met_same t (fast low high room) (refused 6) S (refuses (view t) (fast low high room) 6 (rw e))

  module _ (e : lt_z high low ≡ false) where
    many : ltb M.fast_limit (length nodes) ≡ true → Goal (Err TooManyPairs)
    many f = met_same t (fast low high room) (refused 7) S (refuses (view t) (fast low high room) 7 (rw (e, counted, f)))

    module _ (f : ltb M.fast_limit (length nodes) ≡ false) where
      full : ltb room (length nodes) ≡ true → Goal (Err TooFewPlaces)
      full h = met_same t (fast low high room) (refused 8) S (refuses (view t) (fast low high room) 8 (rw (e, counted, f, h)))

      gives : ltb room (length nodes) ≡ false → Goal (Ok (length nodes))
      gives h =
          met_same t (fast low high room) _ S
          (fast_gives (view t) low high room e (rw counted f) (rw counted h)
          ∙ rw (counted, fast_plain, paired_written (λ n. key_of (get_or t.keys n 0)) (λ n. get_or t.values n (pos 0)) nodes ks vs))

  -- LAW: fast range meets the model
  pub fast_meets : Goal (fast_of t.keys t.rows t.coordinator.counter.0 low high room)
  unfolding fast_answer
  fast_meets = go (lt_z high low) (ltb M.fast_limit (length nodes)) (ltb room (length nodes)) refl refl refl
    where
      go : (a b c : Bool) → lt_z high low ≡ a → ltb M.fast_limit (length nodes) ≡ b → ltb room (length nodes) ≡ c
          → Goal (fast_of t.keys t.rows t.coordinator.counter.0 low high room)
      go true b c e f h = rw e (crossed e)
      go false true c e f h = rw (e, f) (many e f)
      go false false true e f h = rw (e, f, h) (full e f h)
      go false false false e f h = rw (e, f, h) (gives e f h)

  -- LAW: so does whatever fast_range comes to
  pub fast_outcome : (ks' vs' : List ℤ) (r : Result ℕ Refusal) → RangedBy t.keys t.values t.rows t.coordinator.counter.0 low high ks vs ks' vs' r → Met t t (fast low high room) (of_ranged ks' vs' r)
  fast_outcome ks' vs' r h = rw (h.answer, h.keys_out, h.values_out) fast_meets
