-- What the cells of a sweep mean: the model's answer, the model's next state, and sound tables.
-- Assumes nothing.
use mathlib.Core.Path.{◌≡◌, refl, ap, ◌∙◌}
use mathlib.Core.Logic.{◌≢◌}
use mathlib.Core.List.{List, ◌∷◌, map}
use Prim.Native.Nat.{ℕ, zero, suc, ◌≤◌, ◌<◌, ◌+◌, ◌*◌}
use native.Mathlib.Omega.{arith}
use lib.ListN.{length}
use Rattle.lists.specs.Members.{In}
use Rattle.lists.proofs.Holding.{all_every}
use Rattle.lists.proofs.Splits.{split_in}
use Rattle.rows.specs.Rows.{column, heights, places, links}
use Rattle.levels.specs.Levels.{order_of}
use Rattle.levels.proofs.Orders.{order_kept, linked_kept}
use Rattle.places.specs.Places.{Sized, ring_of, first_retired}
use Rattle.places.specs.Changes.{taken}
use Rattle.places.proofs.Retiring.{taken_length, taken_others, taken_places, taken_free, taken_ring, taken_node, taken_out, taken_kept}
use Rattle.places.proofs.Counting.{taken_counted}
use Rattle.buckets.specs.Buckets.{Buckets}
use Rattle.buckets.proofs.Keeping.{buckets_kept}
use Rattle.std.specs.Prelude.{Ok}
use Rattle.model.specs.Model as M
use Rattle.model.specs.Calls.{sweep, swept}
use Rattle.model.specs.Answers.{of_swept}
use Rattle.tables.specs.Tables.{Tables, capacity_of, levels_of, Memory, Sound, Met, view, nodes_of}
use Rattle.tables.proofs.Viewing.{nodes_same}
use Rattle.tables.proofs.Telling.{sound_sized, sound_covered, sound_whole}
use Rattle.tables.proofs.Meeting.{met}
use Rattle.returns.specs.Sweep.{SweepReady, sweeping, swept_tables}
use Rattle.returns.proofs.Freeing.{freeable, freed_size, freed_memory, freed_buckets, freed_free, freed_ring, freed_nodes}

sweep_none : (s : M.State) → s.due ≡ 0 → M.apply s sweep ≡ (s, swept 0 0)
unfolding M.apply M.sweeping
sweep_none s e = rw e

sweep_one_lem : (s : M.State) (d i : ℕ) (q : List ℕ) → s.due ≡ suc d → s.queue ≡ i ∷ q → M.apply s sweep ≡ M.freeing s d i q
unfolding M.apply M.sweeping
sweep_one_lem s d i q e f = rw (e, f)

module _ (t : Tables) (S : Sound t) where
  abbrev cap : ℕ
  cap = capacity_of t

  abbrev rows : List ℕ
  rows = t.rows

  abbrev n : ℕ
  n = first_retired rows cap

  any : 0 < t.coordinator.due → 0 < length (ring_of rows cap)
  any h = omega (arith, sound_whole t S)

  -- the rows after the front of the ring is taken, where there is one
  module _ (some : 0 < length (ring_of rows cap)) where
    same : (f : ℕ) → f < 32 → f ≢ 7 → column (taken rows cap) f ≡ column rows f
    same = taken_others rows cap

    linked : (l d : ℕ) → l < 12 → d ≤ 1 → links (taken rows cap) l d ≡ links rows l d
    linked l d a b = same (8 + l * 2 + d) (omega arith) (omega arith)

    ordered : order_of (taken rows cap) cap ≡ order_of rows cap
    ordered = order_kept rows (taken rows cap) cap linked

    sized : Sized (taken rows cap) cap
    sized = record { size = taken_length rows cap ∙ S.lengths.rows; small = (sound_sized t S).small }

    memory : Memory (taken rows cap) cap
    memory =
        record {
          linked =
              linked_kept rows (taken rows cap) cap linked (levels_of cap)
              (all_every (λ x. heights (taken rows cap) x ≡ heights rows x) (λ x. ap (λ g. g x) (same 0 (omega arith) (omega arith))) (order_of rows cap)) S.memory.linked;
          used = rw (ordered, taken_places rows cap) S.memory.used;
          seated = taken_kept rows cap (sound_sized t S) S.memory.seated some;
          counted = taken_counted rows cap S.memory.counted;
        }

    here : In n (order_of (taken rows cap) cap)
    here =
        let w = taken_node rows cap (sound_sized t S) S.memory.seated some in
        rw ordered (split_in n (order_of rows cap) (sound_covered t S n w.0 (omega (arith, w.1))))

    hidden : places (taken rows cap) n ≢ 1
    hidden e = let w = taken_node rows cap (sound_sized t S) S.memory.seated some in let z : places rows n ≡ 1 = rw (taken_places rows cap) at e in omega (arith, w.1)

    nodes : nodes_of t.keys t.values (taken rows cap) ≡ nodes_of t.keys t.values rows
    nodes =
        rw ordered
        (ap (λ g. map g (order_of rows cap))
        (nodes_same t.keys t.values rows (taken rows cap) (same 0 (omega arith) (omega arith)) (same 1 (omega arith) (omega arith)) (same 2 (omega arith) (omega arith)) (taken_places rows cap)))

    hashed : Buckets t.keys (taken rows cap) t.buckets cap
    hashed = buckets_kept t.keys rows t.buckets cap S.hashed (taken rows cap) (omega (arith, taken_length rows cap, S.lengths.rows)) (same 5 (omega arith) (omega arith)) (taken_places rows cap)

  -- LAW: what sweep_one relies on
  pub sweep_ready : SweepReady rows cap t.coordinator.due
  sweep_ready =
      record {
        sized = sound_sized t S;
        front = S.memory.seated.front;
        some = any;
        freeable = λ h. freeable (taken rows cap) cap n (sized (any h)) S.lengths.known (memory (any h)) (here (any h));
      }

  -- LAW: sweep meets the model
  pub sweep_meets : Met t (swept_tables t.coordinator.due t) sweep (of_swept (Ok (sweeping t.coordinator.due)))
  unfolding view
  sweep_meets = go t.coordinator.due refl
    where
      go : (d : ℕ) → t.coordinator.due ≡ d → Met t (swept_tables d t) sweep (of_swept (Ok (sweeping d)))
      go zero e = met t (swept_tables 0 t) sweep (swept 0 0) S (record { known = S.lengths.known; values = S.lengths.values; rows = S.lengths.rows; buckets = S.lengths.buckets; tickets = S.lengths.tickets })
          S.memory S.hashed S.few S.resting (sweep_none (view t) e ∙ rw e)
      go (suc d) e =
          let some = any (omega arith) in
          let z = sized some in
          let m = memory some in
          let i = here some in
          met t (swept_tables (suc d) t) sweep (swept 1 d) S
          (record {
            known = S.lengths.known;
            values = S.lengths.values;
            rows = freed_size (taken rows cap) cap n z S.lengths.known m i;
            buckets = S.lengths.buckets;
            tickets = S.lengths.tickets;
          })
          (freed_memory (taken rows cap) cap n z S.lengths.known m i (hidden some) (taken_out rows cap (sound_sized t S) S.memory.seated some))
          (freed_buckets (taken rows cap) cap n z S.lengths.known m i (hidden some) t.keys t.buckets (hashed some))
          S.few S.resting
          (sweep_one_lem (view t) d n (ring_of (taken rows cap) cap) e (taken_ring rows cap (sound_sized t S) S.memory.seated some)
          ∙ rw (
            freed_nodes t.keys t.values (taken rows cap) cap n refl z S.lengths.known m i,
            freed_free (taken rows cap) cap n z S.lengths.known m i,
            freed_ring (taken rows cap) cap n z S.lengths.known m i,
            nodes some,
            taken_free rows cap,
          ))
