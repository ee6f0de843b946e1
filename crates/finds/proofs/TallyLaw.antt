-- Tally meets the model: the stored counts are those of the nodes.
-- Assumes nothing.
use Rattle.std.specs.Prelude.{Ok}
use mathlib.Core.Path.{◌≡◌, refl, sym, ap, ◌∙◌}
use mathlib.Core.List.{List}
use Prim.Native.Nat.{ℕ, ◌+◌, ◌-◌}
use native.Mathlib.Omega.{arith}
use lib.ListN.{length, length-map}
use Rattle.lists.specs.Filters.{filter}
use Rattle.levels.specs.Levels.{order_of}
use Rattle.levels.specs.Nearest.{present}
use Rattle.places.specs.Places.{present_count, ring_count, free_of}
use Rattle.places.proofs.Lists.{ring_length}
use Rattle.places.proofs.Covering.{order_present}
use Rattle.model.specs.Model as M
use Rattle.model.specs.Calls.{tally, counts}
use Rattle.model.specs.Answers.{of_tallied}
use Rattle.tables.specs.Tables.{Tables, capacity_of, Sound, Met, view, node_at}
use Rattle.tables.proofs.Telling.{sound_sized, sound_filled, sound_whole}
use Rattle.tables.proofs.Meeting.{met_same}
use Rattle.finds.specs.Tally.{TallyReady, tally_answer}
use Rattle.finds.proofs.NearLaw.{present_nodes}

tally_counts : (s : M.State) (p h f : ℕ) → length (filter M.is_present s.order) ≡ p → M.held_in s.ranges ≡ h → length s.free ≡ f → M.apply s tally ≡ (s, counts p h f)
unfolding M.apply
tally_counts s p h f a b c = rw (a, b, c)

module _ (t : Tables) (S : Sound t) where
  abbrev cap : ℕ
  cap = capacity_of t

  abbrev o : List ℕ
  o = order_of t.rows cap

  held : t.coordinator.due + M.held_in (view t).ranges ≡ ring_count t.rows cap
  unfolding view
  held = sound_whole t S ∙ ring_length t.rows cap

  -- LAW: what tally relies on
  pub tally_ready : TallyReady t.rows cap t.coordinator.due
  tally_ready = record { sized = sound_sized t S; retired = omega (arith, held) }

  present_all : length (filter M.is_present (view t).order) ≡ present_count t.rows cap
  present_all =
      ap length (present_nodes t S)
      ∙ (length-map (filter (present t.rows) o) (node_at t.keys t.values t.rows)
      ∙ sym (order_present t.rows cap o S.memory.seated (sound_filled t S) S.memory.counted))

  free_all : length (view t).free ≡ length (free_of t.rows cap)
  unfolding view
  free_all = refl

  -- LAW: tally meets the model
  pub tally_meets : Met t t tally (of_tallied (Ok (tally_answer t)))
  tally_meets =
      met_same t tally _ S
      (tally_counts (view t) (present_count t.rows cap) (ring_count t.rows cap - t.coordinator.due) (length (free_of t.rows cap))
      present_all (omega (arith, held)) free_all)
