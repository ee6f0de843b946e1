-- A call that meets the model leaves sound tables: what it still has to show.
-- Assumes nothing.
use mathlib.Core.Path.{◌≡◌, subst}
use Prim.Native.Nat.{◌≤◌}
use lib.ListN.{take}
use Rattle.lists.specs.Holds.{All}
use Rattle.buckets.specs.Buckets.{Buckets}
use Rattle.model.specs.Model as M
use Rattle.model.specs.Calls.{Call, Answer}
use Rattle.model.specs.WellFormed.{WellFormed}
use Rattle.model.proofs.Reached.{well_apply}
use Rattle.tables.specs.Tables.{Tables, capacity_of, Lengths, Memory, Resting, Sound, Met, view}

-- LAW: tables whose view is the model's next state are sound, if their cells are
pub met : (t t' : Tables) (c : Call) (a : Answer) → Sound t → Lengths t' → Memory t'.rows (capacity_of t') → Buckets t'.keys t'.rows t'.buckets (capacity_of t')
    → t'.coordinator.ranges ≤ 16 → All (Resting (capacity_of t')) (take t'.coordinator.ranges t'.tickets) → M.apply (view t) c ≡ (view t', a) → Met t t' c a
met t t' c a S l m h f r e =
    record {
      sound = record { lengths = l; memory = m; hashed = h; few = f; resting = r; well = subst (λ (y : M.Outcome). WellFormed y.0) e (well_apply (view t) S.well c) };
      model = e;
    }

-- LAW: a call that changes nothing
pub met_same : (t : Tables) (c : Call) (a : Answer) → Sound t → M.apply (view t) c ≡ (view t, a) → Met t t c a
met_same t c a S e = record { sound = S; model = e }
