-- Tally: its answer from the stored counts, and what it relies on.
-- Assumes nothing.
use Rattle.std.specs.Prelude.{List, ℕ, ◌-◌, ◌≤◌, length}
use Rattle.places.specs.Places.{Sized, present_count, ring_count, free_of}
use Rattle.model.specs.declared.Tallied.{Tallied}
use Rattle.tables.specs.Tables.{Tables, capacity_of}

-- the present nodes, the retired ones that are not due, and the free ones
abbrev pub tallied : List ℕ → ℕ → ℕ → Tallied
tallied rows cap due =
    record { present = present_count rows cap; held = ring_count rows cap - due; free = length (free_of rows cap) }

-- the nodes due are retired
pub record TallyReady (rows : List ℕ) (cap due : ℕ) : Type 0 where
  pub sized : Sized rows cap
  pub retired : due ≤ ring_count rows cap

abbrev pub tally_answer : Tables → Tallied
tally_answer t = tallied t.rows (capacity_of t) t.coordinator.due
