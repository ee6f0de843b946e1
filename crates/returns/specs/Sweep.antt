-- Sweep: its answer, and what it does to the cells and the coordinator.
-- Assumes nothing.
use Rattle.std.specs.Prelude.{◌≡◌, List, ℕ, zero, suc, ◌<◌, length}
use Rattle.places.specs.Places.{Sized, ring_of, ring_front, first_retired}
use Rattle.places.specs.Changes.{taken}
use Rattle.model.specs.declared.Swept.{Swept}
use Rattle.tables.specs.declared.Coordinator.{Coordinator}
use Rattle.tables.specs.Tables.{Tables, capacity_of}
use Rattle.returns.specs.Freeing.{Freeable, freed}

-- how many were freed, and how many stay due
abbrev pub sweeping : ℕ → Swept
sweeping zero = record { freed = 0; due = 0 }
sweeping (suc due) = record { freed = 1; due = due }

-- the first due node is taken off the ring and freed
abbrev pub swept_rows : ℕ → List ℕ → ℕ → List ℕ
swept_rows zero rows cap = rows
swept_rows (suc due) rows cap = freed (taken rows cap) cap (first_retired rows cap)

abbrev pub swept_due : ℕ → ℕ
swept_due zero = 0
swept_due (suc due) = due

abbrev pub with_due : Coordinator → ℕ → Coordinator
with_due c due = record { counter = c.counter; ranges = c.ranges; due = due }

-- what it relies on, where a node is due
pub record SweepReady (rows : List ℕ) (cap due : ℕ) : Type 0 where
  pub sized : Sized rows cap
  pub front : ring_front rows cap < cap
  pub some : 0 < due → 0 < length (ring_of rows cap)
  pub freeable : 0 < due → Freeable (taken rows cap) cap (first_retired rows cap)

pub record SweptBy (rows rows' : List ℕ) (cap : ℕ) (c c' : Coordinator) (a : Swept) : Type 0 where
  pub answer : a ≡ sweeping c.due
  pub cells : rows' ≡ swept_rows c.due rows cap
  pub coordinator : c' ≡ with_due c (swept_due c.due)

-- the tables afterwards
abbrev pub swept_tables : ℕ → Tables → Tables
swept_tables due t =
    record {
      keys = t.keys;
      values = t.values;
      rows = swept_rows due t.rows (capacity_of t);
      buckets = t.buckets;
      tickets = t.tickets;
      coordinator = with_due t.coordinator (swept_due due);
    }
