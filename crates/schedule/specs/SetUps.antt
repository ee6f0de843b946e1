-- Set-up as the header asks for it: its result, and the parts of the memory that are lent.
-- Assumes nothing.
use Rattle.std.specs.Prelude.{◌≡◌, cond, List, ℕ, ◌+◌, ◌*◌, min, leb, length, take, Option, Some, None, Result, Ok, Err, ⊤}
use Rattle.sizes.specs.declared.Size.{Size}
use Rattle.sizes.specs.declared.Version.{Version}
use Rattle.sizes.specs.Sizes.{size_of}
use Rattle.model.specs.declared.Refusal.{Refusal}
use Rattle.model.specs.Answers.{refusal_number}
use Rattle.tables.specs.declared.Ticket.{Ticket}
use Rattle.tables.specs.declared.Coordinator.{Coordinator}
use Rattle.tables.specs.Tables.{Tables}
use Rattle.soundness.specs.Tested.{lent}
use Rattle.calls.specs.Histories.{Fresh}
use Rattle.schedule.specs.declared.Lengths.{Lengths}
use Rattle.schedule.specs.declared.Memory.{Memory}
use Rattle.schedule.specs.declared.Session.{Session}

-- the result of set-up: 0 for a capacity of the table up to 256, 1 for a larger one in the table, 2 for any other
abbrev pub result_in : Option Size → ℕ
result_in (Some size) = cond (leb size.capacity 256) 0 1
result_in None = 2

-- and that for a capacity
abbrev pub set_up_result : ℕ → ℕ
set_up_result capacity = result_in (size_of capacity)

-- a result as a number: 0, or the refusal
abbrev pub answer_number : Result ⊤ Refusal → ℕ
answer_number (Ok tt) = 0
answer_number (Err refusal) = refusal_number refusal

-- ---- the memory for tables

-- its lengths are those of capacity 256
pub record Whole (m : Memory) : Type 0 where
  pub keyed : length m.keys ≡ 256
  pub valued : length m.values ≡ 256
  pub rowed : length m.rows ≡ 8256
  pub bucketed : length m.buckets ≡ 367

-- the lengths of the parts that are lent for a size
abbrev pub lengths_of : Option Size → Lengths
lengths_of (Some size) =
    record { nodes = min size.capacity 256; rows = min ((size.capacity + 2) * 32) 8256; buckets = min size.buckets 367 }
lengths_of None = record { nodes = 0; rows = 0; buckets = 0 }

-- the tables of these parts
abbrev pub cut : Memory → Lengths → List Ticket → Coordinator → Tables
cut m l tickets coordinator =
    lent (take l.nodes m.keys) (take l.nodes m.values) (take l.rows m.rows) (take l.buckets m.buckets) tickets coordinator

-- ---- set-up on it: the result; where it is 0, fresh tables of this capacity and start version; else nothing changed
pub record PreparedBy (m : Memory) (s : Session) (m' : Memory) (s' : Session) (capacity : ℕ) (start : Version) (res : ℕ) : Type 0 where
  pub result : res ≡ set_up_result capacity
  pub lengths : s'.lengths ≡ lengths_of (size_of capacity)
  pub fresh : res ≡ 0 → Fresh capacity start.0 (cut m' s'.lengths s'.tickets s'.coordinator)
  pub same : (res ≡ 0 → ⊥) → m' ≡ m
  pub window : s'.window ≡ s.window
