-- Lookup: its answer, and what it relies on.
-- Assumes nothing.
use Rattle.std.specs.Prelude.{Result, Ok, Err, Some, None, Option}
use Rattle.model.specs.declared.Refusal.{Refusal}
use Rattle.model.specs.declared.Refusal.TheVariants.{KeyAbsent}
use Rattle.std.specs.Prelude.{◌≡◌, List, ℕ, ◌≤◌, length, get_or, ℤ, pos}
use Rattle.sizes.specs.Rank.{rank_of}
use Rattle.buckets.specs.Buckets.{Buckets}
use Rattle.buckets.specs.Finding.{found}
use Rattle.tables.specs.Tables.{Tables, capacity_of}

-- the value of the node that the buckets have, or 4
abbrev pub value_of : List ℤ → Option ℕ → Result ℤ Refusal
value_of values (Some n) = Ok (get_or values n (pos 0))
value_of values None = Err KeyAbsent

-- the buckets, and a value for each node
pub record LookupReady (keys : List ℕ) (values : List ℤ) (rows buckets : List ℕ) : Type 0 where
  pub small : length keys ≤ 4096
  pub valued : length values ≡ length keys
  pub hashed : Buckets keys rows buckets (length keys)

abbrev pub lookup_answer : Tables → ℤ → Result ℤ Refusal
lookup_answer t key = value_of t.values (found t.keys t.rows t.buckets (capacity_of t) (rank_of key))
