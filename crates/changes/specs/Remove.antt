-- Remove: what its code relies on, its answer, and the tables afterwards.
-- Assumes nothing.
use Rattle.std.specs.Prelude.{Result, Ok, Err, Some, None, Option}
use Rattle.sizes.specs.declared.Node.{Node}
use Rattle.model.specs.declared.Refusal.{Refusal}
use Rattle.model.specs.declared.Refusal.TheVariants.{KeyAbsent}
use Rattle.std.specs.Prelude.{◌≡◌, List, ℕ, length, ℤ}
use Rattle.sizes.specs.Rank.{rank_of}
use Rattle.rows.specs.Rows.{put}
use Rattle.buckets.specs.Buckets.{Buckets}
use Rattle.buckets.specs.Finding.{found}
use Rattle.buckets.specs.Changes.{rows_without, buckets_without}
use Rattle.places.specs.Places.{Sized, Counted}
use Rattle.places.specs.Changes.{made_pending}
use Rattle.tables.specs.Tables.{Tables, node}
use Rattle.changes.specs.Insert.{tables_with}

-- what the code relies on
pub record RemoveReady (keys rows buckets : List ℕ) : Type 0 where
  pub sized : Sized rows (length keys)
  pub hashed : Buckets keys rows buckets (length keys)
  pub counted : Counted rows (length keys)

-- the present node of the key, or 4 where there is none
abbrev pub remove_case : Option ℕ → Result Node Refusal
remove_case (Some n) = Ok (node n)
remove_case None = Err KeyAbsent

unfoldable pub remove_answer : List ℕ → List ℕ → List ℕ → ℤ → Result Node Refusal
remove_answer keys rows buckets key = remove_case (found keys rows buckets (length keys) (rank_of key))

-- n is out of its bucket, takes the counter as its removal version and is pending
unfoldable pub taken_out : List ℕ → List ℕ → ℕ → ℕ → ℕ → ℕ → List ℕ
taken_out rows buckets cap rank n counter = made_pending (put (rows_without rows buckets cap rank n) n 2 counter) cap n

-- each part after the answer
abbrev pub remove_rows : Result Node Refusal → List ℕ → List ℕ → ℕ → ℕ → ℤ → List ℕ
remove_rows (Ok i) rows buckets cap counter key = taken_out rows buckets cap (rank_of key) i.0 counter
remove_rows (Err k) rows buckets cap counter key = rows

abbrev pub remove_buckets : Result Node Refusal → List ℕ → List ℕ → ℤ → List ℕ
remove_buckets (Ok i) rows buckets key = buckets_without rows buckets (rank_of key) i.0
remove_buckets (Err k) rows buckets key = buckets

-- what the code does: its answer, and each part at exit
pub record Removes (keys rows buckets rows' buckets' : List ℕ) (counter : ℕ) (key : ℤ) (r : Result Node Refusal) : Type 0 where
  pub answer : r ≡ remove_answer keys rows buckets key
  pub to_rows : rows' ≡ remove_rows r rows buckets (length keys) counter key
  pub to_buckets : buckets' ≡ remove_buckets r rows buckets key

-- the tables afterwards
abbrev pub remove_to : Tables → ℤ → Result Node Refusal → Tables
remove_to t key r =
    tables_with t t.keys t.values
    (remove_rows r t.rows t.buckets (length t.keys) t.coordinator.counter.0 key)
    (remove_buckets r t.rows t.buckets key)

abbrev pub remove_tables : Tables → ℤ → Tables
remove_tables t key = remove_to t key (remove_answer t.keys t.rows t.buckets key)
