-- Insert: what its code relies on, its answer, and the tables afterwards.
-- Assumes nothing.
use Rattle.std.specs.Prelude.{Result, Ok, Err, Some, None, Option}
use Rattle.sizes.specs.declared.Node.{Node}
use Rattle.model.specs.declared.Refusal.{Refusal}
use Rattle.model.specs.declared.Refusal.TheVariants.{KeyPresent, NoFreeNode}
use Rattle.std.specs.Prelude.{◌≡◌, List, [], ◌∷◌, ℕ, ◌+◌, ◌*◌, ◌<◌, ◌≤◌, length, set, ℤ}
use Rattle.lists.specs.Holds.{All}
use Rattle.sizes.specs.Rank.{rank_of}
use Rattle.rows.specs.Rows.{put, places}
use Rattle.levels.specs.declared.Pair.{Pair}
use Rattle.levels.specs.Levels.{order_of}
use Rattle.levels.specs.Stitch.{stitched}
use Rattle.levels.specs.Search.{searched, Rising, Searchable}
use Rattle.buckets.specs.Buckets.{Buckets}
use Rattle.buckets.specs.Finding.{found}
use Rattle.buckets.specs.Changes.{rows_with, buckets_with}
use Rattle.places.specs.Places.{Places, Counted, free_of, first_free}
use Rattle.places.specs.Changes.{drawn, made_present}
use Rattle.model.specs.Model.{height_of}
use Rattle.tables.specs.Tables.{Tables, node, levels_of, Used, Memory}

-- ---- what the code relies on

pub record InsertReady (keys : List ℕ) (values : List ℤ) (rows buckets : List ℕ) : Type 0 where
  pub known : 0 < levels_of (length keys)
  pub valued : length values ≡ length keys
  pub size : length rows ≡ (length keys + 2) * 32
  pub memory : Memory rows (length keys)
  pub hashed : Buckets keys rows buckets (length keys)
  pub rising : Rising keys (order_of rows (length keys))

-- a node of this height may be linked in
pub record Linkable (keys rows buckets : List ℕ) (cap levels height : ℕ) : Type 0 where
  pub small : cap ≤ 4096
  pub searchable : Searchable keys rows cap levels
  pub seated : Places rows cap
  pub used : All (λ n. Used (places rows n)) (order_of rows cap)
  pub counted : Counted rows cap
  pub bucketed : 0 < length buckets
  pub spare : 0 < length (free_of rows cap)
  pub low : 0 < height
  pub high : height ≤ levels

-- ---- the answer

-- 3 where the key is present, then 5 where no node is free, else the node freed last
abbrev pub insert_case : Option ℕ → List ℕ → Result Node Refusal
insert_case (Some m) free = Err KeyPresent
insert_case None [] = Err NoFreeNode
insert_case None (n ∷ free) = Ok (node n)

unfoldable pub insert_answer : List ℕ → List ℕ → List ℕ → ℤ → Result Node Refusal
insert_answer keys rows buckets key = insert_case (found keys rows buckets (length keys) (rank_of key)) (free_of rows (length keys))

-- ---- the cells

-- the height and the insertion version of n are stored, and n is linked in between its pairs
unfoldable pub stitched_in : List ℕ → ℕ → ℕ → ℕ → List Pair → List ℕ
stitched_in rows n height counter pairs = stitched (put (put rows n 0 height) n 1 counter) n pairs height

-- the node freed last is taken, goes after every node with a key up to the rank, joins its bucket and is present
unfoldable pub linked_in : List ℕ → List ℕ → List ℕ → ℕ → ℕ → ℕ → ℕ → ℕ → List ℕ
linked_in keys rows buckets cap levels rank height counter =
    let n : ℕ = first_free rows cap in
    made_present (rows_with (stitched_in (drawn rows cap) n height counter (searched keys rows cap levels rank).pairs) buckets rank n) cap n

-- what linking in does: the node, and the two parts at exit
pub record LinksIn (keys rows buckets rows' buckets' : List ℕ) (cap levels rank height counter n : ℕ) : Type 0 where
  pub node_is : n ≡ first_free rows cap
  pub to_rows : rows' ≡ linked_in keys rows buckets cap levels rank height counter
  pub to_buckets : buckets' ≡ buckets_with buckets rank (first_free rows cap)

-- each part after the answer
abbrev pub insert_keys : Result Node Refusal → List ℕ → ℤ → List ℕ
insert_keys (Ok i) keys key = set keys i.0 (rank_of key)
insert_keys (Err k) keys key = keys

abbrev pub insert_values : Result Node Refusal → List ℤ → ℤ → List ℤ
insert_values (Ok i) values value = set values i.0 value
insert_values (Err k) values value = values

abbrev pub insert_rows : Result Node Refusal → List ℕ → List ℕ → List ℕ → ℕ → ℤ → ℕ → List ℕ
insert_rows (Ok i) keys rows buckets counter key coin =
    let levels : ℕ = levels_of (length keys) in
    linked_in keys rows buckets (length keys) levels (rank_of key) (height_of levels coin) counter
insert_rows (Err k) keys rows buckets counter key coin = rows

abbrev pub insert_buckets : Result Node Refusal → List ℕ → ℤ → List ℕ
insert_buckets (Ok i) buckets key = buckets_with buckets (rank_of key) i.0
insert_buckets (Err k) buckets key = buckets

-- what the code does: its answer, and each part at exit
pub record Inserts (keys : List ℕ) (values : List ℤ) (rows buckets keys' : List ℕ) (values' : List ℤ) (rows' buckets' : List ℕ) (counter : ℕ) (key value : ℤ) (coin : ℕ) (r : Result Node Refusal) : Type 0 where
  pub answer : r ≡ insert_answer keys rows buckets key
  pub to_keys : keys' ≡ insert_keys r keys key
  pub to_values : values' ≡ insert_values r values value
  pub to_rows : rows' ≡ insert_rows r keys rows buckets counter key coin
  pub to_buckets : buckets' ≡ insert_buckets r buckets key

-- ---- the tables afterwards

-- the tables with the four parts that insert is lent
abbrev pub tables_with : Tables → List ℕ → List ℤ → List ℕ → List ℕ → Tables
tables_with t keys values rows buckets =
    record { keys = keys; values = values; rows = rows; buckets = buckets; tickets = t.tickets; coordinator = t.coordinator }

abbrev pub insert_to : Tables → ℤ → ℤ → ℕ → Result Node Refusal → Tables
insert_to t key value coin r =
    tables_with t (insert_keys r t.keys key) (insert_values r t.values value)
    (insert_rows r t.keys t.rows t.buckets t.coordinator.counter.0 key coin)
    (insert_buckets r t.buckets key)

abbrev pub insert_tables : Tables → ℤ → ℤ → ℕ → Tables
insert_tables t key value coin = insert_to t key value coin (insert_answer t.keys t.rows t.buckets key)
