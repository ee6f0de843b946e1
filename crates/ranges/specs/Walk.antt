-- The walk of a range along the lowest level: the nodes that it may rest on, those that it needs, and those that are handed out.
-- Assumes nothing.
use Rattle.std.specs.Prelude.{◌≡◌, Bool, true, cond, ◌&&◌, List, map, ℕ, ◌+◌, ◌≤◌, length, get_or, take, drop, ltb, leb, eqb, ℤ, pos}
use Rattle.lists.specs.Filters.{filter, head_or, empty}
use Rattle.lists.specs.Buffers.{written}
use Rattle.sizes.specs.Rank.{key_of}
use Rattle.rows.specs.Rows.{insertions, removals, places}
use Rattle.levels.specs.Levels.{onward, order_of}
use Rattle.levels.specs.Nearest.{Walkable}
use Rattle.levels.specs.Search.{up_to, Rising}
use Rattle.tables.specs.declared.Ticket.{Ticket}
use Rattle.ranges.specs.declared.Walked.{Walked}

-- a range of version v may rest on the node: it was inserted before v, and is not removed or was removed at v or later
unfoldable pub may_rest : List ℕ → ℕ → ℕ → Bool
may_rest rows v n = ltb (insertions rows n) v && cond (eqb (places rows n) 1) true (leb v (removals rows n))

-- the version of a range, its upper bound as a rank, and where it rests
pub record Walk : Type 0 where
  pub version : ℕ
  pub high : ℕ
  pub rest : ℕ

abbrev pub walk : ℕ → ℕ → ℕ → Walk
walk v h r = record { version = v; high = h; rest = r }

abbrev pub walk_of : Ticket → Walk
walk_of t = walk t.version.0 t.high t.rest.0

-- the nodes that it may rest on, from where it rests
abbrev pub stops : List ℕ → List ℕ → Walk → List ℕ
stops keys rows w = filter (may_rest rows w.version) (onward rows (length keys) 0 w.rest)

-- those of them that it needs
abbrev pub needed : List ℕ → List ℕ → Walk → List ℕ
needed keys rows w = up_to keys w.high (stops keys rows w)

-- the next of these, as many as there is room for; whether none is left; and where it rests behind them
abbrev pub handed : List ℕ → List ℕ → Walk → ℕ → List ℕ
handed keys rows w room = take room (needed keys rows w)

abbrev pub finished : List ℕ → List ℕ → Walk → ℕ → Bool
finished keys rows w room = empty (drop room (needed keys rows w))

abbrev pub rest_after : List ℕ → List ℕ → Walk → ℕ → ℕ
rest_after keys rows w room = head_or (drop (length (handed keys rows w room)) (stops keys rows w)) (length keys + 1)

-- the keys and the values of nodes
abbrev pub keys_of : List ℕ → List ℕ → List ℤ
keys_of keys ns = map (λ n. key_of (get_or keys n 0)) ns

abbrev pub values_of : List ℤ → List ℕ → List ℤ
values_of values ns = map (λ n. get_or values n (pos 0)) ns

-- what it relies on
pub record WalkReady (keys : List ℕ) (values : List ℤ) (rows : List ℕ) (rest : ℕ) : Type 0 where
  pub valued : length values ≡ length keys
  pub small : length keys ≤ 4096
  pub rising : Rising keys (order_of rows (length keys))
  pub walkable : Walkable rows (length keys) 0 rest

-- the pairs handed out stand at the front of the buffers, which are as they were behind them
pub record WalkedBy (keys : List ℕ) (values : List ℤ) (rows : List ℕ) (w : Walk) (room : ℕ) (ks vs ks' vs' : List ℤ) (r : Walked) : Type 0 where
  pub count : r.count ≡ length (handed keys rows w room)
  pub ended : r.finished ≡ finished keys rows w room
  pub rest : r.rest ≡ rest_after keys rows w room
  pub keys_out : ks' ≡ written ks 0 (keys_of keys (handed keys rows w room))
  pub values_out : vs' ≡ written vs 0 (values_of values (handed keys rows w room))
