-- Fast range: its answer, and the pairs that it hands out.
-- Assumes nothing.
use Rattle.model.specs.declared.Refusal.{Refusal}
use Rattle.model.specs.declared.Refusal.TheVariants.{BoundsReversed, TooManyPairs, TooFewPlaces}
use Rattle.std.specs.Prelude.{◌≡◌, cond, List, [], ℕ, ◌+◌, length, ltb, ℤ, Result, Ok, Err}
use Rattle.std.specs.Int.Signed.{lt_z}
use Rattle.lists.specs.Buffers.{written}
use Rattle.model.specs.Model.{fast_limit}
use Rattle.finds.specs.Near.{NearReady}
use Rattle.ranges.specs.Walk.{walk_of, needed, keys_of, values_of}
use Rattle.ranges.specs.Step.{room_of}
use Rattle.ranges.specs.Open.{new_ticket}

-- the nodes that a range opened now would need
abbrev pub fast_nodes : List ℕ → List ℕ → ℕ → ℤ → ℤ → List ℕ
fast_nodes keys rows counter low high = needed keys rows (walk_of (new_ticket keys rows (counter + 1) low high))

-- refused where the bounds cross, where the pairs are more than a fast range hands out, and where they are more than there is room for
unfoldable pub fast_answer : List ℕ → ℤ → ℤ → ℕ → Result ℕ Refusal
fast_answer nodes low high room =
    cond (lt_z high low) (Err BoundsReversed)
    (cond (ltb fast_limit (length nodes)) (Err TooManyPairs) (cond (ltb room (length nodes)) (Err TooFewPlaces) (Ok (length nodes))))

-- the nodes whose pairs are handed out
abbrev pub given : Result ℕ Refusal → List ℕ → List ℕ
given (Err n) nodes = []
given (Ok n) nodes = nodes

-- what it relies on
pub record FastReady (keys : List ℕ) (values : List ℤ) (rows buckets : List ℕ) : Type 0 where
  pub near : NearReady keys rows buckets
  pub valued : length values ≡ length keys

abbrev pub fast_of : List ℕ → List ℕ → ℕ → ℤ → ℤ → ℕ → Result ℕ Refusal
fast_of keys rows counter low high room = fast_answer (fast_nodes keys rows counter low high) low high room

-- the nodes handed out in all
abbrev pub fast_given : List ℕ → List ℕ → ℕ → ℤ → ℤ → ℕ → List ℕ
fast_given keys rows counter low high room = given (fast_of keys rows counter low high room) (fast_nodes keys rows counter low high)

pub record RangedBy (keys : List ℕ) (values : List ℤ) (rows : List ℕ) (counter : ℕ) (low high : ℤ) (ks vs ks' vs' : List ℤ) (r : Result ℕ Refusal) : Type 0 where
  pub answer : r ≡ fast_of keys rows counter low high (room_of ks vs)
  pub keys_out : ks' ≡ written ks 0 (keys_of keys (fast_given keys rows counter low high (room_of ks vs)))
  pub values_out : vs' ≡ written vs 0 (values_of values (fast_given keys rows counter low high (room_of ks vs)))
