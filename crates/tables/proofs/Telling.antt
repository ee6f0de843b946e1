-- What sound tables tell: what the calls rely on.
-- Assumes nothing.
use mathlib.Core.Path.{◌≡◌, refl, sym, ◌∙◌}
use mathlib.Core.Logic.{◌≢◌, ◌⊎◌, inl, inr, ⊎_elim, by_cases}
use mathlib.Core.Bool.{Bool, true, false, cond}
use mathlib.Core.List.{List, [], ◌∷◌, map}
use Prim.Native.Nat.{ℕ, ◌≤◌, ◌<◌, ◌+◌}
use native.Mathlib.Omega.{arith}
use native.Mathlib.Decide.{ℕ_discrete}
use lib.ListN.{length, get_or, length-map}
use lib.IntN.{ℤ}
use lib.Signed.{lt_z, le_z}
use borrow.Author.Tests.{leb-true, ltb-true}
use Rattle.lists.specs.Holds.{All, Pairwise}
use Rattle.lists.specs.Members.{In, Differ, Split}
use Rattle.lists.proofs.Holding.{all_imp}
use Rattle.lists.proofs.Splits.{differ_distinct, in_split}
use Rattle.sizes.specs.Rank.{key_of}
use Rattle.sizes.proofs.Ranking.{keys_leb, keys_ltb}
use Rattle.rows.specs.Rows.{places}
use Rattle.levels.specs.Levels.{order_of}
use Rattle.levels.specs.Nearest.{Lowest}
use Rattle.levels.specs.Search.{Rising, Searchable}
use Rattle.levels.proofs.Orders.{linked_lowest}
use Rattle.places.specs.Places.{Sized, free_of, ring_of}
use Rattle.places.proofs.Covering.{Filled, covered}
use Rattle.model.specs.Model as M
use Rattle.model.specs.WellFormed.{Before}
use Rattle.tables.specs.Tables.{Tables, capacity_of, Sound, view, levels_of, node_at, ranges_of}
use Rattle.tables.proofs.Capacities.{Capacity, capacity}

-- a node in the order or not
pub found_or_not : (n : ℕ) (o : List ℕ) → In n o ⊎ All (Differ n) o
found_or_not n [] = inr tt
found_or_not n (x ∷ xs) = by_cases (ℕ_discrete n x) (λ e. inl (inl e)) (λ d. ⊎_elim (λ s. inl (inr s)) (λ a. inr (d, a)) (found_or_not n xs))

-- keys that never fall, from the model's nodes to their ranks
before_le : (keys : List ℕ) (values : List ℤ) (rows : List ℕ) (a b : ℕ) → Before (node_at keys values rows a) (node_at keys values rows b) → get_or keys a 0 ≤ get_or keys b 0
unfolding node_at
before_le keys values rows a b = go (M.is_present (node_at keys values rows a))
  where
    go : (p : Bool) → cond p (lt_z (key_of (get_or keys a 0)) (key_of (get_or keys b 0))) (le_z (key_of (get_or keys a 0)) (key_of (get_or keys b 0))) ≡ true → get_or keys a 0 ≤ get_or keys b 0
    go true h = let l = ltb-true (get_or keys a 0) (get_or keys b 0) (sym (keys_ltb (get_or keys a 0) (get_or keys b 0)) ∙ h) in omega arith
    go false h = leb-true (get_or keys a 0) (get_or keys b 0) (sym (keys_leb (get_or keys a 0) (get_or keys b 0)) ∙ h)

rising : (keys : List ℕ) (values : List ℤ) (rows : List ℕ) (o : List ℕ) → Pairwise Before (map (node_at keys values rows) o) → Rising keys o
rising keys values rows [] p = tt
rising keys values rows (x ∷ xs) p = (each xs p.0, rising keys values rows xs p.1)
  where
    each : (ys : List ℕ) → All (Before (node_at keys values rows x)) (map (node_at keys values rows) ys) → All (λ y. get_or keys x 0 ≤ get_or keys y 0) ys
    each [] a = tt
    each (y ∷ ys) a = (before_le keys values rows x y a.0, each ys a.1)

module _ (t : Tables) (S : Sound t) where
  abbrev cap : ℕ
  cap = capacity_of t

  pub sound_capacity : Capacity cap
  sound_capacity = capacity cap S.lengths.known

  -- LAW: what the places rely on
  pub sound_sized : Sized t.rows cap
  sound_sized = record { size = S.lengths.rows; small = sound_capacity.most }

  -- LAW: linked and free nodes are all that there are
  pub sound_full : length (order_of t.rows cap) + length (free_of t.rows cap) ≡ cap
  unfolding view
  sound_full = let e = S.well.full in omega (arith, e, length-map (order_of t.rows cap) (node_at t.keys t.values t.rows))

  pub sound_filled : Filled t.rows cap (order_of t.rows cap)
  sound_filled =
      record {
        nodes = S.memory.linked.nodes;
        differ = differ_distinct (order_of t.rows cap) S.memory.linked.distinct;
        used = all_imp (λ n. (0 < places t.rows n) × (places t.rows n ≤ 3)) (λ n. places t.rows n ≢ 0) (λ n u e. omega arith) (order_of t.rows cap) S.memory.used;
        full = sound_full;
      }

  -- LAW: every node that is not free is linked
  pub sound_covered : (n : ℕ) → n < cap → places t.rows n ≢ 0 → Split n (order_of t.rows cap)
  sound_covered n l d = in_split n (order_of t.rows cap) (covered t.rows cap (order_of t.rows cap) S.memory.seated sound_filled n l d)

  -- LAW: the nodes due and the lists of the open ranges make up the ring
  pub sound_whole : t.coordinator.due + M.held_in (ranges_of cap t.tickets t.coordinator.ranges) ≡ length (ring_of t.rows cap)
  unfolding view
  sound_whole = S.well.listed

  -- LAW: what a walk of the lowest level relies on
  pub sound_lowest : Lowest t.rows cap
  sound_lowest = linked_lowest t.rows cap (levels_of cap) S.lengths.rows S.lengths.known S.memory.linked

  -- LAW: keys never fall along the order, by their ranks
  pub sound_rising : Rising t.keys (order_of t.rows cap)
  unfolding view
  sound_rising = rising t.keys t.values t.rows (order_of t.rows cap) S.well.sorted

  -- LAW: what a search relies on
  pub sound_searchable : Searchable t.keys t.rows cap (levels_of cap)
  sound_searchable =
      record { size = S.lengths.rows; keyed = refl; leveled = S.lengths.known; linked = S.memory.linked; rising = sound_rising }
