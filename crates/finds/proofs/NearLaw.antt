-- What the nearest present node means: what `near` relies on in sound tables, the plain map's nearest pair, and where a new range rests.
-- Assumes nothing.
use mathlib.Core.Path.{◌≡◌, refl, sym, ap, ap₂, ◌∙◌}
use mathlib.Core.Logic.{◌≢◌}
use mathlib.Core.Bool.{Bool, true, false, cond}
use mathlib.Core.List.{List, [], ◌∷◌, map, map-map}
use mathlib.Core.Option.{some}
use Prim.Native.Nat.{ℕ, zero, suc, ◌+◌, ◌≤◌, ◌<◌}
use native.Mathlib.Omega.{arith}
use native.Mathlib.Decide.{ℕ_discrete, dec_le}
use lib.ListN.{get_or}
use lib.Dec.{eqb, ltb, leb}
use lib.IntN.{ℤ}
use lib.Signed.{le_z, lt_z}
use mir.Syntax.{w64}
use mir.Val.{SFits}
use borrow.Author.Tests.{eq-eqb, ne_eqb, lt-ltb, le-ltb, ltb-true, le-leb, lt-leb}
use Rattle.lists.specs.Holds.{All, Pairwise}
use Rattle.lists.specs.Filters.{filter, first, last, head_or, last_or}
use Rattle.lists.proofs.Holding.{all_imp, all_every, all_last}
use Rattle.lists.proofs.Filtering.{all_filter, filter_same}
use Rattle.lists.proofs.Reversing.{filter_reverse, head_reverse}
use Rattle.lists.proofs.Splits.{split_in}
use Rattle.sizes.specs.Rank.{rank_of, key_of}
use Rattle.sizes.proofs.Ranking.{key_rank, keys_leb, keys_ltb}
use Rattle.rows.specs.Rows.{places, removals}
use Rattle.levels.specs.Levels.{order_of}
use Rattle.levels.specs.Nearest.{present}
use Rattle.levels.proofs.Orders.{order_in_lem}
use Rattle.buckets.specs.Buckets.{Present}
use Rattle.model.specs.Plain.{Pair}
use Rattle.model.specs.Model as M
use Rattle.model.specs.WellFormed.{Before, Dated}
use Rattle.model.proofs.Stops.{rests_new}
use Rattle.tables.specs.Tables.{Tables, capacity_of, Sound, view, node_at, rest_of}
use Rattle.tables.proofs.Telling.{sound_capacity, sound_covered, sound_lowest, sound_searchable}
use Rattle.tables.proofs.Finding.{here_mark}
use Rattle.finds.specs.Near.{past, beyond, nodes_beyond, near_of, NearReady}
use Rattle.finds.specs.Nearest.{nearest_pair, pair_at}
use Rattle.finds.proofs.Turning.{filter_map}

-- ---- tests of keys and of their ranks

-- at or below, with z the test of equality
le_or : (a b : ℕ) (z : Bool) → (a ≡ b → z ≡ true) → (a ≢ b → z ≡ false) → cond z true (ltb a b) ≡ leb a b
le_or a b z p q = go (ℕ_discrete a b)
  where
    go : Dec (a ≡ b) → cond z true (ltb a b) ≡ leb a b
    go (yes e) = rw (p e) (sym (le-leb a b (omega arith)))
    go (no e) = rw (q e) (less (dec_le b a))
      where
        less : Dec (b ≤ a) → ltb a b ≡ leb a b
        less (yes h) = le-ltb a b h ∙ sym (lt-leb a b (omega arith))
        less (no h) = lt-ltb a b (omega arith) ∙ sym (le-leb a b (omega arith))

lt_or : (d a b : ℕ) → beyond d false a b ≡ past d a b
lt_or d a b = go (ℕ_discrete b a)
  where
    same : (d x : ℕ) → false ≡ past d x x
    same zero x = sym (le-ltb x x (omega arith))
    same (suc d) x = sym (le-ltb x x (omega arith))

    go : Dec (b ≡ a) → beyond d false a b ≡ past d a b
    go (yes e) = rw (e, eq-eqb a a refl) (same d a)
    go (no e) = rw (ne_eqb b a e)

-- the plain map's test of a pair
abbrev asked : ℕ → Bool → ℤ → Pair → Bool
asked zero true k p = le_z k p.0
asked (suc d) true k p = le_z p.0 k
asked zero false k p = lt_z k p.0
asked (suc d) false k p = lt_z p.0 k

-- a key is beyond another where its rank is
asked_rank : (d : ℕ) (at : Bool) (a b : ℕ) (v : ℤ) → asked d at (key_of a) (key_of b, v) ≡ beyond d at a b
asked_rank zero true a b v = keys_leb a b ∙ sym (le_or a b (eqb b a) (λ e. eq-eqb b a (sym e)) (λ e. ne_eqb b a (λ q. e (sym q))))
asked_rank (suc d) true a b v = keys_leb b a ∙ sym (le_or b a (eqb b a) (eq-eqb b a) (ne_eqb b a))
asked_rank zero false a b v = keys_ltb a b ∙ sym (lt_or 0 a b)
asked_rank (suc d) false a b v = keys_ltb b a ∙ sym (lt_or (suc d) a b)

-- ---- what near relies on

-- a present node's key is below those behind it, from the model's nodes to their ranks
strict : (keys : List ℕ) (g : ℕ → M.Node) (rows : List ℕ) → ((n : ℕ) → M.is_present (g n) ≡ present rows n) → ((n : ℕ) → (g n).key ≡ key_of (get_or keys n 0))
    → (o : List ℕ) → Pairwise Before (map g o) → Pairwise (λ a b. Present rows a → get_or keys a 0 < get_or keys b 0) o
strict keys g rows p k [] w = tt
strict keys g rows p k (x ∷ xs) w = (each xs w.0, strict keys g rows p k xs w.1)
  where
    one : (y : ℕ) → Before (g x) (g y) → Present rows x → get_or keys x 0 < get_or keys y 0
    one y b e =
        let q : lt_z (g x).key (g y).key ≡ true = rw (p x ∙ eq-eqb (places rows x) 1 e) at b in
        ltb-true (get_or keys x 0) (get_or keys y 0) (sym (ap₂ lt_z (k x) (k y) ∙ keys_ltb (get_or keys x 0) (get_or keys y 0)) ∙ q)

    each : (ys : List ℕ) → All (Before (g x)) (map g ys) → All (λ y. Present rows x → get_or keys x 0 < get_or keys y 0) ys
    each [] a = tt
    each (y ∷ ys) a = (one y a.0, each ys a.1)

module _ (t : Tables) (S : Sound t) where
  abbrev cap : ℕ
  cap = capacity_of t

  abbrev o : List ℕ
  o = order_of t.rows cap

  abbrev g : ℕ → M.Node
  g = node_at t.keys t.values t.rows

  shown_present : (n : ℕ) → M.is_present (g n) ≡ present t.rows n
  unfolding node_at
  shown_present n = here_mark (places t.rows n) (removals t.rows n)

  shown_key : (n : ℕ) → (g n).key ≡ key_of (get_or t.keys n 0)
  unfolding node_at
  shown_key n = refl

  -- LAW: what near relies on
  pub near_ready : NearReady t.keys t.rows t.buckets
  unfolding view
  near_ready =
      record {
        small = (sound_capacity t S).most;
        searchable = sound_searchable t S;
        hashed = S.hashed;
        linked = λ n l e. split_in n o (sound_covered t S n l (omega arith));
        last = strict t.keys g t.rows shown_present shown_key o S.well.sorted;
      }
      -- ---- the nearest node by filters over the order

  abbrev nodes : List ℕ
  nodes = filter (present t.rows) o

  nodes_low : All (λ n. n < cap) nodes
  nodes_low = all_filter (λ n. n < cap) (present t.rows) o S.memory.linked.nodes

  -- LAW: above the rank the first present node of the order beyond it, below the rank the last
  pub near_above : (rank : ℕ) (at : Bool) → near_of t.keys t.rows cap rank 0 at ≡ head_or (nodes_beyond t.keys 0 at rank nodes) (cap + 1)
  unfolding near_of
  near_above rank at = refl

  pub near_below : (rank : ℕ) (at : Bool) → near_of t.keys t.rows cap rank 1 at ≡ last_or cap (nodes_beyond t.keys 1 at rank nodes)
  unfolding near_of
  near_below rank at =
      ap (λ l. head_or (nodes_beyond t.keys 1 at rank (filter (present t.rows) l)) cap) (order_in_lem t.rows cap (sound_lowest t S) 1 (omega arith))
      ∙ (ap (λ l. head_or (nodes_beyond t.keys 1 at rank l) cap) (filter_reverse (present t.rows) o)
      ∙ (ap (λ l. head_or l cap) (filter_reverse (λ n. beyond 1 at rank (get_or t.keys n 0)) nodes)
      ∙ head_reverse (nodes_beyond t.keys 1 at rank nodes) cap))

  -- ---- what the model shows

  -- LAW: the model's present nodes are those of the order that are marked so, and the plain map has their pairs
  pub present_nodes : filter M.is_present (view t).order ≡ map g nodes
  unfolding view
  present_nodes = filter_map g M.is_present (present t.rows) o (all_every (λ n. M.is_present (g n) ≡ present t.rows n) shown_present o)

  pub plain_nodes : M.plain (view t) ≡ map (λ n. M.pair_of (g n)) nodes
  plain_nodes = ap (map M.pair_of) present_nodes ∙ map-map M.pair_of g nodes

  -- the first and the last of some nodes, as pairs
  pairs_first : (xs : List ℕ) → All (λ n. n < cap) xs → first (map (λ n. M.pair_of (g n)) xs) ≡ pair_at t (head_or xs (cap + 1))
  pairs_first [] a = rw (le-ltb (cap + 1) cap (omega arith))
  pairs_first (x ∷ xs) a = rw (lt-ltb x cap a.0)

  pairs_last : (xs : List ℕ) → All (λ n. n < cap) xs → last (map (λ n. M.pair_of (g n)) xs) ≡ pair_at t (last_or cap xs)
  pairs_last [] a = rw (le-ltb cap cap (omega arith))
  pairs_last (x ∷ xs) a = rw (lt-ltb (last_or x xs) cap (all_last (λ n. n < cap) x xs a.0 a.1)) (ap some (go x xs))
    where
      go : (y : ℕ) (ys : List ℕ) → last_or (M.pair_of (g y)) (map (λ n. M.pair_of (g n)) ys) ≡ M.pair_of (g (last_or y ys))
      go y [] = refl
      go y (z ∷ ys) = go z ys

  -- ---- the stops of a new range

  abbrev stop_at : ℕ → M.Stop
  stop_at n = ((g n).number, M.pair_of (g n))

  -- LAW: a version above the counter may rest exactly on the present nodes
  pub stops_nodes : M.stops (suc (view t).counter) (view t).order ≡ map stop_at nodes
  stops_nodes =
      ap (map (λ (n : M.Node). (n.number, M.pair_of n)))
      (filter_same (M.may_rest (suc (view t).counter)) M.is_present (view t).order
      (all_imp (Dated (view t).counter) (λ n. M.may_rest (suc (view t).counter) n ≡ M.is_present n) (rests_new (view t).counter) (view t).order S.well.dated)
      ∙ present_nodes)
      ∙ map-map (λ (n : M.Node). (n.number, M.pair_of n)) g nodes

  rest_first : (xs : List ℕ) → All (λ n. n < cap) xs → M.rest_at (map stop_at xs) ≡ rest_of cap (head_or xs (cap + 1))
  unfolding node_at
  rest_first [] a = rw (le-ltb (cap + 1) cap (omega arith))
  rest_first (x ∷ xs) a = rw (lt-ltb x cap a.0)

  -- ---- the nearest pair

  module _ (k : ℤ) (f : SFits w64 k) where
    asked_node : (d : ℕ) (at : Bool) (n : ℕ) → asked d at k (M.pair_of (g n)) ≡ beyond d at (rank_of k) (get_or t.keys n 0)
    unfolding node_at
    asked_node d at n = ap (λ z. asked d at z (M.pair_of (g n))) (sym (key_rank k f)) ∙ asked_rank d at (rank_of k) (get_or t.keys n 0) (g n).value

    abbrev beyond_it : ℕ → Bool → List ℕ
    beyond_it d at = nodes_beyond t.keys d at (rank_of k) nodes

    beyond_low : (d : ℕ) (at : Bool) → All (λ n. n < cap) (beyond_it d at)
    beyond_low d at = all_filter (λ n. n < cap) _ nodes nodes_low

    pairs_beyond : (d : ℕ) (at : Bool) → filter (asked d at k) (M.plain (view t)) ≡ map (λ n. M.pair_of (g n)) (beyond_it d at)
    pairs_beyond d at =
        ap (filter (asked d at k)) plain_nodes
        ∙ filter_map (λ n. M.pair_of (g n)) (asked d at k) (λ n. beyond d at (rank_of k) (get_or t.keys n 0)) nodes
        (all_every (λ n. asked d at k (M.pair_of (g n)) ≡ beyond d at (rank_of k) (get_or t.keys n 0)) (asked_node d at) nodes)

    up : (at : Bool) → first (filter (asked 0 at k) (M.plain (view t))) ≡ pair_at t (near_of t.keys t.rows cap (rank_of k) 0 at)
    up at = ap first (pairs_beyond 0 at) ∙ (pairs_first (beyond_it 0 at) (beyond_low 0 at) ∙ ap (pair_at t) (sym (near_above (rank_of k) at)))

    down : (at : Bool) → last (filter (asked 1 at k) (M.plain (view t))) ≡ pair_at t (near_of t.keys t.rows cap (rank_of k) 1 at)
    down at = ap last (pairs_beyond 1 at) ∙ (pairs_last (beyond_it 1 at) (beyond_low 1 at) ∙ ap (pair_at t) (sym (near_below (rank_of k) at)))

    -- LAW: the plain map's nearest pair is that of the nearest node, or none at a sentinel
    pub near_shown : (d : ℕ) → d ≤ 1 → (at : Bool) → nearest_pair d at k (M.plain (view t)) ≡ pair_at t (near_of t.keys t.rows cap (rank_of k) d at)
    near_shown zero u true = up true
    near_shown zero u false = up false
    near_shown (suc zero) u true = down true
    near_shown (suc zero) u false = down false
    near_shown (suc (suc d)) u at = absurd (omega arith)

    -- ---- where a new range rests

    -- LAW: a range that opens now rests on the nearest node at or above its lower bound, or on the tail
    pub rest_near : M.rest_at (filter (λ (x : M.Stop). le_z k x.1.0) (M.stops (suc (view t).counter) (view t).order)) ≡ rest_of cap (near_of t.keys t.rows cap (rank_of k) 0 true)
    rest_near =
        ap (λ l. M.rest_at (filter (λ (x : M.Stop). le_z k x.1.0) l)) stops_nodes
        ∙ (ap M.rest_at
        (filter_map stop_at (λ (x : M.Stop). le_z k x.1.0) (λ n. beyond 0 true (rank_of k) (get_or t.keys n 0)) nodes
        (all_every (λ n. le_z k (M.pair_of (g n)).0 ≡ beyond 0 true (rank_of k) (get_or t.keys n 0)) (asked_node 0 true) nodes))
        ∙ (rest_first (beyond_it 0 true) (beyond_low 0 true) ∙ ap (rest_of cap) (sym (near_above (rank_of k) true))))
