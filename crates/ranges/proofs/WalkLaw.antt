-- What a walk means: the nodes that the model's range may rest on and needs, and where it rests.
-- Assumes nothing.
use mathlib.Core.Path.{◌≡◌, refl, sym, ap, ◌∙◌}
use mathlib.Core.Logic.{◌⊎◌, inl, inr, ⊎_elim}
use mathlib.Core.Bool.{Bool, true, false, cond, true≢false, ◌&&◌}
use mathlib.Core.List.{List, [], ◌∷◌, ◌++◌, map}
use Prim.Native.Nat.{ℕ, ◌≤◌, ◌<◌, ◌+◌}
use native.Mathlib.Omega.{arith}
use native.Mathlib.Decide.{dec_lt}
use lib.ListN.{length, get_or, take, drop, length-map}
use lib.Dec.{leb, ltb, eqb}
use lib.IntN.{ℤ, pos}
use lib.Signed.{le_z}
use borrow.Author.Tests.{eq-eqb, ne_eqb, lt-ltb, le-ltb}
use Rattle.lists.specs.Holds.{All}
use Rattle.lists.specs.Filters.{keep, filter, head_or, empty}
use Rattle.lists.specs.Members.{In, Differ}
use Rattle.lists.specs.Buffers.{written}
use Rattle.lists.proofs.Holding.{all_drop, pairwise_before}
use Rattle.sizes.specs.Rank.{key_of}
use Rattle.sizes.proofs.Ranking.{keys_leb}
use Rattle.rows.specs.Rows.{insertions, removals, places, links}
use Rattle.levels.specs.Levels.{onward, order_of}
use Rattle.levels.specs.Nearest.{Walkable}
use Rattle.model.specs.Calls.{answered}
use Rattle.model.specs.Answers.{paired}
use Rattle.model.specs.Plain.{Pair}
use Rattle.model.specs.Model as M
use Rattle.model.specs.WellFormed.{Rested}
use Rattle.model.proofs.View.{scan, scan_ahead}
use Rattle.tables.specs.declared.Ticket.{Ticket}
use Rattle.tables.specs.Tables.{Tables, capacity_of, Resting, Sound, view, node_at, rest_of, range_of, nodes_of}
use Rattle.tables.proofs.Viewing.{is_node}
use Rattle.tables.proofs.Telling.{found_or_not, sound_capacity, sound_lowest, sound_rising}
use Rattle.ranges.specs.Walk.{may_rest, walk_of, stops, needed, WalkReady}
use Rattle.ranges.proofs.Mapping.{map_take, map_drop, map_empty}
use Rattle.ranges.proofs.Walking.{written_front, onward_end, behind}

-- ---- the pairs at the front of the buffers

module _ (f h : ℕ → ℤ) where
  front : (ns : List ℕ) (ks vs : List ℤ) → paired (length ns) (map f ns ++ ks) (map h ns ++ vs) ≡ map (λ n. (f n, h n)) ns
  front [] ks vs = refl
  front (n ∷ ns) ks vs = ap {B = List Pair} (λ ps. (f n, h n) ∷ ps) (front ns ks vs)

  -- LAW: what was laid at the front of two buffers is paired
  pub paired_written : (ns : List ℕ) (ks vs : List ℤ) → paired (length ns) (written ks 0 (map f ns)) (written vs 0 (map h ns)) ≡ map (λ n. (f n, h n)) ns
  paired_written ns ks vs = rw (written_front ks (map f ns), written_front vs (map h ns)) (front ns (drop (length (map f ns)) ks) (drop (length (map h ns)) vs))

module _ (keys : List ℕ) (values : List ℤ) (rows : List ℕ) where
  abbrev pub pair_at : ℕ → Pair
  pair_at n = (key_of (get_or keys n 0), get_or values n (pos 0))

  abbrev pub stop_at : ℕ → M.Stop
  stop_at n = (n, pair_at n)

  -- LAW: the code's test is the model's
  pub may_rest_node : (v n : ℕ) → M.may_rest v (node_at keys values rows n) ≡ may_rest rows v n
  unfolding node_at may_rest
  may_rest_node v n = ap (ltb (insertions rows n) v &&◌) (go (eqb (places rows n) 1) (eqb (places rows n) 2))
    where
      go : (a b : Bool) → M.lasts v (cond a M.present (cond b (M.pending (removals rows n)) (M.retired (removals rows n)))) ≡ cond a true (leb v (removals rows n))
      go true b = refl
      go false true = refl
      go false false = refl

  stop_node : (n : ℕ) → ((node_at keys values rows n).number, M.pair_of (node_at keys values rows n)) ≡ stop_at n
  unfolding node_at
  stop_node n = refl

  -- LAW: what a range may rest on, of the nodes shown
  pub stops_shown : (v : ℕ) (o : List ℕ) → M.stops v (map (node_at keys values rows) o) ≡ map stop_at (filter (may_rest rows v) o)
  stops_shown v [] = refl
  stops_shown v (x ∷ o) = rw (may_rest_node v x) (go (may_rest rows v x) (stops_shown v o))
    where
      go : (b : Bool) → M.stops v (map (node_at keys values rows) o) ≡ map stop_at (filter (may_rest rows v) o)
          → map (λ (n : M.Node). (n.number, M.pair_of n)) (keep b (node_at keys values rows x) (filter (M.may_rest v) (map (node_at keys values rows) o))) ≡ map stop_at (keep b x (filter (may_rest rows v) o))
      go true i = rw (stop_node x) (ap {B = List M.Stop} (λ l. stop_at x ∷ l) i)
      go false i = i

  scan_none : (i : ℕ) (o : List ℕ) → All (Differ i) o → scan (M.on i) (map (node_at keys values rows) o) ≡ []
  scan_none i [] a = refl
  scan_none i (x ∷ o) a = rw (is_node keys values rows i x, ne_eqb x i (λ e. a.0 (sym e))) (scan_none i o a.1)

  scan_at : (i : ℕ) (A B : List ℕ) → All (λ x. Differ x i) A → scan (M.on i) (map (node_at keys values rows) (A ++ i ∷ B)) ≡ map (node_at keys values rows) (i ∷ B)
  scan_at i [] B a = rw (is_node keys values rows i i, eq-eqb i i refl)
  scan_at i (x ∷ A) B a = rw (is_node keys values rows i x, ne_eqb x i a.0) (scan_at i A B a.1)

  -- LAW: where nothing is below the bounds, what is needed is what is not above them
  pub inside_up : (low high : ℕ) (ns : List ℕ) → All (λ (x : M.Stop). le_z (key_of low) x.1.0 ≡ true) (map stop_at ns)
      → M.inside (key_of low) (key_of high) (map stop_at ns) ≡ map stop_at (filter (λ n. leb (get_or keys n 0) high) ns)
  inside_up low high [] a = refl
  inside_up low high (x ∷ ns) a = rw (a.0, keys_leb (get_or keys x 0) high) (go (leb (get_or keys x 0) high) (inside_up low high ns a.1))
    where
      go : (b : Bool) → M.inside (key_of low) (key_of high) (map stop_at ns) ≡ map stop_at (filter (λ n. leb (get_or keys n 0) high) ns)
          → keep b (stop_at x) (M.inside (key_of low) (key_of high) (map stop_at ns)) ≡ map stop_at (keep b x (filter (λ n. leb (get_or keys n 0) high) ns))
      go true i = ap {B = List M.Stop} (λ l. stop_at x ∷ l) i
      go false i = i

  -- LAW: a range rests on the first of the nodes ahead of it, or on the tail
  pub rest_first : (cap : ℕ) (ns : List ℕ) → All (λ n. n < cap) ns → M.rest_at (map stop_at ns) ≡ rest_of cap (head_or ns (cap + 1))
  rest_first cap [] a = rw (le-ltb (cap + 1) cap (omega arith))
  rest_first cap (x ∷ ns) a = rw (lt-ltb x cap a.0)

  pub pairs_stops : (ns : List ℕ) → M.pairs_of (map stop_at ns) ≡ map pair_at ns
  pairs_stops [] = refl
  pairs_stops (n ∷ ns) = ap {B = List Pair} (λ ps. pair_at n ∷ ps) (pairs_stops ns)

  -- LAW: the model's step, over the nodes
  pub stepping_nodes : (s : M.State) (v room : ℕ) (A B : List ℕ) → All (λ n. n < s.capacity) A
      → M.stepping s v room (map stop_at A) (map stop_at B)
      ≡ (
        M.with_ranges (M.move_on v (rest_of s.capacity (head_or (drop (length (take room B)) A) (s.capacity + 1))) s.ranges) s,
        answered (pos (length (take room B)) ∷ pos (cond (empty (drop room B)) 1 0) ∷ []) (map pair_at (take room B)),
      )
  stepping_nodes s v room A B a =
      rw (
        map_take stop_at room B,
        map_drop stop_at room B,
        map_empty stop_at (drop room B),
        length-map (take room B) stop_at,
        pairs_stops (take room B),
        length-map (take room B) pair_at,
        map_drop stop_at (length (take room B)) A,
        rest_first s.capacity (drop (length (take room B)) A) (all_drop (λ n. n < s.capacity) (length (take room B)) A a),
      )

module _ (t : Tables) (S : Sound t) (T : Ticket) (resting : Resting (capacity_of t) T) (rested : Rested (nodes_of t.keys t.values t.rows) (range_of (capacity_of t) T)) where
  abbrev cap : ℕ
  cap = capacity_of t

  abbrev g : ℕ → M.Node
  g = node_at t.keys t.values t.rows

  abbrev o : List ℕ
  o = order_of t.rows cap

  abbrev v : ℕ
  v = T.version.0

  abbrev r : ℕ
  r = T.rest.0

  -- from the node that it rests on
  scanned : r < cap → M.stops v (scan (M.on r) (map g o)) ≡ M.ahead (range_of cap T) (map g o)
  unfolding range_of view
  scanned h =
      let f : M.rest_at (M.from (M.on r) (M.stops v (map g o))) ≡ M.on r = rw (lt-ltb r cap h) at rested.found in
      rw (lt-ltb r cap h) (scan_ahead v (M.on r) (map g o) S.well.apart f)

  -- LAW: a ticket rests where a walk can begin
  pub ticket_walkable : Walkable t.rows cap 0 r
  unfolding range_of
  ticket_walkable = record { lowest = sound_lowest t S; direction = omega arith; on = ⊎_elim go inr resting }
    where
      go : r < cap → In r o ⊎ (r ≡ cap + 1)
      go h =
          ⊎_elim inl
          (λ a.
          let q : M.ahead (range_of cap T) (map g o) ≡ [] = sym (scanned h) ∙ ap (M.stops v) (scan_none t.keys t.values t.rows r o a) in
          let z : M.tail ≡ M.on r = sym (ap M.rest_at q) ∙ (rested.found ∙ rw (lt-ltb r cap h)) in
          let y : ◌≡◌ {A = Bool} true false = cc in
          absurd (true≢false y))
          (found_or_not r o)

  -- LAW: what the walk of a ticket relies on
  pub ticket_ready : WalkReady t.keys t.values t.rows r
  ticket_ready = record { valued = S.lengths.values; small = (sound_capacity t S).most; rising = sound_rising t S; walkable = ticket_walkable }

  at_tail : cap ≤ r → M.ahead (range_of cap T) (map g o) ≡ []
  unfolding range_of
  at_tail h = rw (le-ltb r cap h)

  -- LAW: the nodes ahead of a ticket's range
  pub ahead_walk : M.ahead (range_of cap T) (map g o) ≡ map (stop_at t.keys t.values t.rows) (stops t.keys t.rows (walk_of T))
  ahead_walk = go (dec_lt r cap)
    where
      on_node : r < cap → M.ahead (range_of cap T) (map g o) ≡ map (stop_at t.keys t.values t.rows) (stops t.keys t.rows (walk_of T))
      on_node h =
          let b = behind t.rows cap r ticket_walkable h in
          let d : All (λ x. Differ x r) b.front = pairwise_before Differ b.front r (onward t.rows cap 0 (links t.rows 0 0 r)) (rw b.whole at S.memory.linked.distinct) in
          let q : scan (M.on r) (map g o) ≡ map g (onward t.rows cap 0 r) =
          ap (λ l. scan (M.on r) (map g l)) b.whole ∙ (scan_at t.keys t.values t.rows r b.front (onward t.rows cap 0 (links t.rows 0 0 r)) d ∙ ap (map g) (sym b.here)) in
          sym (scanned h) ∙ (ap (M.stops v) q ∙ stops_shown t.keys t.values t.rows v (onward t.rows cap 0 r))

      go : Dec (r < cap) → M.ahead (range_of cap T) (map g o) ≡ map (stop_at t.keys t.values t.rows) (stops t.keys t.rows (walk_of T))
      go (yes h) = on_node h
      go (no h) =
          at_tail (omega arith) ∙ ap (λ l. map (stop_at t.keys t.values t.rows) (filter (may_rest t.rows v) l)) (sym (onward_end t.rows cap 0 r (omega arith)))

  -- LAW: and those of them that it needs
  pub left_walk : M.left (range_of cap T) (map g o) ≡ map (stop_at t.keys t.values t.rows) (needed t.keys t.rows (walk_of T))
  unfolding range_of
  left_walk =
      ap (M.inside (key_of T.low) (key_of T.high)) ahead_walk
      ∙ inside_up t.keys t.values t.rows T.low T.high (stops t.keys t.rows (walk_of T)) (rw ahead_walk at rested.above)
