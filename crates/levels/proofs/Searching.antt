-- The search's way through the levels: where it stands, one step on, one level down, and what it has found.
-- Assumes nothing.
use mathlib.Core.Path.{◌≡◌, refl, sym, ap, ap₂, ◌∙◌}
use mathlib.Core.Logic.{◌⊎◌, ⊎_elim}
use mathlib.Core.Bool.{true, false}
use mathlib.Core.List.{List, [], ◌∷◌, ◌++◌, append_assoc, append-nil, map}
use Prim.Native.Nat.{ℕ, zero, suc, ◌≤◌, ◌<◌, ◌+◌, ◌-◌}
use native.Mathlib.Omega.{arith}
use native.Mathlib.Nat.{eq-or-lt_of_le}
use native.Mathlib.Decide.{dec_le}
use lib.ListN.{length, get_or, set, length-append, length-set}
use lib.Seq.{get_or-set_same, get_or-set_other, ext_get_or}
use lib.Dec.{ltb, leb}
use borrow.Author.Tests.{lt-ltb, le-ltb, le-leb, lt-leb, ltb-true, leb-true}
use Rattle.lists.specs.Holds.{All}
use Rattle.lists.specs.Filters.{last_or, head_or, count}
use Rattle.lists.proofs.Holding.{all_imp, all_append, all_left, all_right, pairwise_before, pairwise_right}
use Rattle.lists.proofs.Filtering.{first_split, all_filter, all_passed, pairwise_filter, filter_append, filter_yes, filter_all, filter_none, last_append}
use Rattle.rows.specs.Rows.{links, heights}
use Rattle.levels.specs.declared.Pair.{Pair}
use Rattle.levels.specs.declared.Found.{Found}
use Rattle.levels.specs.Levels.{Run, level, onward, order_of}
use Rattle.levels.specs.Stitch.{pair, pair_at}
use Rattle.levels.specs.Search.{up_to, above, around, pair_on, searched, Rising, Searchable}
use Rattle.levels.specs.Nearest.{Lowest}
use Rattle.levels.proofs.Runs.{run_after}
use Rattle.levels.proofs.Orders.{level_zero, linked_lowest, link_part, onward_part}

-- ---- a key splits an order that rises

-- a list in two parts, one with keys up to the rank, one with keys above it
module _ (keys : List ℕ) (rank : ℕ) (A B : List ℕ) (low : All (λ m. get_or keys m 0 ≤ rank) A) (high : All (λ m. rank < get_or keys m 0) B) where
  pub up_to_parts : up_to keys rank (A ++ B) ≡ A
  up_to_parts =
      filter_append (λ m. leb (get_or keys m 0) rank) A B
      ∙ (ap₂ {C = List ℕ} ◌++◌
      (filter_all _ A (all_imp (λ m. get_or keys m 0 ≤ rank) (λ m. leb (get_or keys m 0) rank ≡ true) (λ m i. le-leb _ _ i) A low))
      (filter_none _ B (all_imp (λ m. rank < get_or keys m 0) (λ m. leb (get_or keys m 0) rank ≡ false) (λ m i. lt-leb _ _ i) B high))
      ∙ append-nil A)

  pub above_parts : above keys rank (A ++ B) ≡ B
  above_parts =
      filter_append (λ m. ltb rank (get_or keys m 0)) A B
      ∙ ap₂ {C = List ℕ} ◌++◌
      (filter_none _ A (all_imp (λ m. get_or keys m 0 ≤ rank) (λ m. ltb rank (get_or keys m 0) ≡ false) (λ m i. le-ltb _ _ i) A low))
      (filter_all _ B (all_imp (λ m. rank < get_or keys m 0) (λ m. ltb rank (get_or keys m 0) ≡ true) (λ m i. lt-ltb _ _ i) B high))

pub up_to_le : (keys : List ℕ) (rank : ℕ) (o : List ℕ) → All (λ m. get_or keys m 0 ≤ rank) (up_to keys rank o)
up_to_le keys rank o = all_imp (λ m. leb (get_or keys m 0) rank ≡ true) (λ m. get_or keys m 0 ≤ rank) (λ m e. leb-true _ _ e) (up_to keys rank o) (all_passed _ o)

pub above_lt : (keys : List ℕ) (rank : ℕ) (o : List ℕ) → All (λ m. rank < get_or keys m 0) (above keys rank o)
above_lt keys rank o = all_imp (λ m. ltb rank (get_or keys m 0) ≡ true) (λ m. rank < get_or keys m 0) (λ m e. ltb-true _ _ e) (above keys rank o) (all_passed _ o)

-- in an order that rises, a first key above the rank has only such keys behind it
rising_high : (keys : List ℕ) (rank x : ℕ) (xs : List ℕ) → Rising keys (x ∷ xs) → rank < get_or keys x 0 → All (λ m. rank < get_or keys m 0) (x ∷ xs)
rising_high keys rank x xs r h = (h, all_imp (λ m. get_or keys x 0 ≤ get_or keys m 0) (λ m. rank < get_or keys m 0) (λ m j. omega arith) xs r.0)

-- LAW: the nodes with keys up to the rank, and then those above it, are the order
pub split_rank : (keys : List ℕ) (rank : ℕ) (o : List ℕ) → Rising keys o → o ≡ up_to keys rank o ++ above keys rank o
split_rank keys rank [] r = refl
split_rank keys rank (x ∷ xs) r = go (dec_le (get_or keys x 0) rank) (split_rank keys rank xs r.1)
  where
    go : Dec (get_or keys x 0 ≤ rank) → xs ≡ up_to keys rank xs ++ above keys rank xs → x ∷ xs ≡ up_to keys rank (x ∷ xs) ++ above keys rank (x ∷ xs)
    go (yes i) e = rw (le-leb (get_or keys x 0) rank i, le-ltb rank (get_or keys x 0) i) (ap {B = List ℕ} (λ t. x ∷ t) e)
    go (no i) e =
        let high = rising_high keys rank x xs r (omega arith) in
        sym (ap₂ {C = List ℕ} ◌++◌ (up_to_parts keys rank [] (x ∷ xs) tt high) (above_parts keys rank [] (x ∷ xs) tt high))

-- ---- where the search stands

-- at n, on the level l: n is the last node of a part of the order whose keys are up to the rank, on every level down from l
pub record Place (keys : List ℕ) (height : ℕ → ℕ) (cap rank : ℕ) (o : List ℕ) (n l : ℕ) : Type 0 where
  pub done : List ℕ
  pub rest : List ℕ
  pub whole : o ≡ done ++ rest
  pub small : All (λ m. get_or keys m 0 ≤ rank) done
  pub here : (j : ℕ) → j ≤ l → last_or cap (level height j done) ≡ n

place_start : (keys : List ℕ) (height : ℕ → ℕ) (cap rank : ℕ) (o : List ℕ) (l : ℕ) → Place keys height cap rank o cap l
place_start keys height cap rank o l = record { done = []; rest = o; whole = refl; small = tt; here = λ j i. refl }

place_down : (keys : List ℕ) (height : ℕ → ℕ) (cap rank : ℕ) (o : List ℕ) (n l j : ℕ) → j ≤ l → Place keys height cap rank o n l → Place keys height cap rank o n j
place_down keys height cap rank o n l j i p = record { done = p.done; rest = p.rest; whole = p.whole; small = p.small; here = λ a h. p.here a (omega arith) }

-- how many nodes of the lowest level stand after n: the search's measure
unfoldable pub ahead : List ℕ → ℕ → ℕ → ℕ
ahead rows cap n = length (onward rows cap 0 (links rows 0 0 n))

module _ (keys rows : List ℕ) (cap levels rank : ℕ) where
  -- the levels from l on are settled
  abbrev pub Settled : ℕ → List Pair → Type 0
  Settled l ps = (j : ℕ) → l ≤ j → j < 12 → pair_at ps j ≡ pair_on keys rows cap levels rank j

  -- both loops' invariant: the levels from r on are settled
  pub record Going (n r : ℕ) (ps : List Pair) : Type 0 where
    pub few : r ≤ levels
    pub node : n ≤ cap
    pub sized : length ps ≡ 12
    pub place : Place keys (heights rows) cap rank (order_of rows cap) n (r - 1)
    pub settled : Settled r ps

module _ (keys rows : List ℕ) (cap levels rank : ℕ) (s : Searchable keys rows cap levels) where
  abbrev o : List ℕ
  o = order_of rows cap

  abbrev ht : ℕ → ℕ
  ht = heights rows

  abbrev Standing : ℕ → ℕ → Type 0
  Standing n l = Place keys ht cap rank o n l

  lowest : Lowest rows cap
  lowest = linked_lowest rows cap levels s.size s.leveled s.linked

  place_ahead : (n l : ℕ) (p : Standing n l) → ahead rows cap n ≡ length p.rest
  unfolding ahead
  place_ahead n l p =
      let all : level ht 0 p.done ≡ p.done =
      level_zero (λ k. links rows k 0) (λ k. links rows k 1) ht cap levels p.done
      (all_left (λ m. (0 < ht m) × (ht m ≤ levels)) p.done p.rest (rw p.whole at s.linked.tall)) in
      let e : n ≡ last_or cap p.done = sym (p.here 0 (omega arith)) ∙ ap (last_or cap) all in
      ap (λ m. length (onward rows cap 0 (links rows 0 0 m))) e
      ∙ (ap (λ m. length (onward rows cap 0 m)) (link_part rows cap lowest 0 (omega arith) p.done p.rest p.whole)
      ∙ ap length (onward_part rows cap lowest 0 (omega arith) p.done p.rest p.whole))

  place_next : (n l : ℕ) (p : Standing n l) → l < levels → links rows l 0 n ≡ head_or (level ht l p.rest) (cap + 1)
  place_next n l p h =
      let run : Run (links rows l 0) (links rows l 1) cap (level ht l p.done ++ (level ht l p.rest ++ (cap + 1) ∷ [])) =
      rw (p.whole, filter_append (λ m. ltb l (ht m)) p.done p.rest, append_assoc (level ht l p.done) (level ht l p.rest) ((cap + 1) ∷ [])) at (s.linked.chains l h) in
      ap (links rows l 0) (sym (p.here l (omega arith))) ∙ run_after (links rows l 0) (links rows l 1) cap (level ht l p.done) (level ht l p.rest) (cap + 1) run

  step : (n l : ℕ) (p : Standing n l) (y : ℕ) (ys : List ℕ) → level ht l p.rest ≡ y ∷ ys → get_or keys y 0 ≤ rank → (q : Standing y l) × (length q.rest < length p.rest)
  step n l p y ys e h =
      let f = first_split (λ m. ltb l (ht m)) p.rest y ys e in
      let front = p.done ++ f.skipped in
      let w : o ≡ front ++ y ∷ f.later = p.whole ∙ (ap {B = List ℕ} (λ r. p.done ++ r) f.whole ∙ sym (append_assoc p.done f.skipped (y ∷ f.later))) in (
        record {
          done = front ++ y ∷ [];
          rest = f.later;
          whole = w ∙ sym (append_assoc front (y ∷ []) f.later);
          small =
              all_append (λ m. get_or keys m 0 ≤ rank) front (y ∷ [])
              (all_imp (λ m. get_or keys m 0 ≤ get_or keys y 0) (λ m. get_or keys m 0 ≤ rank) (λ m i. omega arith) front
              (pairwise_before (λ a b. get_or keys a 0 ≤ get_or keys b 0) front y f.later (rw w at s.rising)))
              (h, tt);
          here =
              λ j i.
              let tall : ltb j (ht y) ≡ true = lt-ltb j (ht y) (omega (arith, ltb-true l (ht y) f.passes)) in
              ap (last_or cap) (filter_append (λ m. ltb j (ht m)) front (y ∷ []) ∙ ap {B = List ℕ} (λ r. level ht j front ++ r) (filter_yes (λ m. ltb j (ht m)) y [] tall))
              ∙ last_append cap (level ht j front) (y ∷ []);
        },
        omega (arith, ap length f.whole, length-append f.skipped (y ∷ f.later)),
      )

  -- a step along the level
  place_step : (n l m : ℕ) (p : Standing n l) → l < levels → m ≡ links rows l 0 n → m < cap → get_or keys m 0 ≤ rank → Standing m l × (ahead rows cap m < ahead rows cap n)
  place_step n l m p h e u v = go (level ht l p.rest) refl (e ∙ place_next n l p h)
    where
      go : (ys : List ℕ) → level ht l p.rest ≡ ys → m ≡ head_or ys (cap + 1) → Standing m l × (ahead rows cap m < ahead rows cap n)
      go [] f g = absurd (omega arith)
      go (y ∷ ys) f g =
          let q = step n l p m ys (f ∙ ap (λ x. x ∷ ys) (sym g)) v in
          (q.0, omega (arith, q.1, place_ahead n l p, place_ahead m l q.0))

  -- the level is settled
  place_settled : (n l m : ℕ) → Standing n l → l < levels → m ≡ links rows l 0 n → (cap ≤ m) ⊎ (rank < get_or keys m 0) → pair n m ≡ around keys cap rank (level ht l o)
  place_settled n l m p h e u =
      let FA = level ht l p.done in
      let FB = level ht l p.rest in
      let w : level ht l o ≡ FA ++ FB = ap (level ht l) p.whole ∙ filter_append (λ m. ltb l (ht m)) p.done p.rest in
      let low : All (λ m. get_or keys m 0 ≤ rank) FA = all_filter (λ m. get_or keys m 0 ≤ rank) _ p.done p.small in
      let high : All (λ m. rank < get_or keys m 0) FB =
      big FB (all_filter (λ m. m < cap) _ p.rest (all_right (λ m. m < cap) p.done p.rest (rw p.whole at s.linked.nodes)))
      (pairwise_filter (λ a b. get_or keys a 0 ≤ get_or keys b 0) _ p.rest (pairwise_right (λ a b. get_or keys a 0 ≤ get_or keys b 0) p.done p.rest (rw p.whole at s.rising)))
      (e ∙ place_next n l p h) in
      let below : n ≡ last_or cap (up_to keys rank (level ht l o)) = sym (p.here l (omega arith)) ∙ ap (last_or cap) (sym (ap (up_to keys rank) w ∙ up_to_parts keys rank FA FB low high)) in
      let beyond : m ≡ head_or (above keys rank (level ht l o)) (cap + 1) = e ∙ (place_next n l p h ∙ ap (λ r. head_or r (cap + 1)) (sym (ap (above keys rank) w ∙ above_parts keys rank FA FB low high))) in
      ap₂ {C = Pair} pair below beyond
    where
      big : (ys : List ℕ) → All (λ m. m < cap) ys → Rising keys ys → m ≡ head_or ys (cap + 1) → All (λ m. rank < get_or keys m 0) ys
      big [] a r g = tt
      big (y ∷ ys) a r g =
          let t : rank < get_or keys y 0 = ⊎_elim (λ i. absurd (omega (arith, a.0))) (λ i. rw g at i) u in
          rising_high keys rank y ys r t

  -- as the code comes to them: the start, a step along the level, a level down, the end

  pub going_start : (ps : List Pair) → length ps ≡ 12 → ((j : ℕ) → j < 12 → pair_at ps j ≡ pair 0 0) → Going keys rows cap levels rank cap levels ps
  unfolding pair_on
  going_start ps z none =
      record {
        few = omega arith;
        node = omega arith;
        sized = z;
        place = place_start keys ht cap rank o (levels - 1);
        settled = λ j i v. none j v ∙ rw (le-ltb j levels i);
      }

  module _ (n l m : ℕ) (ps : List Pair) (g : Going keys rows cap levels rank n (l + 1) ps) (e : m ≡ links rows l 0 n) where
    here : Standing n l
    here = place_down keys ht cap rank o n (l + 1 - 1) l (omega arith) g.place

    pub going_step : m < cap → get_or keys m 0 ≤ rank → Going keys rows cap levels rank m (l + 1) ps × (ahead rows cap m < ahead rows cap n)
    going_step u v =
        let q = place_step n l m here (omega (arith, g.few)) e u v in
        (record { few = g.few; node = omega arith; sized = g.sized; place = place_down keys ht cap rank o m l (l + 1 - 1) (omega arith) q.0; settled = g.settled }, q.1)

    -- the level l is settled, and its pair stored
    pub going_down : (cap ≤ m) ⊎ (rank < get_or keys m 0) → Going keys rows cap levels rank n l (set ps l (pair n m))
    unfolding pair_on
    going_down u =
        record {
          few = omega (arith, g.few);
          node = g.node;
          sized = length-set ps l (pair n m) ∙ g.sized;
          place = place_down keys ht cap rank o n l (l - 1) (omega arith) here;
          settled = λ j i v.
              ⊎_elim
              (λ q. rw (← q, get_or-set_same ps l (pair n m) (pair 0 0) (omega (arith, g.sized, g.few, s.linked.few)), lt-ltb l levels (omega (arith, g.few))) (place_settled n l m here (omega (arith, g.few)) e u))
              (λ w. get_or-set_other ps l j (pair n m) (pair 0 0) (omega arith) ∙ g.settled j (omega arith) v)
              (eq-or-lt_of_le i);
        }

  map_count : (f : ℕ → Pair) (d : Pair) (k n j : ℕ) → j < k → get_or (map f (count n k)) j d ≡ f (n + j)
  map_count f d zero n j i = absurd (omega arith)
  map_count f d (suc k) n zero i = let e : n ≡ n + 0 = omega arith in ap f e
  map_count f d (suc k) n (suc j) i = let e : suc n + j ≡ n + suc j = omega arith in map_count f d k (suc n) j (omega arith) ∙ ap f e

  map_count_length : (f : ℕ → Pair) (k n : ℕ) → length (map f (count n k)) ≡ k
  map_count_length f zero n = refl
  map_count_length f (suc k) n = ap suc (map_count_length f k (suc n))

  -- the pair that the search found on a level
  pub searched_pair : (l : ℕ) → l < 12 → pair_at (searched keys rows cap levels rank).pairs l ≡ pair_on keys rows cap levels rank l
  unfolding searched
  searched_pair l i = let e : 0 + l ≡ l = omega arith in map_count (pair_on keys rows cap levels rank) (pair 0 0) 12 0 l i ∙ ap (pair_on keys rows cap levels rank) e

  -- every level is settled: the search is at its end
  pub searched_all : (n : ℕ) (ps : List Pair) → Going keys rows cap levels rank n 0 ps → record { pairs = ps; place = pair_at ps 0 } ≡ searched keys rows cap levels rank
  unfolding searched pair_on
  searched_all n ps g =
      let f = map (pair_on keys rows cap levels rank) (count 0 12) in
      let all : ps ≡ f =
      ext_get_or (pair 0 0) ps f (g.sized ∙ sym (map_count_length (pair_on keys rows cap levels rank) 12 0))
      (λ i v. g.settled i (omega arith) (omega (arith, g.sized)) ∙ sym (map_count (pair_on keys rows cap levels rank) (pair 0 0) 12 0 i (omega (arith, g.sized)) ∙ ap (pair_on keys rows cap levels rank) (zero_plus i))) in
      ap₂ {C = Found} (λ (a : List Pair) (b : Pair). record { pairs = a; place = b }) all (g.settled 0 (omega arith) (omega arith) ∙ lowest_pair)
    where
      zero_plus : (i : ℕ) → 0 + i ≡ i
      zero_plus i = omega arith

      lowest_pair : pair_on keys rows cap levels rank 0 ≡ around keys cap rank o
      lowest_pair = rw (lt-ltb 0 levels s.leveled) (ap (around keys cap rank) (level_zero (λ k. links rows k 0) (λ k. links rows k 1) ht cap levels o s.linked.tall))
