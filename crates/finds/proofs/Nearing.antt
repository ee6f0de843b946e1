-- The nearest present node as `near` comes to it: at the bucket's node, beside it, or beside the place that a search found.
-- Assumes nothing.
use Rattle.std.specs.Prelude.{Some, None, Option}
use mathlib.Core.Path.{◌≡◌, refl, sym, ap, ap₂, ◌∙◌}
use mathlib.Core.Logic.{◌≢◌, inl}
use mathlib.Core.Bool.{Bool, true, false}
use mathlib.Core.List.{List, [], ◌∷◌, ◌++◌, append_assoc, reverse}
use Prim.Native.Nat.{ℕ, zero, suc, ◌-◌, ◌≤◌, ◌<◌}
use native.Mathlib.Omega.{arith}
use native.Mathlib.Decide.{dec_le}
use lib.ListN.{length, get_or}
use lib.Dec.{eqb, ltb, leb}
use borrow.Author.Tests.{eq-eqb, ne_eqb, eqb-true, lt-ltb, le-ltb, ltb-true, le-leb, lt-leb}
use Rattle.lists.specs.Holds.{All, Pairwise}
use Rattle.lists.specs.Filters.{keep, filter, head_or}
use Rattle.lists.specs.Members.{Split}
use Rattle.lists.proofs.Holding.{all_imp, pairwise_before, pairwise_right}
use Rattle.lists.proofs.Filtering.{filter_append, filter_yes, filter_all, filter_none, filter_same, filter_comm}
use Rattle.lists.proofs.Splits.{all_in, in_all, in_split}
use Rattle.lists.proofs.Tallies.{in_filter}
use Rattle.lists.proofs.Reversing.{filter_reverse, head_reverse}
use Rattle.rows.specs.Rows.{places, links}
use Rattle.rows.specs.declared.Direction.{Direction}
use Rattle.rows.specs.declared.Direction.TheVariants.{After, Before}
use Rattle.rows.specs.Columns.{way}
use Rattle.levels.specs.declared.Found as L
use Rattle.levels.specs.Levels.{sentinel, order_of}
use Rattle.levels.specs.Search.{up_to, searched}
use Rattle.levels.specs.Nearest.{present, nearest_of, Lowest, Walkable}
use Rattle.levels.proofs.Orders.{turned, link_at, order_in_lem}
use Rattle.levels.proofs.Nearing.{in_turned, turned_in, nearest_part, walk_on}
use Rattle.levels.proofs.Placing.{search_lowest, nearest_above, nearest_up_to, place_walk_after, place_walk_before}
use Rattle.buckets.specs.Finding.{found, Holds}
use Rattle.buckets.proofs.Finding.{finds}
use Rattle.tables.specs.Tables.{levels_of}
use Rattle.finds.specs.Near.{past, beyond, nodes_beyond, near_of, NearReady}
use Rattle.finds.proofs.Turning.{pairwise_reverse, pairwise_weak, pairwise_passed}

-- ---- keys in a direction

-- a direction is 0 or 1
pub way_most : (d : Direction) → way d ≤ 1
way_most After = omega arith
way_most Before = omega arith

-- b is past a: they differ, and a is not past b
pub past_apart : (d a b : ℕ) → past d a b ≡ true → (eqb a b ≡ false) × (eqb b a ≡ false) × (past d b a ≡ false)
past_apart zero a b h =
    let l = ltb-true a b h in
    (ne_eqb a b (λ e. omega arith), ne_eqb b a (λ e. omega arith), le-ltb b a (omega arith))
past_apart (suc d) a b h =
    let l = ltb-true b a h in
    (ne_eqb a b (λ e. omega arith), ne_eqb b a (λ e. omega arith), le-ltb a b (omega arith))

-- nodes whose keys go one past the other, n among them, with the rank as its key: beyond the rank are those behind n, and n where `at`
module _ (keys : List ℕ) (d : ℕ) (at : Bool) (rank : ℕ) where
  abbrev pub Ahead : ℕ → ℕ → Type 0
  Ahead a b = past d (get_or keys a 0) (get_or keys b 0) ≡ true

  before_rank : (n m : ℕ) → get_or keys n 0 ≡ rank → Ahead m n → beyond d at rank (get_or keys m 0) ≡ false
  before_rank n m e h = let p = past_apart d (get_or keys m 0) rank (rw e at h) in rw (p.0, p.2)

  behind_rank : (n m : ℕ) → get_or keys n 0 ≡ rank → Ahead n m → beyond d at rank (get_or keys m 0) ≡ true
  behind_rank n m e h = let q : past d rank (get_or keys m 0) ≡ true = rw e at h in let p = past_apart d rank (get_or keys m 0) q in rw (p.1, q)

  beyond_parts : (A : List ℕ) (n : ℕ) (B : List ℕ) → Pairwise Ahead (A ++ n ∷ B) → get_or keys n 0 ≡ rank → nodes_beyond keys d at rank (A ++ n ∷ B) ≡ keep at n B
  beyond_parts A n B w e =
      filter_append (λ m. beyond d at rank (get_or keys m 0)) A (n ∷ B)
      ∙ ap₂ {C = List ℕ} ◌++◌
      (filter_none _ A (all_imp (λ m. Ahead m n) (λ m. beyond d at rank (get_or keys m 0) ≡ false) (λ m h. before_rank n m e h) A (pairwise_before Ahead A n B w)))
      (rw (e, eq-eqb rank rank refl)
      (ap {B = List ℕ} (keep at n) (filter_all _ B (all_imp (Ahead n) (λ m. beyond d at rank (get_or keys m 0) ≡ true) (λ m h. behind_rank n m e h) B (pairwise_right Ahead A (n ∷ B) w).0))))

-- ---- the three ways of `near`

module _ (keys rows buckets : List ℕ) (s : NearReady keys rows buckets) (d : ℕ) (u : d ≤ 1) (rank : ℕ) (at : Bool) where
  abbrev cap : ℕ
  cap = length keys

  abbrev o : List ℕ
  o = order_of rows cap

  abbrev nodes : List ℕ
  nodes = filter (present rows) (turned d o)

  abbrev end : ℕ
  end = sentinel cap (1 - d)

  pub lowest : Lowest rows cap
  lowest = search_lowest keys rows cap (levels_of cap) rank s.searchable

  pub near_turned : near_of keys rows cap rank d at ≡ head_or (nodes_beyond keys d at rank nodes) end
  unfolding near_of
  near_turned = ap (λ l. head_or (nodes_beyond keys d at rank (filter (present rows) l)) end) (order_in_lem rows cap lowest d u)

  pub ahead : Pairwise (Ahead keys d at rank) nodes
  ahead = pairwise_passed (Ahead keys d at rank) (present rows) (turned d o) (go d)
    where
      go : (e : ℕ) → Pairwise (λ a b. present rows a ≡ true → present rows b ≡ true → past e (get_or keys a 0) (get_or keys b 0) ≡ true) (turned e o)
      go zero =
          pairwise_weak (λ a b. places rows a ≡ 1 → get_or keys a 0 < get_or keys b 0) _
          (λ a b h p q. lt-ltb (get_or keys a 0) (get_or keys b 0) (h (eqb-true (places rows a) 1 p))) o s.last
      go (suc e) =
          pairwise_weak (λ a b. places rows b ≡ 1 → get_or keys b 0 < get_or keys a 0) _
          (λ a b h p q. lt-ltb (get_or keys b 0) (get_or keys a 0) (h (eqb-true (places rows b) 1 q)))
          (reverse o) (pairwise_reverse (λ a b. places rows a ≡ 1 → get_or keys a 0 < get_or keys b 0) o s.last)

  module _ (n : ℕ) (h : Holds keys rows cap rank n) where
    here : Split n (turned d o)
    here = in_split n (turned d o) (in_turned d n o (s.linked n h.node h.here))

    abbrev A : List ℕ
    A = here.front

    abbrev B : List ℕ
    B = here.back

    parts : nodes ≡ filter (present rows) A ++ n ∷ filter (present rows) B
    parts =
        ap (filter (present rows)) here.whole
        ∙ (filter_append (present rows) A (n ∷ B)
        ∙ ap {B = List ℕ} (λ l. filter (present rows) A ++ l) (filter_yes (present rows) n B (eq-eqb (places rows n) 1 h.here)))

    near_parts : near_of keys rows cap rank d at ≡ head_or (keep at n (filter (present rows) B)) end
    near_parts =
        near_turned
        ∙ ap (λ l. head_or l end)
        (ap (nodes_beyond keys d at rank) parts
        ∙ beyond_parts keys d at rank (filter (present rows) A) n (filter (present rows) B) (rw parts at ahead) h.key)

    -- LAW: a walk may go on from the bucket's node
    pub walk_beside : Walkable rows cap d (links rows 0 d n)
    walk_beside = walk_on rows cap d n (record { lowest = lowest; direction = u; on = inl (s.linked n h.node h.here) }) h.node

    -- LAW: the bucket's node is the nearest, or where its own key is not asked for, the nearest beside it
    pub near_here : at ≡ true → near_of keys rows cap rank d at ≡ n
    near_here e = near_parts ∙ ap (λ b. head_or (keep b n (filter (present rows) B)) end) e

    pub near_beside : at ≡ false → near_of keys rows cap rank d at ≡ nearest_of rows cap d (links rows 0 d n)
    near_beside e =
        near_parts
        ∙ (ap (λ b. head_or (keep b n (filter (present rows) B)) end) e
        ∙ sym
        (ap (nearest_of rows cap d) (link_at rows cap 0 o lowest.run d u n A B here.whole)
        ∙ nearest_part rows cap lowest d u (A ++ n ∷ []) B (here.whole ∙ sym (append_assoc A (n ∷ []) B))))

  -- ---- no present node has the rank
  module _ (none : (n : ℕ) → Holds keys rows cap rank n → ⊥) where
    others : All (λ m. get_or keys m 0 ≢ rank) nodes
    others =
        in_all (λ m. get_or keys m 0 ≢ rank) nodes
        (λ m i e.
        let p = in_filter (present rows) m (turned d o) i in
        none m (record { node = all_in (λ x. x < cap) o lowest.nodes m (turned_in d m o p.0); here = eqb-true (places rows m) 1 p.1; key = e }))

    -- beyond the rank, by a test that is the same for every other key
    near_by : (p : ℕ → Bool) → ((k : ℕ) → k ≢ rank → past d rank k ≡ p k) → near_of keys rows cap rank d at ≡ head_or (filter (present rows) (filter (λ n. p (get_or keys n 0)) (turned d o))) end
    near_by p same =
        near_turned
        ∙ ap (λ l. head_or l end)
        (filter_same (λ n. beyond d at rank (get_or keys n 0)) (λ n. p (get_or keys n 0)) nodes
        (all_imp (λ n. get_or keys n 0 ≢ rank) (λ n. beyond d at rank (get_or keys n 0) ≡ p (get_or keys n 0)) (λ n e. rw (ne_eqb (get_or keys n 0) rank e) (same (get_or keys n 0) e)) nodes others)
        ∙ filter_comm (λ n. p (get_or keys n 0)) (present rows) (turned d o))

-- ---- as the code comes to them

module _ (keys rows buckets : List ℕ) (s : NearReady keys rows buckets) (rank : ℕ) {r : Option ℕ} (f : r ≡ found keys rows buckets (length keys) rank) where
  pub held : {n : ℕ} → r ≡ Some n → Holds keys rows (length keys) rank n
  held e = finds keys rows buckets (length keys) s.hashed rank (sym e ∙ f)

  pub unheld : r ≡ None → (n : ℕ) → Holds keys rows (length keys) rank n → ⊥
  unheld e = finds keys rows buckets (length keys) s.hashed rank (sym e ∙ f)

-- the place that a search found
module _ (keys rows buckets : List ℕ) (s : NearReady keys rows buckets) (rank : ℕ) {levels : ℕ} {place : L.Found} (l : levels ≡ levels_of (length keys)) (f : place ≡ searched keys rows (length keys) levels rank) where
  abbrev all : ℕ
  all = length keys

  pub known : place ≡ searched keys rows all (levels_of all) rank
  known = f ∙ ap (λ h. searched keys rows all h rank) l

  -- LAW: a walk may begin on either side of it
  pub walk_after : Walkable rows all 0 place.place.after
  walk_after = rw known (place_walk_after keys rows all (levels_of all) rank s.searchable)

  pub walk_before : Walkable rows all 1 place.place.before
  walk_before = rw known (place_walk_before keys rows all (levels_of all) rank s.searchable)

  -- LAW: where no present node has the rank, the nearest is that beside the place
  module _ (at : Bool) (none : (n : ℕ) → Holds keys rows all rank n → ⊥) where
    pub near_after : {d : ℕ} → d ≡ 0 → near_of keys rows all rank d at ≡ nearest_of rows all 0 place.place.after
    near_after e =
        ap (λ x. near_of keys rows all rank x at) e
        ∙ (near_by keys rows buckets s 0 (omega arith) rank at none (λ k. ltb rank k) (λ k e. refl)
        ∙ (sym (nearest_above keys rows all (levels_of all) rank s.searchable) ∙ ap (λ p. nearest_of rows all 0 p.place.after) (sym known)))

    pub near_before : {d : ℕ} → d ≡ 1 → near_of keys rows all rank d at ≡ nearest_of rows all 1 place.place.before
    near_before e =
        ap (λ x. near_of keys rows all rank x at) e
        ∙ (near_by keys rows buckets s 1 (omega arith) rank at none (λ k. leb k rank) (λ k e. same k e (dec_le k rank))
        ∙ (ap (λ l. head_or (filter (present rows) l) all) (filter_reverse (λ n. leb (get_or keys n 0) rank) (order_of rows all))
        ∙ (ap (λ l. head_or l all) (filter_reverse (present rows) low)
        ∙ (head_reverse (filter (present rows) low) all
        ∙ (sym (nearest_up_to keys rows all (levels_of all) rank s.searchable) ∙ ap (λ p. nearest_of rows all 1 p.place.before) (sym known))))))
      where
        low : List ℕ
        low = up_to keys rank (order_of rows all)

        same : (k : ℕ) → k ≢ rank → Dec (k ≤ rank) → ltb k rank ≡ leb k rank
        same k e (yes h) = lt-ltb k rank (omega arith) ∙ sym (le-leb k rank h)
        same k e (no h) = le-ltb k rank (omega arith) ∙ sym (lt-leb k rank (omega arith))
