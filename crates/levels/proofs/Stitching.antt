-- The laws that callers cite: the order and the levels of the memory after a node was stitched in, after one was unstitched, and after all were cleared.
-- Assumes nothing.
use mathlib.Core.Path.{◌≡◌, refl, sym, ap, ap₂, ◌∙◌}
use mathlib.Core.Logic.{◌≢◌}
use mathlib.Core.Bool.{not}
use mathlib.Core.List.{List, [], ◌∷◌, ◌++◌}
use Prim.Native.Nat.{ℕ, ◌≤◌, ◌<◌, ◌+◌, ◌-◌, ◌*◌}
use native.Mathlib.Omega.{arith}
use lib.ListN.{length, get_or, set, length-set}
use lib.Seq.{get_or-set_same, get_or-set_other}
use lib.Dec.{ltb, eqb}
use borrow.Author.Tests.{lt-ltb, eq-eqb}
use Rattle.lists.specs.Holds.{All, Pairwise}
use Rattle.lists.specs.Filters.{last_or, head_or, without}
use Rattle.lists.specs.Members.{In, Differ}
use Rattle.lists.proofs.Holding.{all_imp, all_imp₂, all_every, all_left, all_right, all_last, all_head, pairwise_insert, pairwise_before, pairwise_right}
use Rattle.lists.proofs.Filtering.{all_filter, pairwise_filter, filter_comm, filter_same, filter_append, filter_no}
use Rattle.lists.proofs.Splits.{all_in, in_split, split_in, split_filter, without_off}
use Rattle.lists.proofs.Agreeing.{pairwise_imp}
use Rattle.rows.specs.Rows.{upd, links, heights}
use Rattle.rows.proofs.Columns.{upd_same, upd_other}
use Rattle.levels.specs.declared.Pair.{Pair}
use Rattle.levels.specs.Levels.{level, Links, sentinel, order_of, Linked}
use Rattle.levels.specs.Stitch.{pair_at, stitched, unstitched, cleared, Stitchable, Unstitchable}
use Rattle.levels.specs.Search.{up_to, above, around, pair_on, searched, Rising, Searchable}
use Rattle.levels.proofs.Runs.{Skipped}
use Rattle.levels.proofs.Joining.{length_stitched, stitched_field, stitched_level, stitched_link, length_unstitched, unstitched_field, unstitched_level, unstitched_link, cleared_link}
use Rattle.levels.proofs.Nearing.{in_turned}
use Rattle.levels.proofs.Orders.{turned, sentinel_high, turned_all, neighbour, order_kept, linked_kept, linked_of}
use Rattle.levels.proofs.Splicing.{links_insert, links_remove}
use Rattle.levels.proofs.Searching.{split_rank, up_to_le, above_lt, searched_pair}

-- ---- a node stitched in

-- at each level below h, the pair stands on both sides of the place between A and B
pub record Between (height : ℕ → ℕ) (cap : ℕ) (A B : List ℕ) (pairs : List Pair) (h : ℕ) : Type 0 where
  pub last : (l : ℕ) → l < h → (pair_at pairs l).before ≡ last_or cap (level height l A)
  pub first : (l : ℕ) → l < h → (pair_at pairs l).after ≡ head_or (level height l B) (cap + 1)

module _ (rows : List ℕ) (cap levels n : ℕ) (pairs : List Pair) (A B : List ℕ)
    (size : length rows ≡ (cap + 2) * 32) (leveled : 0 < levels) (s : Linked rows cap levels) (whole : order_of rows cap ≡ A ++ B)
    (node : n < cap) (high : (0 < heights rows n) × (heights rows n ≤ levels)) (out : All (Differ n) (order_of rows cap))
    (b : Between (heights rows) cap A B pairs (heights rows n)) where
  out_A : All (Differ n) A
  out_A = all_left (Differ n) A B (rw whole at out)

  out_B : All (Differ n) B
  out_B = all_right (Differ n) A B (rw whole at out)

  last_le : (l : ℕ) → l < heights rows n → (pair_at pairs l).before ≤ cap
  last_le l i =
      rw (b.last l i)
      (all_last (λ m. m ≤ cap) cap (level (heights rows) l A) (omega arith) (all_filter (λ m. m ≤ cap) _ A
      (all_imp (λ m. m < cap) (λ m. m ≤ cap) (λ m h. omega arith) A (all_left (λ m. m < cap) A B (rw whole at s.nodes)))))

  first_le : (l : ℕ) → l < heights rows n → (pair_at pairs l).after ≤ cap + 1
  first_le l i =
      rw (b.first l i)
      (all_head (λ m. m ≤ cap + 1) (level (heights rows) l B) (cap + 1) (all_filter (λ m. m ≤ cap + 1) _ B
      (all_imp (λ m. m < cap) (λ m. m ≤ cap + 1) (λ m h. omega arith) B (all_right (λ m. m < cap) A B (rw whole at s.nodes)))) (omega arith))

  last_not : (l : ℕ) → l < heights rows n → (pair_at pairs l).before ≢ n
  last_not l i = rw (b.last l i) (λ e. all_last (Differ n) cap (level (heights rows) l A) (omega arith) (all_filter (Differ n) _ A out_A) (sym e))

  first_not : (l : ℕ) → l < heights rows n → (pair_at pairs l).after ≢ n
  first_not l i = rw (b.first l i) (λ e. all_head (Differ n) (level (heights rows) l B) (cap + 1) (all_filter (Differ n) _ B out_B) (omega arith) (sym e))

  pub between_stitchable : Stitchable rows n pairs (heights rows n)
  between_stitchable =
      record {
        few = omega (arith, s.few);
        here = omega arith;
        near = λ l i. (omega (arith, last_le l i), omega (arith, first_le l i));
      }

  -- LAW: the order has n in between, and the memory is linked again
  pub between_linked : (order_of (stitched rows n pairs (heights rows n)) cap ≡ A ++ n ∷ B) × Linked (stitched rows n pairs (heights rows n)) cap levels
  between_linked =
      linked_of rows' cap levels (A ++ n ∷ B) leveled
      (rw (stitched_field rows n pairs (heights rows n) 0 (omega (arith, s.few)) (omega arith))
      (links_insert (λ l. links rows l 0) (λ l. links rows l 1) (heights rows) cap levels A n B (rw whole at s) node high (rw whole at out)
      (λ l. links rows' l 0) (λ l. links rows' l 1)
      (λ l i. (
        rw (b.last l i, b.first l i) at (stitched_link rows n pairs (heights rows n) between_stitchable l 0 i (omega arith) (last_not l i) (first_not l i)),
        rw (b.last l i, b.first l i) at (stitched_link rows n pairs (heights rows n) between_stitchable l 1 i (omega arith) (last_not l i) (first_not l i)),
      ))
      (λ l i v. (stitched_level rows n pairs (heights rows n) l 0 i v (omega arith), stitched_level rows n pairs (heights rows n) l 1 i v (omega arith)))))
    where
      rows' : List ℕ
      rows' = stitched rows n pairs (heights rows n)

-- a search found the place, the node's height was stored, and perhaps other fields, and n is stitched in there
module _ (keys rows rows₁ : List ℕ) (cap levels rank n h : ℕ)
    (s : Searchable keys rows cap levels)
    (same : (l d : ℕ) → l < 12 → d ≤ 1 → links rows₁ l d ≡ links rows l d) (tall : heights rows₁ ≡ upd (heights rows) n h) (long : length rows₁ ≡ length rows)
    (node : n < cap) (high : (0 < h) × (h ≤ levels)) (out : All (Differ n) (order_of rows cap)) where
  abbrev pairs : List Pair
  pairs = (searched keys rows cap levels rank).pairs

  abbrev low : List ℕ
  low = up_to keys rank (order_of rows cap)

  abbrev up : List ℕ
  up = above keys rank (order_of rows cap)

  split : order_of rows cap ≡ low ++ up
  split = split_rank keys rank (order_of rows cap) s.rising

  agree : (m : ℕ) → Differ n m → heights rows₁ m ≡ heights rows m
  agree m d = rw tall (upd_other (heights rows) n h m (λ e. d (sym e)))

  own : heights rows₁ n ≡ h
  own = rw tall (upd_same (heights rows) n h)

  linked₁ : Linked rows₁ cap levels
  linked₁ = linked_kept rows rows₁ cap same levels (all_imp (Differ n) (λ m. heights rows₁ m ≡ heights rows m) agree (order_of rows cap) out) s.linked

  order₁ : order_of rows₁ cap ≡ order_of rows cap
  order₁ = order_kept rows rows₁ cap same

  level_same : (l : ℕ) (xs : List ℕ) → All (Differ n) xs → level (heights rows) l xs ≡ level (heights rows₁) l xs
  level_same l xs a = filter_same (λ m. ltb l (heights rows m)) (λ m. ltb l (heights rows₁ m)) xs (all_imp (Differ n) (λ m. ltb l (heights rows m) ≡ ltb l (heights rows₁ m)) (λ m d. ap (ltb l) (sym (agree m d))) xs a)

  pair_of : (l : ℕ) → l < h → pair_at pairs l ≡ around keys cap rank (level (heights rows) l (order_of rows cap))
  unfolding pair_on
  pair_of l i = searched_pair keys rows cap levels rank s l (omega (arith, s.linked.few)) ∙ rw (lt-ltb l levels (omega arith))

  between₁ : Between (heights rows₁) cap low up pairs (heights rows₁ n)
  between₁ =
      rw own
      (record {
        last =
            λ l i.
            ap (λ (p : Pair). p.before) (pair_of l i)
            ∙ ap (last_or cap) (filter_comm _ _ (order_of rows cap) ∙ level_same l low (all_filter (Differ n) _ (order_of rows cap) out));
        first =
            λ l i.
            ap (λ (p : Pair). p.after) (pair_of l i)
            ∙ ap (λ r. head_or r (cap + 1)) (filter_comm _ _ (order_of rows cap) ∙ level_same l up (all_filter (Differ n) _ (order_of rows cap) out));
      })

  size₁ : length rows₁ ≡ (cap + 2) * 32
  size₁ = long ∙ s.size

  -- LAW: stitch may be called
  pub stitch_ready : Stitchable rows₁ n pairs h
  stitch_ready = rw own at (between_stitchable rows₁ cap levels n pairs low up size₁ s.leveled linked₁ (order₁ ∙ split) node (rw own high) (rw order₁ out) between₁)

  inserted : (order_of (stitched rows₁ n pairs h) cap ≡ low ++ n ∷ up) × Linked (stitched rows₁ n pairs h) cap levels
  inserted = rw own at (between_linked rows₁ cap levels n pairs low up size₁ s.leveled linked₁ (order₁ ∙ split) node (rw own high) (rw order₁ out) between₁)

  -- LAW: the order is the old one with n after every node with a key up to the rank
  pub stitch_order : order_of (stitched rows₁ n pairs h) cap ≡ up_to keys rank (order_of rows cap) ++ n ∷ above keys rank (order_of rows cap)
  stitch_order = inserted.0

  -- LAW: it is linked again
  pub stitch_linked : Linked (stitched rows₁ n pairs h) cap levels
  stitch_linked = inserted.1

  -- LAW: with the rank stored as the key of n, keys never fall
  pub stitch_rising : Rising (set keys n rank) (order_of (stitched rows₁ n pairs h) cap)
  stitch_rising =
      rw stitch_order
      (pairwise_insert (λ a b. key' a ≤ key' b) low n up
      (all_imp₂ (Differ n) (λ m. get_or keys m 0 ≤ rank) (λ m. key' m ≤ key' n) (λ m d i. rw (key_own, key_other m d) i) low (all_filter (Differ n) _ (order_of rows cap) out) (up_to_le keys rank (order_of rows cap)))
      (all_imp₂ (Differ n) (λ m. rank < get_or keys m 0) (λ m. key' n ≤ key' m) (λ m d i. rw (key_own, key_other m d) (omega arith)) up (all_filter (Differ n) _ (order_of rows cap) out) (above_lt keys rank (order_of rows cap)))
      (rw split at (pairwise_imp (Differ n) (λ a b. get_or keys a 0 ≤ get_or keys b 0) (λ a b. key' a ≤ key' b) (λ a b d e i. rw (key_other a d, key_other b e) i) (order_of rows cap) out s.rising)))
    where
      key' : ℕ → ℕ
      key' m = get_or (set keys n rank) m 0

      key_own : get_or (set keys n rank) n 0 ≡ rank
      key_own = get_or-set_same keys n rank 0 (omega (arith, s.keyed))

      key_other : (m : ℕ) → Differ n m → get_or (set keys n rank) m 0 ≡ get_or keys m 0
      key_other m d = get_or-set_other keys n m rank 0 (λ e. d (sym e))

  pub stitch_searchable : Searchable (set keys n rank) (stitched rows₁ n pairs h) cap levels
  stitch_searchable =
      record {
        size = length_stitched rows₁ n pairs h ∙ size₁;
        keyed = length-set keys n rank ∙ s.keyed;
        leveled = s.leveled;
        linked = stitch_linked;
        rising = stitch_rising;
      }

-- ---- a node unstitched

-- a node taken out of a list whose members differ
without_at : (A : List ℕ) (n : ℕ) (B : List ℕ) → Pairwise Differ (A ++ n ∷ B) → without n (A ++ n ∷ B) ≡ A ++ B
without_at A n B d =
    filter_append (λ m. not (eqb m n)) A (n ∷ B)
    ∙ ap₂ {C = List ℕ} ◌++◌
    (without_off n A (all_imp (λ m. Differ m n) (Differ n) (λ m e q. e (sym q)) A (pairwise_before Differ A n B d)))
    (filter_no (λ m. not (eqb m n)) n B (ap not (eq-eqb n n refl)) ∙ without_off n B (pairwise_right Differ A (n ∷ B) d).0)

module _ (rows : List ℕ) (cap levels n : ℕ) (size : length rows ≡ (cap + 2) * 32) (leveled : 0 < levels) (s : Linked rows cap levels) (i : In n (order_of rows cap)) where
  abbrev h : ℕ
  h = heights rows n

  reach : (0 < h) × (h ≤ levels)
  reach = all_in (λ m. (0 < heights rows m) × (heights rows m ≤ levels)) (order_of rows cap) s.tall n i

  node' : n < cap
  node' = all_in (λ m. m < cap) (order_of rows cap) s.nodes n i

  near : (l d : ℕ) → l < h → d ≤ 1 → links rows l d n ≤ cap + 1
  near l d j u =
      let p = in_split n (turned d (level (heights rows) l (order_of rows cap)))
      (in_turned d n (level (heights rows) l (order_of rows cap)) (split_in n (level (heights rows) l (order_of rows cap)) (split_filter n (λ m. ltb l (heights rows m)) (order_of rows cap) (lt-ltb l h j) (in_split n (order_of rows cap) i)))) in
      let f = neighbour rows cap levels s l d n (omega (arith, reach)) u p.front p.back p.whole in
      let low = (all_right (λ m. m ≤ cap + 1) p.front (n ∷ p.back) (rw p.whole at (turned_all (λ m. m ≤ cap + 1) d (level (heights rows) l (order_of rows cap)) (all_filter (λ m. m ≤ cap + 1) _ (order_of rows cap) (all_imp (λ m. m < cap) (λ m. m ≤ cap + 1) (λ m k. omega arith) (order_of rows cap) s.nodes))))).1 in
      rw f (all_head (λ m. m ≤ cap + 1) p.back (sentinel cap (1 - d)) low (sentinel_high cap (1 - d)).1)

  -- LAW: unstitch may be called
  pub unstitch_ready : Unstitchable rows n h
  unstitch_ready = record { few = omega (arith, s.few, reach); here = omega (arith, node'); near = λ l d j u. omega (arith, near l d j u) }

  skipped : (l d : ℕ) → l < h → d ≤ 1 → Skipped (links rows l d) (links (unstitched rows n h) l d) (links rows l (1 - d) n) (links rows l d n)
  skipped l d j u =
      rw (unstitched_link rows n h unstitch_ready l d j u)
      (record {
        from_p = upd_same (links rows l d) (links rows l (1 - d) n) (links rows l d n);
        others = λ m e. upd_other (links rows l d) (links rows l (1 - d) n) (links rows l d n) m e;
      })

  removed : (order_of (unstitched rows n h) cap ≡ without n (order_of rows cap)) × Linked (unstitched rows n h) cap levels
  removed =
      let p = in_split n (order_of rows cap) i in
      let t : Links (λ l. links rows l 0) (λ l. links rows l 1) (heights rows) cap levels (p.front ++ n ∷ p.back) = rw p.whole at s in
      let e : without n (order_of rows cap) ≡ p.front ++ p.back = ap (without n) p.whole ∙ without_at p.front n p.back t.distinct in
      linked_of (unstitched rows n h) cap levels (without n (order_of rows cap)) leveled
      (rw (unstitched_field rows n h 0 (omega (arith, s.few, reach)) (omega arith), e)
      (links_remove (λ l. links rows l 0) (λ l. links rows l 1) (heights rows) cap levels p.front n p.back t
      (λ l. links (unstitched rows n h) l 0) (λ l. links (unstitched rows n h) l 1)
      (λ l j. (skipped l 0 j (omega arith), skipped l 1 j (omega arith)))
      (λ l j v. (unstitched_level rows n h l 0 j v (omega arith), unstitched_level rows n h l 1 j v (omega arith)))))

  -- LAW: the order is the old one without n
  pub unstitch_order : order_of (unstitched rows n h) cap ≡ without n (order_of rows cap)
  unstitch_order = removed.0

  -- LAW: it is linked again
  pub unstitch_linked : Linked (unstitched rows n h) cap levels
  unstitch_linked = removed.1

-- LAW: it can be searched again
pub unstitch_searchable : (keys rows : List ℕ) (cap levels n : ℕ) → Searchable keys rows cap levels → In n (order_of rows cap) → Searchable keys (unstitched rows n (heights rows n)) cap levels
unstitch_searchable keys rows cap levels n s i =
    record {
      size = length_unstitched rows n (heights rows n) ∙ s.size;
      keyed = s.keyed;
      leveled = s.leveled;
      linked = unstitch_linked rows cap levels n s.size s.leveled s.linked i;
      rising =
          rw (unstitch_order rows cap levels n s.size s.leveled s.linked i)
          (pairwise_filter (λ a b. get_or keys a 0 ≤ get_or keys b 0) _ (order_of rows cap) s.rising);
    }

-- ---- empty levels

-- LAW: cleared levels hold the empty order
pub clear_linked : (rows : List ℕ) (cap levels : ℕ) → length rows ≡ (cap + 2) * 32 → 0 < levels → levels ≤ 12 → (order_of (cleared rows cap levels) cap ≡ []) × Linked (cleared rows cap levels) cap levels
clear_linked rows cap levels size leveled few =
    linked_of (cleared rows cap levels) cap levels [] leveled
    (record {
      few = few;
      nodes = tt;
      tall = tt;
      distinct = tt;
      chains = λ l i. (cleared_link rows cap size levels l 0 few i (omega arith), cleared_link rows cap size levels l 1 few i (omega arith), tt);
    })

-- ---- other fields changed

-- LAW: where the links, the heights and the length are the same, a search may be made again, for other keys too that never fall
pub searchable_kept : (keys keys' rows rows' : List ℕ) (cap levels : ℕ) → ((l d : ℕ) → l < 12 → d ≤ 1 → links rows' l d ≡ links rows l d) → heights rows' ≡ heights rows
    → length rows' ≡ length rows → length keys' ≡ length keys → All (λ m. get_or keys' m 0 ≡ get_or keys m 0) (order_of rows cap) → Searchable keys rows cap levels → Searchable keys' rows' cap levels
searchable_kept keys keys' rows rows' cap levels same tall long wide keyed s =
    record {
      size = long ∙ s.size;
      keyed = wide ∙ s.keyed;
      leveled = s.leveled;
      linked = linked_kept rows rows' cap same levels (all_every (λ m. heights rows' m ≡ heights rows m) (λ m. ap (λ g. g m) tall) (order_of rows cap)) s.linked;
      rising =
          rw (order_kept rows rows' cap same)
          (pairwise_imp (λ m. get_or keys' m 0 ≡ get_or keys m 0) (λ a b. get_or keys a 0 ≤ get_or keys b 0) (λ a b. get_or keys' a 0 ≤ get_or keys' b 0) (λ a b e f r. rw (e, f) r) (order_of rows cap) keyed s.rising);
    }
