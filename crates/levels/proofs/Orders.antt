-- The order that a memory holds: it is one, it is read in both directions, and it stays where the links and the heights of its nodes stay.
-- Assumes nothing.
use mathlib.Core.Path.{◌≡◌, refl, sym, ap, ◌∙◌}
use mathlib.Core.Bool.{true}
use mathlib.Core.List.{List, [], ◌∷◌, ◌++◌, append_assoc, reverse}
use Prim.Native.Nat.{ℕ, zero, suc, ◌+◌, ◌-◌, ◌*◌, ◌≤◌, ◌<◌}
use native.Mathlib.Omega.{arith}
use native.Mathlib.Nat.{not-suc-le-zero}
use lib.ListN.{length, length-append}
use lib.Dec.{ltb}
use borrow.Author.Tests.{lt-ltb, le-ltb}
use Rattle.lists.specs.Holds.{All}
use Rattle.lists.specs.Filters.{last_or, head_or}
use Rattle.lists.proofs.Holding.{all_imp, all_imp₂, all_right}
use Rattle.lists.proofs.Filtering.{filter_all, filter_same, last_append}
use Rattle.lists.proofs.Splits.{pigeon}
use Rattle.lists.proofs.Reversing.{length_reverse, all_reverse}
use Rattle.rows.specs.Rows.{put, link_column, links, heights}
use Rattle.rows.proofs.Columns.{column_other}
use Rattle.levels.specs.Levels.{Run, level, Links, walk, sentinel, onward, order_in, order_of, Linked}
use Rattle.levels.specs.Nearest.{Lowest}
use Rattle.levels.proofs.Runs.{run_right, run_after, run_turn}

-- a walk along a run meets its nodes
pub walk_run : (nx pv : ℕ → ℕ) (cap f a z : ℕ) (xs : List ℕ) → length xs ≤ f → All (λ m. m < cap) xs → cap ≤ z → Run nx pv a (xs ++ z ∷ []) → walk nx cap f (nx a) ≡ xs
unfolding walk
walk_run nx pv cap zero a z [] u w e r = refl
walk_run nx pv cap zero a z (x ∷ xs) u w e r = absurd (not-suc-le-zero u)
walk_run nx pv cap (suc f) a z [] u w e r = rw (r.0, le-ltb z cap e)
walk_run nx pv cap (suc f) a z (x ∷ xs) u w e r =
    rw (r.0, lt-ltb x cap w.0) (ap {B = List ℕ} (λ t. x ∷ t) (walk_run nx pv cap f x z xs (omega arith) w.1 e r.2))

module _ (nx pv : ℕ → ℕ → ℕ) (ht : ℕ → ℕ) (cap lev : ℕ) (o : List ℕ) where
  -- every node stands on the lowest level
  pub level_zero : All (λ n. (0 < ht n) × (ht n ≤ lev)) o → level ht 0 o ≡ o
  level_zero t = filter_all _ o (all_imp (λ n. (0 < ht n) × (ht n ≤ lev)) (λ m. ltb 0 (ht m) ≡ true) (λ m h. lt-ltb _ _ h.0) o t)

  pub lowest_run : 0 < lev → Links nx pv ht cap lev o → Run (nx 0) (pv 0) cap (o ++ (cap + 1) ∷ [])
  lowest_run h s = rw (level_zero s.tall) at (s.chains 0 h)

  -- LAW: the levels hold one order, that of the lowest
  pub order_of_lem : 0 < lev → Links nx pv ht cap lev o → walk (nx 0) cap cap (nx 0 cap) ≡ o
  order_of_lem h s = walk_run (nx 0) (pv 0) cap cap cap (cap + 1) o (pigeon cap o s.nodes s.distinct) s.nodes (omega arith) (lowest_run h s)

  -- the levels of other functions that are the same on the order
  pub links_same : (nx' pv' : ℕ → ℕ → ℕ) (ht' : ℕ → ℕ) → ((l : ℕ) → l < 12 → nx' l ≡ nx l) → ((l : ℕ) → l < 12 → pv' l ≡ pv l) → All (λ m. ht' m ≡ ht m) o
      → Links nx pv ht cap lev o → Links nx' pv' ht' cap lev o
  links_same nx' pv' ht' e f g s =
      record {
        few = s.few;
        nodes = s.nodes;
        tall = all_imp₂ (λ m. ht' m ≡ ht m) (λ m. (0 < ht m) × (ht m ≤ lev)) (λ m. (0 < ht' m) × (ht' m ≤ lev)) (λ m q t. rw q t) o g s.tall;
        distinct = s.distinct;
        chains =
            λ l i.
            rw (
              e l (omega (arith, s.few)),
              f l (omega (arith, s.few)),
              filter_same (λ m. ltb l (ht' m)) (λ m. ltb l (ht m)) o (all_imp (λ m. ht' m ≡ ht m) (λ m. ltb l (ht' m) ≡ ltb l (ht m)) (λ m q. ap (ltb l) q) o g),
            )
            (s.chains l i);
      }

-- LAW: where the links are the same, and the heights of the nodes in the order, so is the order, and the memory is linked again
module _ (rows rows' : List ℕ) (cap : ℕ) (same : (l d : ℕ) → l < 12 → d ≤ 1 → links rows' l d ≡ links rows l d) where
  pub order_kept : order_of rows' cap ≡ order_of rows cap
  order_kept = ap (λ g. walk g cap cap (g cap)) (same 0 0 (omega arith) (omega arith))

  pub linked_kept : (levels : ℕ) → All (λ m. heights rows' m ≡ heights rows m) (order_of rows cap) → Linked rows cap levels → Linked rows' cap levels
  linked_kept levels g s =
      rw order_kept
      (links_same (λ l. links rows l 0) (λ l. links rows l 1) (heights rows) cap levels (order_of rows cap) (λ l. links rows' l 0) (λ l. links rows' l 1) (heights rows')
      (λ l i. same l 0 i (omega arith)) (λ l i. same l 1 i (omega arith)) g s)

-- LAW: a store to a field leaves every link as it was
pub links_put : (rows : List ℕ) (n f v : ℕ) → f < 8 → (l d : ℕ) → l < 12 → d ≤ 1 → links (put rows n f v) l d ≡ links rows l d
links_put rows n f v h l d i u = column_other rows n f v (link_column l d) (omega arith) (omega arith) (omega arith)

-- a memory that holds the levels of an order holds that order
pub linked_of : (rows : List ℕ) (cap levels : ℕ) (o : List ℕ) → 0 < levels → Links (λ l. links rows l 0) (λ l. links rows l 1) (heights rows) cap levels o → (order_of rows cap ≡ o) × Linked rows cap levels
linked_of rows cap levels o h s =
    let e : order_of rows cap ≡ o = order_of_lem (λ l. links rows l 0) (λ l. links rows l 1) (heights rows) cap levels o h s in
    (e, rw e s)

-- LAW: a linked memory can be walked on its lowest level
pub linked_lowest : (rows : List ℕ) (cap levels : ℕ) → length rows ≡ (cap + 2) * 32 → 0 < levels → Linked rows cap levels → Lowest rows cap
linked_lowest rows cap levels size h s =
    record {
      size = size;
      nodes = s.nodes;
      distinct = s.distinct;
      run = lowest_run (λ l. links rows l 0) (λ l. links rows l 1) (heights rows) cap levels (order_of rows cap) h s;
    }

-- ---- in a direction

-- an order as a walk in the direction d meets it
abbrev pub turned : ℕ → List ℕ → List ℕ
turned zero xs = xs
turned (suc d) xs = reverse xs

pub sentinel_high : (cap d : ℕ) → (cap ≤ sentinel cap d) × (sentinel cap d ≤ cap + 1)
sentinel_high cap zero = (omega arith, omega arith)
sentinel_high cap (suc d) = (omega arith, omega arith)

pub turned_all : (P : ℕ → Type 0) (d : ℕ) (xs : List ℕ) → All P xs → All P (turned d xs)
turned_all P zero xs a = a
turned_all P (suc d) xs a = all_reverse P xs a

-- a level that is linked in both directions, from one sentinel to the other
module _ (rows : List ℕ) (cap l : ℕ) (xs : List ℕ) (r : Run (links rows l 0) (links rows l 1) cap (xs ++ (cap + 1) ∷ [])) (d : ℕ) (u : d ≤ 1) where
  pub run_in : Run (links rows l d) (links rows l (1 - d)) (sentinel cap d) (turned d xs ++ sentinel cap (1 - d) ∷ [])
  run_in = go d u
    where
      go : (e : ℕ) → e ≤ 1 → Run (links rows l e) (links rows l (1 - e)) (sentinel cap e) (turned e xs ++ sentinel cap (1 - e) ∷ [])
      go zero v = r
      go (suc zero) v = run_turn (links rows l 0) (links rows l 1) cap xs (cap + 1) r
      go (suc (suc e)) v = absurd (omega arith)

  pub run_part_lem : (A B : List ℕ) → turned d xs ≡ A ++ B → Run (links rows l d) (links rows l (1 - d)) (sentinel cap d) (A ++ (B ++ sentinel cap (1 - d) ∷ []))
  run_part_lem A B e = rw (e, append_assoc A B (sentinel cap (1 - d) ∷ [])) at run_in

  -- LAW: the link from the node before a place, in the direction d, leads to the node after it
  pub link_run : (A B : List ℕ) → turned d xs ≡ A ++ B → links rows l d (last_or (sentinel cap d) A) ≡ head_or B (sentinel cap (1 - d))
  link_run A B e = run_after (links rows l d) (links rows l (1 - d)) (sentinel cap d) A B (sentinel cap (1 - d)) (run_part_lem A B e)

  pub link_at : (n : ℕ) (A B : List ℕ) → turned d xs ≡ A ++ n ∷ B → links rows l d n ≡ head_or B (sentinel cap (1 - d))
  link_at n A B e =
      ap (links rows l d) (sym (last_append (sentinel cap d) A (n ∷ []))) ∙ link_run (A ++ n ∷ []) B (e ∙ sym (append_assoc A (n ∷ []) B))

-- LAW: the neighbour of n on the level l, in the direction d
pub neighbour : (rows : List ℕ) (cap levels : ℕ) → Linked rows cap levels → (l d n : ℕ) → l < levels → d ≤ 1 → (A B : List ℕ)
    → turned d (level (heights rows) l (order_of rows cap)) ≡ A ++ n ∷ B → links rows l d n ≡ head_or B (sentinel cap (1 - d))
neighbour rows cap levels s l d n i u = link_at rows cap l (level (heights rows) l (order_of rows cap)) (s.chains l i) d u n

module _ (rows : List ℕ) (cap : ℕ) (s : Lowest rows cap) where
  turned_length : (d : ℕ) → length (turned d (order_of rows cap)) ≤ cap
  turned_length zero = pigeon cap (order_of rows cap) s.nodes s.distinct
  turned_length (suc d) = omega (arith, length_reverse (order_of rows cap), pigeon cap (order_of rows cap) s.nodes s.distinct)

  module _ (d : ℕ) (u : d ≤ 1) (A B : List ℕ) (e : turned d (order_of rows cap) ≡ A ++ B) where
    -- LAW: the same of the lowest level, which has the whole order
    pub link_part : links rows 0 d (last_or (sentinel cap d) A) ≡ head_or B (sentinel cap (1 - d))
    link_part = link_run rows cap 0 (order_of rows cap) s.run d u A B e

    -- LAW: what lies onward of a place, in the direction d
    pub onward_part : onward rows cap d (head_or B (sentinel cap (1 - d))) ≡ B
    onward_part =
        ap (walk (links rows 0 d) cap cap) (sym link_part)
        ∙ walk_run (links rows 0 d) (links rows 0 (1 - d)) cap cap (last_or (sentinel cap d) A) (sentinel cap (1 - d)) B
        (omega (arith, turned_length d, ap length e, length-append A B))
        (all_right (λ n. n < cap) A B (rw e at (turned_all (λ n. n < cap) d (order_of rows cap) s.nodes)))
        (sentinel_high cap (1 - d)).0
        (run_right (links rows 0 d) (links rows 0 (1 - d)) (sentinel cap d) A (B ++ sentinel cap (1 - d) ∷ []) (run_part_lem rows cap 0 (order_of rows cap) s.run d u A B e))

  -- LAW: the lowest level in a direction is the order, or the order turned round
  pub order_in_lem : (d : ℕ) → d ≤ 1 → order_in rows cap d ≡ turned d (order_of rows cap)
  order_in_lem d u = ap (onward rows cap d) (link_part d u [] (turned d (order_of rows cap)) refl) ∙ onward_part d u [] (turned d (order_of rows cap)) refl
