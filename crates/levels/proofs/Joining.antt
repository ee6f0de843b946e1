-- What linking nodes does to the columns: a change that goes level by level leaves the fields and the other levels as they were.
-- Assumes nothing.
use mathlib.Core.Path.{◌≡◌, refl, sym, ap, ◌∙◌}
use mathlib.Core.Logic.{◌≢◌, ⊎_elim}
use mathlib.Core.List.{List}
use Prim.Native.Nat.{ℕ, zero, suc, ◌+◌, ◌-◌, ◌*◌, ◌<◌, ◌≤◌}
use native.Mathlib.Omega.{arith}
use native.Mathlib.Nat.{eq-or-lt_of_le, le_of_suc-le-suc, not-suc-le-zero}
use lib.ListN.{length}
use Rattle.rows.specs.Rows.{column, put, upd, link_column, links}
use Rattle.rows.proofs.Columns.{upd_same, upd_other, length_put, column_other, column_same}
use Rattle.levels.specs.declared.Pair.{Pair}
use Rattle.levels.specs.Levels.{sentinel, Row}
use Rattle.levels.proofs.Runs.{Inserted}
use Rattle.levels.specs.Stitch.{joined, pair_at, stitched, unstitched, cleared, Stitchable, Unstitchable}

-- of two nodes, the one from which the other is reached in the direction d
abbrev pub side : ℕ → ℕ → ℕ → ℕ
side zero a b = a
side (suc d) a b = b

module _ (rows : List ℕ) (l a b : ℕ) where
  pub length_joined : length (joined rows l a b) ≡ length rows
  unfolding joined
  length_joined = length_put _ b (link_column l 1) a ∙ length_put rows a (link_column l 0) b

  pub joined_other : (f : ℕ) → l < 12 → f < 32 → f ≢ link_column l 0 → f ≢ link_column l 1 → column (joined rows l a b) f ≡ column rows f
  unfolding joined
  joined_other f h i p q =
      column_other (put rows a (link_column l 0) b) b (link_column l 1) a f (omega arith) i (λ e. q (sym e))
      ∙ column_other rows a (link_column l 0) b f (omega arith) i (λ e. p (sym e))

  pub joined_link : (d : ℕ) → l < 12 → d ≤ 1 → Row rows a → Row rows b → links (joined rows l a b) l d ≡ upd (links rows l d) (side d a b) (side d b a)
  unfolding joined
  joined_link zero h u i j =
      column_other (put rows a (link_column l 0) b) b (link_column l 1) a (link_column l 0) (omega arith) (omega arith) (omega arith)
      ∙ column_same rows a (link_column l 0) b (omega arith) i
  joined_link (suc zero) h u i j =
      column_same (put rows a (link_column l 0) b) b (link_column l 1) a (omega arith) (omega (arith, length_put rows a (link_column l 0) b))
      ∙ ap (λ g. upd g b a) (column_other rows a (link_column l 0) b (link_column l 1) (omega arith) (omega arith) (omega arith))
  joined_link (suc (suc d)) h u i j = absurd (omega arith)

-- the memory R h is made from R 0 by changes of the links on the levels below h
pub record Levelwise (R : ℕ → List ℕ) : Type 0 where
  pub long : (l : ℕ) → length (R (suc l)) ≡ length (R l)
  pub other : (l f : ℕ) → l < 12 → f < 32 → f ≢ link_column l 0 → f ≢ link_column l 1 → column (R (suc l)) f ≡ column (R l) f

module _ (R : ℕ → List ℕ) (w : Levelwise R) where
  pub same_length : (h : ℕ) → length (R h) ≡ length (R 0)
  same_length zero = refl
  same_length (suc h) = w.long h ∙ same_length h

  -- a column that is none of the levels' below h
  abbrev Off : ℕ → ℕ → Type 0
  Off h f = (k : ℕ) → k < h → (f ≢ link_column k 0) × (f ≢ link_column k 1)

  off : (h f : ℕ) → h ≤ 12 → f < 32 → Off h f → column (R h) f ≡ column (R 0) f
  off zero f u v o = refl
  off (suc h) f u v o =
      w.other h f (omega arith) v (o h (omega arith)).0 (o h (omega arith)).1 ∙ off h f (omega arith) v (λ k i. o k (omega arith))

  -- LAW: the fields are as they were, and so are the levels from h on
  pub same_field : (h f : ℕ) → h ≤ 12 → f < 8 → column (R h) f ≡ column (R 0) f
  same_field h f u v = off h f u (omega arith) (λ k i. (omega arith, omega arith))

  pub same_level : (h l d : ℕ) → h ≤ l → l < 12 → d ≤ 1 → links (R h) l d ≡ links (R 0) l d
  same_level h l d u v e = off h (link_column l d) (omega arith) (omega arith) (λ k i. (λ q. omega arith, λ q. omega arith))

  -- a level below h is as its own change left it
  pub at_level : (h l d : ℕ) → h ≤ 12 → l < h → d ≤ 1 → links (R h) l d ≡ links (R (suc l)) l d
  at_level zero l d u i e = absurd (not-suc-le-zero i)
  at_level (suc h) l d u i e = ⊎_elim (λ q. rw q) (λ v. below v (at_level h l d (omega arith) v e)) (eq-or-lt_of_le (le_of_suc-le-suc i))
    where
      below : l < h → links (R h) l d ≡ links (R (suc l)) l d → links (R (suc h)) l d ≡ links (R (suc l)) l d
      below v ih = w.other h (link_column l d) (omega arith) (omega arith) (λ q. omega arith) (λ q. omega arith) ∙ ih

-- ---- a node stitched in

inserted : (g : ℕ → ℕ) (p n q d : ℕ) → p ≢ n → q ≢ n → Inserted g (upd (upd g (side d p n) (side d n p)) (side d n q) (side d q n)) (side d p q) n (side d q p)
inserted g p n q zero pn qn =
    record {
      from_p = upd_other (upd g p n) n q p pn ∙ upd_same g p n;
      from_n = upd_same (upd g p n) n q;
      others = λ m a b. upd_other (upd g p n) n q m b ∙ upd_other g p n m a;
    }
inserted g p n q (suc d) pn qn =
    record {
      from_p = upd_same (upd g n p) q n;
      from_n = upd_other (upd g n p) q n n (λ z. qn (sym z)) ∙ upd_same g n p;
      others = λ m a b. upd_other (upd g n p) q n m a ∙ upd_other g n p m b;
    }

-- p is linked before n, and n before q
joined_between : (rows : List ℕ) (l p n q : ℕ) → l < 12 → Row rows p → Row rows n → Row rows q → p ≢ n → q ≢ n → (d : ℕ) → d ≤ 1
    → Inserted (links rows l d) (links (joined (joined rows l p n) l n q) l d) (side d p q) n (side d q p)
joined_between rows l p n q h rp rn rq pn qn d u =
    rw (
      joined_link (joined rows l p n) l n q d h u (omega (arith, length_joined rows l p n)) (omega (arith, length_joined rows l p n)),
      joined_link rows l p n d h u rp rn,
    )
    (inserted (links rows l d) p n q d pn qn)

module _ (rows : List ℕ) (n : ℕ) (pairs : List Pair) where
  pub stitched_levelwise : Levelwise (stitched rows n pairs)
  unfolding stitched
  stitched_levelwise =
      record {
        long = λ l. length_joined _ l n (pair_at pairs l).after ∙ length_joined _ l (pair_at pairs l).before n;
        other = λ l f h i p q. joined_other _ l n (pair_at pairs l).after f h i p q ∙ joined_other _ l (pair_at pairs l).before n f h i p q;
      }

  pub length_stitched : (h : ℕ) → length (stitched rows n pairs h) ≡ length rows
  unfolding stitched
  length_stitched h = same_length (stitched rows n pairs) stitched_levelwise h

  -- LAW: the fields are as they were
  pub stitched_field : (h f : ℕ) → h ≤ 12 → f < 8 → column (stitched rows n pairs h) f ≡ column rows f
  unfolding stitched
  stitched_field = same_field (stitched rows n pairs) stitched_levelwise

  pub stitched_level : (h l d : ℕ) → h ≤ l → l < 12 → d ≤ 1 → links (stitched rows n pairs h) l d ≡ links rows l d
  unfolding stitched
  stitched_level = same_level (stitched rows n pairs) stitched_levelwise

  -- LAW: at each level below h, and in each direction, n stands between its pair
  pub stitched_link : (h : ℕ) → Stitchable rows n pairs h → (l d : ℕ) → l < h → d ≤ 1
      → (pair_at pairs l).before ≢ n → (pair_at pairs l).after ≢ n
      → Inserted (links rows l d) (links (stitched rows n pairs h) l d)
      (side d (pair_at pairs l).before (pair_at pairs l).after) n (side d (pair_at pairs l).after (pair_at pairs l).before)
  unfolding stitched
  stitched_link h s l d i u pn qn =
      rw (at_level (stitched rows n pairs) stitched_levelwise h l d s.few i u)
      (rw (stitched_level l l d (omega arith) (omega (arith, s.few)) u) at
      (joined_between (stitched rows n pairs l) l (pair_at pairs l).before n (pair_at pairs l).after (omega (arith, s.few))
      (fits _ (s.near l i).0) (fits n s.here) (fits _ (s.near l i).1) pn qn d u))
    where
      fits : (m : ℕ) → Row rows m → Row (stitched rows n pairs l) m
      fits m r = omega (arith, length_stitched l)

-- ---- a node unstitched

module _ (rows : List ℕ) (n : ℕ) where
  pub unstitched_levelwise : Levelwise (unstitched rows n)
  unfolding unstitched
  unstitched_levelwise =
      record {
        long = λ l. length_joined _ l _ _;
        other = λ l f h i p q. joined_other _ l _ _ f h i p q;
      }

  pub length_unstitched : (h : ℕ) → length (unstitched rows n h) ≡ length rows
  unfolding unstitched
  length_unstitched h = same_length (unstitched rows n) unstitched_levelwise h

  -- LAW: the fields are as they were
  pub unstitched_field : (h f : ℕ) → h ≤ 12 → f < 8 → column (unstitched rows n h) f ≡ column rows f
  unfolding unstitched
  unstitched_field = same_field (unstitched rows n) unstitched_levelwise

  pub unstitched_level : (h l d : ℕ) → h ≤ l → l < 12 → d ≤ 1 → links (unstitched rows n h) l d ≡ links rows l d
  unfolding unstitched
  unstitched_level = same_level (unstitched rows n) unstitched_levelwise

  -- the neighbours of a node on the level l are those at entry, as long as only the levels below l changed
  pub unstitched_here : (l d m : ℕ) → l < 12 → d ≤ 1 → links (unstitched rows n l) l d m ≡ links rows l d m
  unstitched_here l d m i u = ap (λ g. g m) (unstitched_level l l d (omega arith) i u)

  -- LAW: at each level below h, and in each direction, the node before n leads to the node after it
  pub unstitched_link : (h : ℕ) → Unstitchable rows n h → (l d : ℕ) → l < h → d ≤ 1 → links (unstitched rows n h) l d ≡ upd (links rows l d) (links rows l (1 - d) n) (links rows l d n)
  unfolding unstitched
  unstitched_link h s l d i u =
      at_level (unstitched rows n) unstitched_levelwise h l d s.few i u
      ∙ joined_link (unstitched rows n l) l (links rows l 1 n) (links rows l 0 n) d (omega (arith, s.few)) u
      (omega (arith, length_unstitched l, s.near l 1 i (omega arith))) (omega (arith, length_unstitched l, s.near l 0 i (omega arith)))
      ∙ rw (unstitched_level l l d (omega arith) (omega (arith, s.few)) u) (go d u)
    where
      go : (e : ℕ) → e ≤ 1 → upd (links rows l d) (side e (links rows l 1 n) (links rows l 0 n)) (side e (links rows l 0 n) (links rows l 1 n)) ≡ upd (links rows l d) (links rows l (1 - e) n) (links rows l e n)
      go zero v = refl
      go (suc zero) v = refl
      go (suc (suc e)) v = absurd (omega arith)

-- ---- empty levels

module _ (rows : List ℕ) (cap : ℕ) where
  pub cleared_levelwise : Levelwise (cleared rows cap)
  unfolding cleared
  cleared_levelwise =
      record {
        long = λ l. length_joined _ l _ _;
        other = λ l f h i p q. joined_other _ l _ _ f h i p q;
      }

  pub length_cleared : (h : ℕ) → length (cleared rows cap h) ≡ length rows
  unfolding cleared
  length_cleared h = same_length (cleared rows cap) cleared_levelwise h

  -- LAW: the fields are as they were
  pub cleared_field : (h f : ℕ) → h ≤ 12 → f < 8 → column (cleared rows cap h) f ≡ column rows f
  unfolding cleared
  cleared_field = same_field (cleared rows cap) cleared_levelwise

  -- LAW: at each level below h, and in each direction, the one sentinel leads to the other
  pub cleared_link : length rows ≡ (cap + 2) * 32 → (h l d : ℕ) → h ≤ 12 → l < h → d ≤ 1 → links (cleared rows cap h) l d (sentinel cap d) ≡ sentinel cap (1 - d)
  unfolding cleared
  cleared_link size h l d u i v =
      ap (λ g. g (sentinel cap d))
      (at_level (cleared rows cap) cleared_levelwise h l d u i v
      ∙ joined_link (cleared rows cap l) l cap (cap + 1) d (omega arith) v (omega (arith, length_cleared l)) (omega (arith, length_cleared l)))
      ∙ go d v
    where
      go : (e : ℕ) → e ≤ 1 → upd (links (cleared rows cap l) l d) (side e cap (cap + 1)) (side e (cap + 1) cap) (sentinel cap e) ≡ sentinel cap (1 - e)
      go zero w = upd_same (links (cleared rows cap l) l d) cap (cap + 1)
      go (suc zero) w = upd_same (links (cleared rows cap l) l d) (cap + 1) cap
      go (suc (suc e)) w = absurd (omega arith)
