-- What the model asks of the linked nodes, the free nodes and the ring beyond what is tested: it follows from the levels, the places and the counts.
-- Assumes nothing.
use mathlib.Core.Path.{◌≡◌, refl, ap, ◌∙◌}
use mathlib.Core.Logic.{◌≢◌}
use mathlib.Core.Bool.{Bool, true, false, true≢false}
use mathlib.Core.List.{List, [], ◌∷◌, map}
use mathlib.Core.Option.{some}
use Prim.Native.Nat.{ℕ, ◌≤◌, ◌<◌, ◌+◌}
use native.Mathlib.Omega.{arith}
use lib.ListN.{length}
use lib.IntN.{ℤ}
use borrow.Author.Tests.{ne_eqb, eqb-true}
use Rattle.lists.specs.Holds.{All, Pairwise}
use Rattle.lists.specs.Filters.{filter, first, empty}
use Rattle.lists.specs.Members.{In, Distinct, Differ}
use Rattle.lists.proofs.Holding.{all_imp, all_map, pairwise_image}
use Rattle.lists.proofs.Indexing.{pairwise_weak}
use Rattle.lists.proofs.Splits.{in_all, in_split, distinct_differ, differ_distinct}
use Rattle.rows.specs.Rows.{places, heights}
use Rattle.levels.specs.Levels.{order_of, Linked}
use Rattle.places.specs.Places.{Places, free_of, ring_of, free_count}
use Rattle.places.proofs.Lists.{free_length}
use Rattle.places.proofs.Members.{in_free, in_ring, free_distinct, ring_distinct}
use Rattle.places.proofs.Covering.{Filled, covered}
use Rattle.model.specs.Model as M
use Rattle.model.specs.WellFormed.{Apart, Differ as Differs, Tall, At, is_retired, linked}
use Rattle.tables.specs.Tables.{node_at, Used}
use Rattle.tables.proofs.Viewing.{shows}
use Rattle.soundness.proofs.Segments.{InRing}

-- two numbers that differ, as the model tests it
differs : (xs : List ℕ) → Distinct xs → Pairwise Differs xs
differs xs d = pairwise_weak Differ Differs (λ a b e. ne_eqb a b e) xs (distinct_differ xs d)

-- what the model asks beyond what is tested; that the nodes of the ring are linked is `well_there` below
pub record Given (order : List M.Node) (free ring : List ℕ) (cap levels : ℕ) : Type 0 where
  pub apart : Pairwise Apart order
  pub tall : All (Tall levels) order
  pub bounded : All (λ (n : M.Node). n.number < cap) order
  pub spare : Pairwise Differs free
  pub unlinked : All (λ (i : ℕ). All (λ (n : M.Node). M.is i n ≡ false) order) free
  pub below : All (λ (i : ℕ). i < cap) free
  pub queued : All (λ (i : ℕ). At i (λ (n : M.Node). is_retired n ≡ true) order) ring
  pub single : Pairwise Differs ring

module _ (keys : List ℕ) (values : List ℤ) (rows : List ℕ) (cap levels : ℕ) (k : Linked rows cap levels) (P : Places rows cap)
    (u : All (λ n. Used (places rows n)) (order_of rows cap)) where
  abbrev g : ℕ → M.Node
  g = node_at keys values rows

  abbrev o : List ℕ
  o = order_of rows cap

  -- LAW: the levels and the places give it
  pub given : Given (map g o) (free_of rows cap) (ring_of rows cap) cap levels
  unfolding node_at
  given =
      record {
        apart = pairwise_image Apart g o (pairwise_weak Differ (λ a b. Apart (g a) (g b)) (λ a b e. ne_eqb a b e) o k.distinct);
        tall =
            all_map (Tall levels) g o
            (all_imp (λ n. (0 < heights rows n) × (heights rows n ≤ levels)) (λ n. Tall levels (g n)) (λ n h. record { least = h.0; most = h.1 }) o k.tall);
        bounded = all_map (λ (n : M.Node). n.number < cap) g o k.nodes;
        spare = differs (free_of rows cap) (free_distinct rows cap P);
        unlinked =
            in_all (λ (i : ℕ). All (λ (n : M.Node). M.is i n ≡ false) (map g o)) (free_of rows cap)
            (λ i j.
            all_map (λ (n : M.Node). M.is i n ≡ false) g o
            (all_imp (λ n. Used (places rows n)) (λ n. M.is i (g n) ≡ false)
            (λ n h. ne_eqb n i (λ e. let z : places rows n ≡ 0 = rw e (in_free rows cap P i j).1 in omega arith)) o u));
        below = in_all (λ (i : ℕ). i < cap) (free_of rows cap) (λ i j. (in_free rows cap P i j).0);
        queued =
            in_all (λ (i : ℕ). At i (λ (n : M.Node). is_retired n ≡ true) (map g o)) (ring_of rows cap)
            (λ i j.
            all_map (λ (n : M.Node). M.is i n ≡ true → is_retired n ≡ true) g o
            (all_imp (λ n. n < cap) (λ n. M.is i (g n) ≡ true → is_retired (g n) ≡ true)
            (λ n l e. let z : places rows n ≡ 3 = rw (eqb-true n i e) (in_ring rows cap P i j).1 in rw z) o k.nodes));
        single = differs (ring_of rows cap) (ring_distinct rows cap P);
      }

  -- ---- where linked and free nodes are all

  module _ (full : length o + free_count rows cap ≡ cap) where
    pub filled : Filled rows cap o
    filled =
        record {
          nodes = k.nodes;
          differ = differ_distinct o k.distinct;
          used = all_imp (λ n. Used (places rows n)) (λ n. places rows n ≢ 0) (λ n h e. omega arith) o u;
          full = omega (arith, full, free_length rows cap);
        }

    -- LAW: every node that is not free is linked
    pub linked_in_lem : (n : ℕ) → n < cap → places rows n ≢ 0 → In n o
    linked_in_lem = covered rows cap o P filled

    pub ring_in : All (InRing keys values rows cap o) (ring_of rows cap)
    ring_in =
        in_all (InRing keys values rows cap o) (ring_of rows cap)
        (λ i j. let r = in_ring rows cap P i j in record { old = r.1; linked = linked_in_lem i r.0 (λ e. let z = r.1 in omega arith) })

    pub well_there : All (λ (i : ℕ). linked i (map g o)) (ring_of rows cap)
    well_there =
        all_imp (InRing keys values rows cap o) (λ (i : ℕ). linked i (map g o))
        (λ i r.
        let s = in_split i o r.linked in
        has (filter (M.is i) (map g o)) (g i) (ap (λ xs. first (filter (M.is i) (map g xs))) s.whole ∙ shows keys values rows i s.front s.back)) (ring_of rows cap) ring_in
      where
        has : (xs : List M.Node) (x : M.Node) → first xs ≡ some x → empty xs ≡ false
        has [] x e = let z : ◌≡◌ {A = Bool} true false = cc in absurd (true≢false z)
        has (y ∷ xs) x e = refl
