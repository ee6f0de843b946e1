-- What is tested of the cells of a node, and what the model says of the node that they show.
-- Assumes nothing.
use mathlib.Core.Path.{◌≡◌, refl, sym, ap, ◌∙◌}
use mathlib.Core.Logic.{◌≢◌, by_cases}
use mathlib.Core.Bool.{Bool, true, false, cond}
use mathlib.Core.List.{List, [], ◌∷◌, map}
use Prim.Native.Nat.{ℕ, ◌≤◌, ◌<◌}
use native.Mathlib.Omega.{arith}
use native.Mathlib.Decide.{ℕ_discrete}
use lib.ListN.{length, get_or, length-map}
use lib.Dec.{eqb, leb, ltb}
use lib.IntN.{ℤ}
use lib.Signed.{le_z, lt_z}
use borrow.Author.Tests.{eqb-true, eqb-false, ne_eqb, leb-true, le-leb, ltb-true, lt-ltb}
use Rattle.lists.specs.Holds.{All, Pairwise}
use Rattle.lists.specs.Filters.{filter}
use Rattle.lists.proofs.Holding.{all_imp, all_map, pairwise_image}
use Rattle.lists.proofs.Filtering.{filter_same}
use Rattle.lists.proofs.Indexing.{pairwise_weak, map_all, map_pairwise, filter_map}
use Rattle.sizes.specs.Rank.{key_of}
use Rattle.sizes.proofs.Ranking.{keys_leb, keys_ltb}
use Rattle.rows.specs.Rows.{insertions, removals, places}
use Rattle.model.specs.Model as M
use Rattle.model.specs.WellFormed.{Before, Aged, Dated, over, is_retired as retired_in}
use Rattle.model.proofs.Order.{and_left, and_right}
use Rattle.tables.specs.Tables.{place_of, node_at, Used}
use Rattle.tables.proofs.Finding.{here_mark}
use Rattle.soundness.specs.Tested.{Timed, Ordered, Line, is_retired}

-- ---- the place that a mark shows, with the removal version

aged_of : (c p r : ℕ) → (p ≢ 1 → r ≤ c) → Aged c (place_of p r)
aged_of c p r h = go (eqb p 1) refl (eqb p 2)
  where
    go : (a : Bool) → eqb p 1 ≡ a → (b : Bool) → Aged c (cond a M.present (cond b (M.pending r) (M.retired r)))
    go true e b = tt
    go false e true = h (eqb-false p 1 e)
    go false e false = h (eqb-false p 1 e)

of_aged : (c p r : ℕ) → Aged c (place_of p r) → p ≢ 1 → r ≤ c
of_aged c p r h d = go (eqb p 2) (rw (ne_eqb p 1 d) at h)
  where
    go : (b : Bool) → Aged c (cond b (M.pending r) (M.retired r)) → r ≤ c
    go true k = k
    go false k = k

lasts_of : (v p r : ℕ) → (p ≢ 1 → v ≤ r) → M.lasts v (place_of p r) ≡ true
lasts_of v p r h = go (eqb p 1) refl (eqb p 2)
  where
    go : (a : Bool) → eqb p 1 ≡ a → (b : Bool) → M.lasts v (cond a M.present (cond b (M.pending r) (M.retired r))) ≡ true
    go true e b = refl
    go false e true = le-leb v r (h (eqb-false p 1 e))
    go false e false = le-leb v r (h (eqb-false p 1 e))

of_lasts : (v p r : ℕ) → M.lasts v (place_of p r) ≡ true → p ≢ 1 → v ≤ r
of_lasts v p r h d = go (eqb p 2) (rw (ne_eqb p 1 d) at h)
  where
    go : (b : Bool) → M.lasts v (cond b (M.pending r) (M.retired r)) ≡ true → v ≤ r
    go true k = leb-true v r k
    go false k = leb-true v r k

over_mark : (p r : ℕ) → Used p → over (place_of p r) ≡ eqb p 3
over_mark p r u =
    by_cases (ℕ_discrete p 1) (λ e. rw e) (λ d. by_cases (ℕ_discrete p 2) (λ e. rw e) (λ f. let e : p ≡ 3 = omega arith in rw e))

-- a retired node's removal version
pub gone_mark : (v p r : ℕ) → p ≡ 3 → M.lasts v (place_of p r) ≡ leb v r
gone_mark v p r e = rw e

module _ (keys : List ℕ) (values : List ℤ) (rows : List ℕ) where
  abbrev g : ℕ → M.Node
  g = node_at keys values rows

  -- ---- a node

  dated_of : (counter n : ℕ) → Timed rows counter n → Dated counter (g n)
  unfolding node_at
  dated_of counter n t = record { born = t.born; aged = aged_of counter (places rows n) (removals rows n) t.gone }

  timed_of : (counter n : ℕ) → Used (places rows n) → Dated counter (g n) → Timed rows counter n
  unfolding node_at
  timed_of counter n u d = record { used = u; born = d.born; gone = of_aged counter (places rows n) (removals rows n) d.aged }

  -- a range of version v may rest on it
  pub may_rest_lem : (v n : ℕ) → insertions rows n < v → (places rows n ≢ 1 → v ≤ removals rows n) → M.may_rest v (g n) ≡ true
  unfolding node_at
  may_rest_lem v n i r = rw (lt-ltb (insertions rows n) v i) (lasts_of v (places rows n) (removals rows n) r)

  pub may_older : (v n : ℕ) → M.may_rest v (g n) ≡ true → insertions rows n < v
  unfolding node_at
  may_older v n e = ltb-true (insertions rows n) v (and_left (ltb (insertions rows n) v) (M.lasts v (place_of (places rows n) (removals rows n))) e)

  pub may_last : (v n : ℕ) → M.may_rest v (g n) ≡ true → places rows n ≢ 1 → v ≤ removals rows n
  unfolding node_at
  may_last v n e =
      of_lasts v (places rows n) (removals rows n)
      (and_right (ltb (insertions rows n) v) (M.lasts v (place_of (places rows n) (removals rows n))) e)

  -- ---- two nodes

  before_of : (a b : ℕ) → Ordered keys rows a b → Before (g a) (g b)
  unfolding node_at
  before_of a b o = rw (here_mark (places rows a) (removals rows a)) (go (eqb (places rows a) 1) refl)
    where
      go : (c : Bool) → eqb (places rows a) 1 ≡ c
          → cond c (lt_z (key_of (get_or keys a 0)) (key_of (get_or keys b 0))) (le_z (key_of (get_or keys a 0)) (key_of (get_or keys b 0))) ≡ true
      go true e = keys_ltb (get_or keys a 0) (get_or keys b 0) ∙ lt-ltb (get_or keys a 0) (get_or keys b 0) (o.last (eqb-true (places rows a) 1 e))
      go false e = keys_leb (get_or keys a 0) (get_or keys b 0) ∙ le-leb (get_or keys a 0) (get_or keys b 0) o.rises

  ordered_of : (a b : ℕ) → Before (g a) (g b) → Ordered keys rows a b
  unfolding node_at
  ordered_of a b h = go (eqb (places rows a) 1) refl (rw (here_mark (places rows a) (removals rows a)) at h)
    where
      go : (c : Bool) → eqb (places rows a) 1 ≡ c
          → cond c (lt_z (key_of (get_or keys a 0)) (key_of (get_or keys b 0))) (le_z (key_of (get_or keys a 0)) (key_of (get_or keys b 0))) ≡ true → Ordered keys rows a b
      go true e k =
          let l = ltb-true (get_or keys a 0) (get_or keys b 0) (sym (keys_ltb (get_or keys a 0) (get_or keys b 0)) ∙ k) in
          record { rises = omega arith; last = λ q. l }
      go false e k =
          record {
            rises = leb-true (get_or keys a 0) (get_or keys b 0) (sym (keys_leb (get_or keys a 0) (get_or keys b 0)) ∙ k);
            last = λ q. absurd (eqb-false (places rows a) 1 e q);
          }

  -- ---- a line of nodes

  -- LAW: a line of nodes is one that the model takes for sorted and dated
  pub line_sorted : (counter : ℕ) (o : List ℕ) → Line keys rows counter o → Pairwise Before (map g o)
  line_sorted counter o l =
      pairwise_image Before g o (pairwise_weak (Ordered keys rows) (λ a b. Before (g a) (g b)) before_of o l.ordered)

  pub line_dated : (counter : ℕ) (o : List ℕ) → Line keys rows counter o → All (Dated counter) (map g o)
  line_dated counter o l = all_map (Dated counter) g o (all_imp (Timed rows counter) (λ n. Dated counter (g n)) (dated_of counter) o l.timed)

  pub line_of : (counter : ℕ) (o : List ℕ) → All (λ n. Used (places rows n)) o → All (Dated counter) (map g o) → Pairwise Before (map g o) → Line keys rows counter o
  line_of counter o u d s =
      record {
        timed = both o u (map_all g (Dated counter) o d);
        ordered = pairwise_weak (λ a b. Before (g a) (g b)) (Ordered keys rows) ordered_of o (map_pairwise g Before o s);
      }
    where
      both : (xs : List ℕ) → All (λ n. Used (places rows n)) xs → All (λ n. Dated counter (g n)) xs → All (Timed rows counter) xs
      both [] a b = tt
      both (x ∷ xs) a b = (timed_of counter x a.0 b.0, both xs a.1 b.1)

  -- LAW: as many are retired by their marks as the model shows
  pub retired_same : (o : List ℕ) → All (λ n. Used (places rows n)) o → length (filter retired_in (map g o)) ≡ length (filter (is_retired rows) o)
  unfolding node_at
  retired_same o u =
      ap length (filter_map g retired_in o)
      ∙ (length-map (filter (λ n. retired_in (g n)) o) g
      ∙ ap length (filter_same (λ n. retired_in (g n)) (is_retired rows) o (all_imp (λ n. Used (places rows n)) (λ n. retired_in (g n) ≡ is_retired rows n) (λ n p. over_mark (places rows n) (removals rows n) p) o u)))
