-- An order of nodes that are not free, which with the free ones is as many as there are, has them all.
-- Assumes nothing.
use Prim.Native.Nat.{ℕ, ◌+◌, ◌<◌}
use mathlib.Core.Path.{◌≡◌, sym, ◌∙◌}
use mathlib.Core.Logic.{◌≢◌, ◌⊎◌, ⊎_elim}
use mathlib.Core.List.{List, ◌++◌}
use native.Mathlib.Omega.{arith}
use lib.ListN.{length, length-append}
use lib.Dec.{eqb}
use borrow.Author.Tests.{eq-eqb, eqb-true}
use Rattle.lists.specs.Holds.{All}
use Rattle.lists.specs.Filters.{filter}
use Rattle.lists.specs.Members.{In, Distinct}
use Rattle.lists.proofs.Pigeons.{covers, fills, in_append, distinct_append}
use Rattle.lists.proofs.Splits.{all_in}
use Rattle.lists.proofs.Tallies.{in_filter, filter_in, distinct_filter, same_members}
use Rattle.rows.specs.Rows.{places}
use Rattle.places.specs.Places.{present_count, free_of, ring_of, Places, nodes_in, Counted}
use Rattle.places.proofs.Members.{in_free, free_distinct, in_ring, ring_distinct}
use Rattle.places.proofs.Counting.{in_nodes, nodes_in_lem, nodes_distinct}

-- the nodes of the order are different ones that are not free, and with the free ones they are cap
pub record Filled (rows : List ℕ) (cap : ℕ) (order : List ℕ) : Type 0 where
  pub nodes : All (λ n. n < cap) order
  pub differ : Distinct order
  pub used : All (λ n. places rows n ≢ 0) order
  pub full : length order + length (free_of rows cap) ≡ cap

module _ (rows : List ℕ) (cap : ℕ) (order : List ℕ) (P : Places rows cap) (F : Filled rows cap order) where
  unfree : (n : ℕ) → In n order → places rows n ≢ 0
  unfree = all_in (λ n. places rows n ≢ 0) order F.used

  everywhere : (n : ℕ) → n < cap → In n order ⊎ In n (free_of rows cap)
  everywhere n l =
      in_append n order (free_of rows cap)
      (covers cap (order ++ free_of rows cap)
      (distinct_append order (free_of rows cap) F.differ (free_distinct rows cap P) (λ x i j. unfree x i (in_free rows cap P x j).1))
      (λ x i. ⊎_elim (all_in (λ n. n < cap) order F.nodes x) (λ j. (in_free rows cap P x j).0) (in_append x order (free_of rows cap) i))
      (omega (arith, F.full, length-append order (free_of rows cap))) n l)

  -- LAW: every node that is not free is in the order
  pub covered : (n : ℕ) → n < cap → places rows n ≢ 0 → In n order
  covered n l d = ⊎_elim (λ i. i) (λ i. absurd (d (in_free rows cap P n i).1)) (everywhere n l)

  -- LAW: the nodes whose place is that of a free one are those of the free stack
  pub all_free : (n : ℕ) → n < cap → places rows n ≡ 0 → In n (free_of rows cap)
  all_free n l e = ⊎_elim (λ i. absurd (unfree n i e)) (λ i. i) (everywhere n l)

  -- LAW: the order has as many nodes in another place as there are
  pub order_nodes : (p : ℕ) → p ≢ 0 → length (filter (λ n. eqb (places rows n) p) order) ≡ length (nodes_in (places rows) p cap)
  order_nodes p d =
      same_members (filter (λ n. eqb (places rows n) p) order) (nodes_in (places rows) p cap)
      (distinct_filter (λ n. eqb (places rows n) p) order F.differ) (nodes_distinct (places rows) p cap)
      (λ n i.
      let t = in_filter (λ n. eqb (places rows n) p) n order i in
      nodes_in_lem (places rows) p cap n (all_in (λ n. n < cap) order F.nodes n t.0) (eqb-true (places rows n) p t.1))
      (λ n i.
      let t = in_nodes (places rows) p cap n i in
      filter_in (λ n. eqb (places rows n) p) n order (covered n t.0 (λ e. d (sym t.1 ∙ e))) (eq-eqb (places rows n) p t.1))

  -- LAW: the stored count is that of the present nodes of the order
  pub order_present : Counted rows cap → present_count rows cap ≡ length (filter (λ n. eqb (places rows n) 1) order)
  order_present C = C ∙ sym (order_nodes 1 (omega arith))

-- LAW: where as many nodes are retired as are in the ring, they are those of the ring
pub all_retired : (rows : List ℕ) (cap : ℕ) → Places rows cap → length (nodes_in (places rows) 3 cap) ≡ length (ring_of rows cap)
    → (n : ℕ) → n < cap → places rows n ≡ 3 → In n (ring_of rows cap)
all_retired rows cap P e n l t =
    fills (ring_of rows cap) (nodes_in (places rows) 3 cap) (ring_distinct rows cap P)
    (λ x i. let r = in_ring rows cap P x i in nodes_in_lem (places rows) 3 cap x r.0 r.1) (omega arith) n (nodes_in_lem (places rows) 3 cap n l t)
