-- What the view shows of a node, and how it changes where one node changes.
-- Assumes nothing.
use mathlib.Core.Path.{◌≡◌, refl, sym, ap, ap₂, fun_ext}
use mathlib.Core.Logic.{◌≢◌}
use mathlib.Core.Bool.{Bool, true, false, not}
use mathlib.Core.List.{List, [], ◌∷◌, ◌++◌, map}
use mathlib.Core.Option.{some}
use Prim.Native.Nat.{ℕ}
use native.Mathlib.Decide.{ℕ_discrete}
use lib.Dec.{eqb}
use lib.IntN.{ℤ}
use borrow.Author.Tests.{eq-eqb, ne_eqb}
use Rattle.lists.specs.Holds.{All}
use Rattle.lists.specs.Filters.{keep, filter, first, without}
use Rattle.lists.specs.Members.{Differ}
use Rattle.rows.specs.Rows.{upd, heights, insertions, removals, places}
use Rattle.rows.proofs.Columns.{upd_same, upd_other}
use Rattle.model.specs.Model as M
use Rattle.tables.specs.Tables.{place_of, node_at}

-- a property of the nodes shown, from one of their numbers
pub all_nodes : (P : M.Node → Type 0) (Q : ℕ → Type 0) (g : ℕ → M.Node) → ((n : ℕ) → Q n → P (g n)) → (o : List ℕ) → All Q o → All P (map g o)
all_nodes P Q g f [] a = tt
all_nodes P Q g f (x ∷ xs) a = (f x a.0, all_nodes P Q g f xs a.1)

module _ (keys : List ℕ) (values : List ℤ) where
  pub is_node : (rows : List ℕ) (i n : ℕ) → M.is i (node_at keys values rows n) ≡ eqb n i
  unfolding node_at
  is_node rows i n = refl

  -- LAW: what the order shows of a node that is not in it, and of one that is
  pub shows_none : (rows : List ℕ) (n : ℕ) (o : List ℕ) → All (Differ n) o → filter (M.is n) (map (node_at keys values rows) o) ≡ []
  shows_none rows n [] a = refl
  shows_none rows n (x ∷ xs) a = rw (is_node rows n x, ne_eqb x n (λ e. a.0 (sym e))) (shows_none rows n xs a.1)

  pub shows : (rows : List ℕ) (n : ℕ) (A B : List ℕ) → first (filter (M.is n) (map (node_at keys values rows) (A ++ n ∷ B))) ≡ some (node_at keys values rows n)
  shows rows n [] B = rw (is_node rows n n, eq-eqb n n refl)
  shows rows n (x ∷ A) B = go (ℕ_discrete x n) (shows rows n A B)
    where
      go : Dec (x ≡ n) → first (filter (M.is n) (map (node_at keys values rows) (A ++ n ∷ B))) ≡ some (node_at keys values rows n)
          → first (filter (M.is n) (map (node_at keys values rows) ((x ∷ A) ++ n ∷ B))) ≡ some (node_at keys values rows n)
      go (yes e) i = rw (is_node rows n x, eq-eqb x n e) (ap (λ y. some (node_at keys values rows y)) e)
      go (no e) i = rw (is_node rows n x, ne_eqb x n e) i

  -- LAW: an order without n shows the nodes without n
  pub shows_without : (rows : List ℕ) (n : ℕ) (o : List ℕ) → map (node_at keys values rows) (without n o) ≡ M.unstitch n (map (node_at keys values rows) o)
  shows_without rows n [] = refl
  shows_without rows n (x ∷ xs) = rw (is_node rows n x) (go (eqb x n) (shows_without rows n xs))
    where
      go : (b : Bool) → map (node_at keys values rows) (without n xs) ≡ M.unstitch n (map (node_at keys values rows) xs)
          → map (node_at keys values rows) (keep (not b) x (without n xs)) ≡ keep (not b) (node_at keys values rows x) (M.unstitch n (map (node_at keys values rows) xs))
      go true e = e
      go false e = ap {B = List M.Node} (λ l. node_at keys values rows x ∷ l) e

-- LAW: rows with the same four fields show the same nodes
pub nodes_same : (keys : List ℕ) (values : List ℤ) (rows rows' : List ℕ) → heights rows' ≡ heights rows → insertions rows' ≡ insertions rows → removals rows' ≡ removals rows → places rows' ≡ places rows
    → node_at keys values rows' ≡ node_at keys values rows
unfolding node_at
nodes_same keys values rows rows' h i r p = fun_ext (λ x. rw (h, i, r, p))

-- rows with another place at n
module _ (keys : List ℕ) (values : List ℤ) (rows rows' : List ℕ) (n p : ℕ) (h : heights rows' ≡ heights rows) (i : insertions rows' ≡ insertions rows) (r : removals rows' ≡ removals rows)
    (e : places rows' ≡ upd (places rows) n p) where
  pub node_kept : (x : ℕ) → x ≢ n → node_at keys values rows' x ≡ node_at keys values rows x
  unfolding node_at
  node_kept x d = rw (h, i, r, e, upd_other (places rows) n p x d)

  -- LAW: the nodes of an order without n
  pub nodes_kept : (o : List ℕ) → All (Differ n) o → map (node_at keys values rows') o ≡ map (node_at keys values rows) o
  nodes_kept [] a = refl
  nodes_kept (x ∷ xs) a = ap₂ {C = List M.Node} (λ a l. a ∷ l) (node_kept x (λ q. a.0 (sym q))) (nodes_kept xs a.1)

  node_moved : node_at keys values rows' n ≡ M.moved (place_of p (removals rows n)) (node_at keys values rows n)
  unfolding node_at
  node_moved = rw (h, i, r, e, upd_same (places rows) n p)

  -- LAW: the nodes of an order, n at another place
  pub nodes_moved : (o : List ℕ) → map (node_at keys values rows') o ≡ M.change (M.is n) (place_of p (removals rows n)) (map (node_at keys values rows) o)
  nodes_moved [] = refl
  nodes_moved (x ∷ xs) = go (ℕ_discrete x n) (nodes_moved xs)
    where
      go : Dec (x ≡ n) → map (node_at keys values rows') xs ≡ M.change (M.is n) (place_of p (removals rows n)) (map (node_at keys values rows) xs)
          → map (node_at keys values rows') (x ∷ xs) ≡ M.change (M.is n) (place_of p (removals rows n)) (map (node_at keys values rows) (x ∷ xs))
      go (yes q) t = rw (is_node keys values rows n x, eq-eqb x n q) (ap₂ {C = List M.Node} (λ a l. a ∷ l) (rw q node_moved) t)
      go (no q) t = rw (is_node keys values rows n x, ne_eqb x n q) (ap₂ {C = List M.Node} (λ a l. a ∷ l) (node_kept x q) t)
