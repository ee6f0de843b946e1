-- Rows with the same columns of places, and what the view shows after one node changes. (Laws of the crates places, levels and tables, which lack them.)
-- Assumes nothing.
use mathlib.Core.Path.{◌≡◌, refl, sym, ap₂, ◌∙◌}
use mathlib.Core.Logic.{◌≢◌}
use mathlib.Core.List.{List, [], ◌∷◌, map}
use Prim.Native.Nat.{ℕ}
use native.Mathlib.Decide.{ℕ_discrete}
use lib.ListN.{length}
use borrow.Author.Tests.{eq-eqb, ne_eqb}
use Rattle.lists.specs.Holds.{All}
use Rattle.lists.specs.Members.{Differ}
use Rattle.rows.specs.Rows.{places, seats, frees, rings}
use Rattle.levels.specs.declared.Pair.{Pair}
use Rattle.levels.specs.Levels.{order_of}
use Rattle.levels.specs.Stitch.{Stitchable}
use Rattle.places.specs.Places.{free_of, ring_of, Places, Counted}
use Rattle.model.specs.Model as M
use Rattle.tables.specs.Tables.{Tables, capacity_of, view, node_at}

-- LAW: the places are of four columns alone
pub places_same : (rows rows' : List ℕ) (cap : ℕ) → places rows' ≡ places rows → seats rows' ≡ seats rows → frees rows' ≡ frees rows → rings rows' ≡ rings rows → Places rows cap → Places rows' cap
places_same rows rows' cap p s f r P =
    record {
      spares = rw f P.spares;
      idle = rw (p, s, f) P.idle;
      front = rw r P.front;
      few = rw r P.few;
      gone = rw (p, s, r) P.gone;
    }

pub counted_same : (rows rows' : List ℕ) (cap : ℕ) → places rows' ≡ places rows → frees rows' ≡ frees rows → Counted rows cap → Counted rows' cap
counted_same rows rows' cap p f C = rw (p, f) C

-- LAW: that a node may be stitched in is of the length alone
pub stitchable_same : (rows rows' : List ℕ) (n : ℕ) (pairs : List Pair) (h : ℕ) → length rows' ≡ length rows → Stitchable rows n pairs h → Stitchable rows' n pairs h
stitchable_same rows rows' n pairs h e s = record { few = s.few; here = rw e s.here; near = λ l i. rw e (s.near l i) }

-- LAW: the nodes shown of an order that does not have the one that changed
pub nodes_off : (f g : ℕ → M.Node) (n : ℕ) → ((x : ℕ) → x ≢ n → f x ≡ g x) → (o : List ℕ) → All (Differ n) o → map f o ≡ map g o
nodes_off f g n same [] a = refl
nodes_off f g n same (x ∷ xs) a = ap₂ {C = List M.Node} (λ y l. y ∷ l) (same x (λ e. a.0 (sym e))) (nodes_off f g n same xs a.1)

-- LAW: the nodes shown of an order in which one is at another place
pub nodes_changed : (f g : ℕ → M.Node) (n : ℕ) (p : M.Place) → ((x : ℕ) → (g x).number ≡ x) → ((x : ℕ) → x ≢ n → f x ≡ g x) → f n ≡ M.moved p (g n)
    → (o : List ℕ) → map f o ≡ M.change (M.is n) p (map g o)
nodes_changed f g n p named same here [] = refl
nodes_changed f g n p named same here (x ∷ xs) = go (ℕ_discrete x n) (nodes_changed f g n p named same here xs)
  where
    go : Dec (x ≡ n) → map f xs ≡ M.change (M.is n) p (map g xs) → map f (x ∷ xs) ≡ M.change (M.is n) p (map g (x ∷ xs))
    go (yes q) t = rw (eq-eqb (g x).number n (named x ∙ q)) (ap₂ {C = List M.Node} (λ y l. y ∷ l) (rw q here) t)
    go (no q) t = rw (ne_eqb (g x).number n (λ e. q (sym (named x) ∙ e))) (ap₂ {C = List M.Node} (λ y l. y ∷ l) (same x q) t)

-- LAW: the view of tables in which only the linked and the free nodes are others
pub view_changed : (t t' : Tables) (ns : List M.Node) (free : List ℕ) → capacity_of t' ≡ capacity_of t → t'.tickets ≡ t.tickets → t'.coordinator ≡ t.coordinator
    → map (node_at t'.keys t'.values t'.rows) (order_of t'.rows (capacity_of t)) ≡ ns → free_of t'.rows (capacity_of t) ≡ free
    → ring_of t'.rows (capacity_of t) ≡ ring_of t.rows (capacity_of t) → M.with_order ns (M.with_free free (view t)) ≡ view t'
unfolding view
view_changed t t' ns free c k o n f r = rw (c, k, o, n, f, r)
