-- What the hash table finds is what the view's order has.
-- Assumes nothing.
use Rattle.std.specs.Prelude.{Some, None}
use mathlib.Core.Path.{◌≡◌, refl, sym, ap, ap₂, ◌∙◌, subst}
use mathlib.Core.Logic.{◌≢◌, inl, inr, ⊎_elim}
use mathlib.Core.Bool.{Bool, true, false, cond, ◌&&◌, true≢false}
use mathlib.Core.List.{List, [], ◌∷◌, map}
use mathlib.Core.Option.{none, some}
use Prim.Native.Nat.{ℕ, ◌≤◌, ◌<◌}
use native.Mathlib.Omega.{arith}
use native.Mathlib.Decide.{ℕ_discrete}
use lib.ListN.{get_or}
use lib.Dec.{eqb}
use lib.IntN.{ℤ}
use lib.Signed.{le_z, lt_z}
use mir.Syntax.{w64}
use mir.Val.{SFits}
use borrow.Author.Tests.{eq-eqb, ne_eqb, eqb-true, leb-true, le-leb, le-ltb}
use Rattle.lists.specs.Holds.{All, Pairwise}
use Rattle.lists.specs.Filters.{filter, first}
use Rattle.lists.specs.Members.{In}
use Rattle.lists.proofs.Filtering.{filter_none}
use Rattle.lists.proofs.Splits.{all_in}
use Rattle.sizes.specs.Rank.{rank_of, key_of}
use Rattle.sizes.proofs.Ranking.{key_rank, keys_leb, keys_ltb}
use Rattle.rows.specs.Rows.{places, removals}
use Rattle.levels.specs.Levels.{order_of}
use Rattle.buckets.specs.Finding.{found, Holds}
use Rattle.buckets.proofs.Finding.{finds}
use Rattle.places.proofs.Covering.{covered}
use Rattle.model.specs.Keys.{eq_z}
use Rattle.model.specs.Plain.{get}
use Rattle.model.specs.Model as M
use Rattle.model.specs.WellFormed.{Before}
use Rattle.model.proofs.Order.{eq_z_eq, eq_z_refl}
use Rattle.model.proofs.Effects.{get_shown}
use Rattle.tables.specs.Tables.{Tables, capacity_of, Sound, view, place_of, node_at}
use Rattle.tables.proofs.Viewing.{all_nodes}
use Rattle.tables.proofs.Telling.{sound_filled}

-- LAW: no two ranks have one key
pub keys_eqb : (a b : ℕ) → eq_z (key_of a) (key_of b) ≡ eqb a b
keys_eqb a b = go (ℕ_discrete a b)
  where
    differ : a ≢ b → (c : Bool) → eq_z (key_of a) (key_of b) ≡ c → c ≡ false
    differ d false e = refl
    differ d true e =
        let q : key_of a ≡ key_of b = eq_z_eq (key_of a) (key_of b) e in
        let up : a ≤ b = leb-true a b (sym (keys_leb a b) ∙ (ap (λ z. le_z z (key_of b)) q ∙ (keys_leb b b ∙ le-leb b b (omega arith)))) in
        let down : b ≤ a = leb-true b a (sym (keys_leb b a) ∙ (ap (λ z. le_z (key_of b) z) q ∙ (keys_leb b b ∙ le-leb b b (omega arith)))) in
        absurd (d (omega arith))

    go : Dec (a ≡ b) → eq_z (key_of a) (key_of b) ≡ eqb a b
    go (yes e) = rw (e, eq-eqb b b refl) (eq_z_refl (key_of b))
    go (no d) = rw (ne_eqb a b d) (differ d (eq_z (key_of a) (key_of b)) refl)

-- LAW: a node is shown present exactly by its mark
pub here_mark : (p r : ℕ) → M.here (place_of p r) ≡ eqb p 1
here_mark p r = go (eqb p 1) (eqb p 2)
  where
    go : (a b : Bool) → M.here (cond a M.present (cond b (M.pending r) (M.retired r))) ≡ a
    go true b = refl
    go false true = refl
    go false false = refl

-- the only member with a property that excludes every later one
only : (P : ℕ → Type 0) (R : ℕ → ℕ → Type 0) (o : List ℕ) → Pairwise R o → ((a b : ℕ) → R a b → P a → P b → ⊥) → (a b : ℕ) → In a o → In b o → P a → P b → a ≡ b
only P R [] p x a b i j u v = absurd i
only P R (y ∷ o) p x a b i j u v =
    ⊎_elim
    (λ e. ⊎_elim (λ f. e ∙ sym f) (λ k. absurd (x y b (all_in (R y) o p.0 b k) (subst P e u) v)) j)
    (λ k. ⊎_elim (λ f. absurd (x y a (all_in (R y) o p.0 a k) (subst P f v) u)) (λ l. only P R o p.1 x a b k l u v) j) i

-- the first shown that passes a test, where it is the only one
first_only : (g : ℕ → M.Node) (p : M.Node → Bool) (n : ℕ) (o : List ℕ) → In n o → p (g n) ≡ true → ((m : ℕ) → In m o → p (g m) ≡ true → m ≡ n) → first (filter p (map g o)) ≡ some (g n)
first_only g p n [] i e one = absurd i
first_only g p n (x ∷ o) i e one = go (p (g x)) refl (λ k. first_only g p n o k e (λ m l. one m (inr l)))
  where
    go : (b : Bool) → p (g x) ≡ b → (In n o → first (filter p (map g o)) ≡ some (g n)) → first (filter p (map g (x ∷ o))) ≡ some (g n)
    go true q r = rw q (ap (λ m. some (g m)) (one x (inl refl) q))
    go false q r = rw q (⊎_elim (λ f. absurd (true≢false (sym e ∙ (ap (λ m. p (g m)) f ∙ q)))) r i)

images : (R : M.Node → M.Node → Type 0) (g : ℕ → M.Node) (o : List ℕ) → Pairwise R (map g o) → Pairwise (λ a b. R (g a) (g b)) o
images R g [] p = tt
images R g (x ∷ o) p = (each o p.0, images R g o p.1)
  where
    each : (ys : List ℕ) → All (R (g x)) (map g ys) → All (λ b. R (g x) (g b)) ys
    each [] a = tt
    each (y ∷ ys) a = (a.0, each ys a.1)

module _ (t : Tables) (S : Sound t) (k : ℤ) (f : SFits w64 k) where
  abbrev cap : ℕ
  cap = capacity_of t

  abbrev g : ℕ → M.Node
  g = node_at t.keys t.values t.rows

  abbrev o : List ℕ
  o = order_of t.rows cap

  -- LAW: a node is shown to hold the key exactly by its mark and its rank
  pub holds_node : (x : ℕ) → M.holds k (g x) ≡ (eqb (places t.rows x) 1 && eqb (get_or t.keys x 0) (rank_of k))
  unfolding node_at
  holds_node x =
      ap₂ ◌&&◌ (here_mark (places t.rows x) (removals t.rows x))
      (ap (eq_z (key_of (get_or t.keys x 0))) (sym (key_rank k f)) ∙ keys_eqb (get_or t.keys x 0) (rank_of k))

  holds_both : (x : ℕ) → M.holds k (g x) ≡ true → (places t.rows x ≡ 1) × (get_or t.keys x 0 ≡ rank_of k)
  holds_both x e = go (eqb (places t.rows x) 1) (eqb (get_or t.keys x 0) (rank_of k)) refl refl (sym (holds_node x) ∙ e)
    where
      go : (a b : Bool) → eqb (places t.rows x) 1 ≡ a → eqb (get_or t.keys x 0) (rank_of k) ≡ b → (a && b) ≡ true → (places t.rows x ≡ 1) × (get_or t.keys x 0 ≡ rank_of k)
      go true true p q h = (eqb-true (places t.rows x) 1 p, eqb-true (get_or t.keys x 0) (rank_of k) q)
      go true false p q h = absurd (true≢false (sym h))
      go false b p q h = absurd (true≢false (sym h))

  holding : (x : ℕ) → Holds t.keys t.rows cap (rank_of k) x → M.holds k (g x) ≡ true
  holding x h = holds_node x ∙ rw (h.here, h.key, eq-eqb (rank_of k) (rank_of k) refl)

  linked : (x : ℕ) → Holds t.keys t.rows cap (rank_of k) x → In x o
  linked x h = covered t.rows cap o S.memory.seated (sound_filled t S) x h.node (λ e. let z = h.here in omega arith)

  -- two present nodes have two keys
  apart : (a b : ℕ) → In a o → In b o → M.holds k (g a) ≡ true → M.holds k (g b) ≡ true → a ≡ b
  unfolding view node_at
  apart =
      only (λ x. M.holds k (g x) ≡ true) (λ a b. Before (g a) (g b)) o (images Before g o S.well.sorted)
      (λ a b r u v.
      let p = holds_both a u in
      let q = holds_both b v in
      let z : M.is_present (g a) ≡ true = here_mark (places t.rows a) (removals t.rows a) ∙ rw p.0 in
      let y : lt_z (key_of (get_or t.keys a 0)) (key_of (get_or t.keys b 0)) ≡ true = rw z at r in
      below (get_or t.keys a 0) (get_or t.keys b 0) (p.1 ∙ sym q.1) y)
    where
      below : (a b : ℕ) → a ≡ b → lt_z (key_of a) (key_of b) ≡ true → ⊥
      below a b e h = true≢false (sym h ∙ (keys_ltb a b ∙ rw e (le-ltb b b (omega arith))))

  -- LAW: a node that the buckets find is the node of the key in the order
  pub found_node : (n : ℕ) → found t.keys t.rows t.buckets cap (rank_of k) ≡ Some n
      → Holds t.keys t.rows cap (rank_of k) n × In n o × (first (filter (M.holds k) (map g o)) ≡ some (g n))
  found_node n e =
      let h : Holds t.keys t.rows cap (rank_of k) n = finds t.keys t.rows t.buckets cap S.hashed (rank_of k) (sym e) in
      (h, linked n h, first_only g (M.holds k) n o (linked n h) (holding n h) (λ m i u. apart m n i (linked n h) u (holding n h)))

  -- LAW: where the buckets find nothing, no node of the order holds the key, and the plain map lacks it
  pub found_none : found t.keys t.rows t.buckets cap (rank_of k) ≡ None → filter (M.holds k) (map g o) ≡ []
  found_none e =
      let h : (n : ℕ) → Holds t.keys t.rows cap (rank_of k) n → ⊥ = finds t.keys t.rows t.buckets cap S.hashed (rank_of k) (sym e) in
      filter_none (M.holds k) (map g o)
      (all_nodes (λ x. M.holds k x ≡ false) (λ n. n < cap) g
      (λ n l. go n l (M.holds k (g n)) refl (λ p. h n (record { node = l; here = p.0; key = p.1 }))) o S.memory.linked.nodes)
    where
      go : (n : ℕ) → n < cap → (b : Bool) → M.holds k (g n) ≡ b → ((places t.rows n ≡ 1) × (get_or t.keys n 0 ≡ rank_of k) → ⊥) → b ≡ false
      go n l true q no' = absurd (no' (holds_both n q))
      go n l false q no' = refl

  pub found_get : (n : ℕ) → found t.keys t.rows t.buckets cap (rank_of k) ≡ Some n → get k (M.plain (view t)) ≡ some (M.pair_of (g n))
  unfolding view
  found_get n e = rw (get_shown k (map g o), (found_node n e).2)

  pub lost_get : found t.keys t.rows t.buckets cap (rank_of k) ≡ None → get k (M.plain (view t)) ≡ none
  unfolding view
  lost_get e = rw (get_shown k (map g o), found_none e)
