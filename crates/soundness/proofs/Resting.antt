-- A ticket's rest, by its cell, and where the model says that its range rests.
-- Assumes nothing.
use mathlib.Core.Path.{◌≡◌, refl, sym, ap, ◌∙◌}
use mathlib.Core.Logic.{◌⊎◌, ◌≢◌, inl, inr, ⊎_elim}
use mathlib.Core.Bool.{Bool, true, false, cond, true≢false}
use mathlib.Core.List.{List, [], ◌∷◌, map}
use Prim.Native.Nat.{ℕ, ◌≤◌, ◌<◌}
use native.Mathlib.Omega.{arith}
use lib.ListN.{get_or}
use lib.Dec.{eqb}
use lib.IntN.{ℤ}
use lib.Signed.{le_z}
use borrow.Author.Tests.{eqb-true, eq-eqb, leb-true, le-leb, lt-ltb, le-ltb}
use Rattle.lists.specs.Holds.{All, Pairwise}
use Rattle.lists.specs.Filters.{filter}
use Rattle.lists.specs.Members.{In}
use Rattle.lists.proofs.Holding.{all_imp, all_map}
use Rattle.lists.proofs.Filtering.{all_filter, filter_yes, filter_no}
use Rattle.lists.proofs.Splits.{all_in}
use Rattle.sizes.specs.Rank.{key_of}
use Rattle.sizes.proofs.Ranking.{keys_leb}
use Rattle.rows.specs.Rows.{places}
use Rattle.model.specs.Model as M
use Rattle.model.specs.WellFormed.{Rested}
use Rattle.tables.specs.declared.Ticket.{Ticket}
use Rattle.tables.specs.Tables.{node_at, range_of, Used, Resting}
use Rattle.soundness.specs.Tested.{Ordered, Rests}
use Rattle.soundness.proofs.Shown.{may_rest_lem, may_older, may_last}

-- a rest on the tail is none on a node
tail_on : (n : ℕ) → M.tail ≡ M.on n → ⊥
tail_on n e = let z : ◌≡◌ {A = ℕ} 0 1 = cc in omega arith

module _ (keys : List ℕ) (values : List ℤ) (rows : List ℕ) (low v n : ℕ) where
  abbrev g : ℕ → M.Node
  g = node_at keys values rows

  abbrev Above : M.Stop → Type 0
  Above x = le_z (key_of low) x.1.0 ≡ true

  abbrev stop : M.Node → M.Stop
  stop m = (m.number, M.pair_of m)

  -- what lies ahead of a rest on n, along an order
  abbrev ahead : List ℕ → List M.Stop
  ahead o = M.from (M.on n) (M.stops v (map g o))

  skip : (x : ℕ) (o : List ℕ) → M.may_rest v (g x) ≡ false → ahead (x ∷ o) ≡ ahead o
  skip x o e = ap (λ (ns : List M.Node). M.from (M.on n) (map stop ns)) (filter_no (M.may_rest v) (g x) (map g o) e)

  stand : (x : ℕ) (o : List ℕ) → M.may_rest v (g x) ≡ true → ahead (x ∷ o) ≡ cond (eqb x n) (stop (g x) ∷ M.stops v (map g o)) (ahead o)
  unfolding node_at
  stand x o e = ap (λ (ns : List M.Node). M.from (M.on n) (map stop ns)) (filter_yes (M.may_rest v) (g x) (map g o) e)

  -- ---- from the cells to the model

  -- the key of a stop is not below the bound, and its number
  key_above : (x : ℕ) → low ≤ get_or keys x 0 → Above (stop (g x))
  unfolding node_at
  key_above x l = keys_leb low (get_or keys x 0) ∙ le-leb low (get_or keys x 0) l

  above_key : (x : ℕ) → Above (stop (g x)) → low ≤ get_or keys x 0
  unfolding node_at
  above_key x k = leb-true low (get_or keys x 0) (sym (keys_leb low (get_or keys x 0)) ∙ k)

  stop_at : (x : ℕ) (xs : List M.Stop) → M.rest_at (stop (g x) ∷ xs) ≡ M.on x
  unfolding node_at
  stop_at x xs = refl

  stops_above : (o : List ℕ) → All (λ x. low ≤ get_or keys x 0) o → All Above (M.stops v (map g o))
  stops_above o a =
      all_map Above stop (filter (M.may_rest v) (map g o))
      (all_filter (λ m. Above (stop m)) (M.may_rest v) (map g o)
      (all_map (λ m. Above (stop m)) g o (all_imp (λ x. low ≤ get_or keys x 0) (λ x. Above (stop (g x))) key_above o a)))

  found : (o : List ℕ) → In n o → M.may_rest v (g n) ≡ true → M.rest_at (ahead o) ≡ M.on n
  found [] i m = absurd i
  found (x ∷ o) i m = go (M.may_rest v (g x)) refl (eqb x n) refl i (λ j. found o j m)
    where
      go : (a : Bool) → M.may_rest v (g x) ≡ a → (b : Bool) → eqb x n ≡ b → (n ≡ x) ⊎ In n o → (In n o → M.rest_at (ahead o) ≡ M.on n) → M.rest_at (ahead (x ∷ o)) ≡ M.on n
      go true e true f i h = rw (stand x o e, f) (stop_at x (M.stops v (map g o)) ∙ ap M.on (eqb-true x n f))
      go true e false f i h = rw (stand x o e, f) (h (⊎_elim (λ q. absurd (true≢false (sym (eq-eqb x n (sym q)) ∙ f))) (λ j. j) i))
      go false e b f i h = rw (skip x o e) (h (⊎_elim (λ q. absurd (true≢false (sym m ∙ (ap (λ k. M.may_rest v (g k)) q ∙ e)))) (λ j. j) i))

  above : (o : List ℕ) → Pairwise (Ordered keys rows) o → low ≤ get_or keys n 0 → All Above (ahead o)
  above [] p l = tt
  above (x ∷ o) p l = go (M.may_rest v (g x)) refl (eqb x n) refl (above o p.1 l)
    where
      go : (a : Bool) → M.may_rest v (g x) ≡ a → (b : Bool) → eqb x n ≡ b → All Above (ahead o) → All Above (ahead (x ∷ o))
      go true e true f h =
          let q : low ≤ get_or keys x 0 = rw (eqb-true x n f) l in
          rw (stand x o e, f) (key_above x q, stops_above o (all_imp (Ordered keys rows x) (λ y. low ≤ get_or keys y 0) (λ y r. omega (arith, r.rises)) o p.0))
      go true e false f h = rw (stand x o e, f) h
      go false e b f h = rw (skip x o e) h

  -- ---- and back

  pub record Met (o : List ℕ) : Type 0 where
    pub linked : In n o
    pub may : M.may_rest v (g n) ≡ true
    pub over : low ≤ get_or keys n 0

  met : (o : List ℕ) → M.rest_at (ahead o) ≡ M.on n → All Above (ahead o) → Met o
  met [] e a = absurd (tail_on n e)
  met (x ∷ o) e a = go (M.may_rest v (g x)) refl (eqb x n) refl e a (met o)
    where
      go : (b : Bool) → M.may_rest v (g x) ≡ b → (c : Bool) → eqb x n ≡ c → M.rest_at (ahead (x ∷ o)) ≡ M.on n → All Above (ahead (x ∷ o))
          → (M.rest_at (ahead o) ≡ M.on n → All Above (ahead o) → Met o) → Met (x ∷ o)
      go true e true f r a h =
          let q : x ≡ n = eqb-true x n f in
          let z : All Above (stop (g x) ∷ M.stops v (map g o)) = rw (stand x o e, f) at a in
          record { linked = inl (sym q); may = rw q at e; over = rw q at (above_key x z.0) }
      go true e false f r a h = let w = h (rw (stand x o e, f) at r) (rw (stand x o e, f) at a) in record { linked = inr w.linked; may = w.may; over = w.over }
      go false e c f r a h = let w = h (rw (skip x o e) at r) (rw (skip x o e) at a) in record { linked = inr w.linked; may = w.may; over = w.over }

-- ---- a ticket

module _ (keys : List ℕ) (values : List ℤ) (rows : List ℕ) (cap : ℕ) (o : List ℕ) (t : Ticket) where
  -- LAW: a ticket that rests where it may shows a range that rests there
  pub rests_resting : Rests keys rows cap t → Resting cap t
  rests_resting r = ⊎_elim (λ e. inr e) (λ s. inl s.node) r

  pub rests_rested : Pairwise (Ordered keys rows) o → (t.rest.0 < cap → places rows t.rest.0 ≢ 0 → In t.rest.0 o) → Rests keys rows cap t → Rested (map (node_at keys values rows) o) (range_of cap t)
  unfolding range_of
  rests_rested p i (inl e) = let f = le-ltb t.rest.0 cap (omega arith) in rw f (record { found = refl; above = tt })
  rests_rested p i (inr s) =
      rw (lt-ltb t.rest.0 cap s.node)
      (record {
        found = found keys values rows t.low t.version.0 t.rest.0 o (i s.node s.linked) (may_rest_lem keys values rows t.version.0 t.rest.0 s.older s.lasts);
        above = above keys values rows t.low t.version.0 t.rest.0 o p s.above;
      })

  pub rested_rests : All (λ n. Used (places rows n)) o → Resting cap t → Rested (map (node_at keys values rows) o) (range_of cap t) → Rests keys rows cap t
  unfolding range_of
  rested_rests u (inr e) r = inl e
  rested_rests u (inl l) r =
      let q : Rested (map (node_at keys values rows) o) (record { version = t.version.0; low = key_of t.low; high = key_of t.high; rest = M.on t.rest.0; held = t.held }) = rw (lt-ltb t.rest.0 cap l) at r in
      let m = met keys values rows t.low t.version.0 t.rest.0 o q.found q.above in
      inr
      (record {
        node = l;
        linked = λ e. let z = all_in (λ n. Used (places rows n)) o u t.rest.0 m.linked in omega arith;
        older = may_older keys values rows t.version.0 t.rest.0 m.may;
        lasts = may_last keys values rows t.version.0 t.rest.0 m.may;
        above = m.over;
      })
