-- Laws of the loops that walk one chain, turn by turn.
--     seek_here, seek_more, seek_none    the search for a rank
--     prior_next, prior_more, prior_less, prior_end    the node before another
--     walk_end, walk_more, start_of      the test of a chain
-- Assumes nothing.
use Rattle.std.proofs.Common.{Option, Some, None}
use mathlib.Core.Path.{◌≡◌, refl, sym, ◌∙◌, ap, subst}
use mathlib.Core.Logic.{inl, inr, ⊎_elim}
use mathlib.Core.List.{List, [], ◌∷◌}
use Prim.Native.Nat.{ℕ, suc, ◌-◌, ◌<◌}
use native.Mathlib.Omega.{arith}
use lib.ListN.{length}
use borrow.Author.Tests.{eq-eqb, ne_eqb}
use Rattle.lists.specs.Members.{In}
use Rattle.buckets.specs.Chains.{Chain, chain_from, Ends}
use Rattle.buckets.specs.Finding.{seek}
use Rattle.buckets.specs.Changes.{prior}
use Rattle.buckets.specs.Testing.{Fine, Walks}
use Rattle.buckets.proofs.Chains.{Moved, stands, from_mark, prior_hit, prior_pass}

-- the search, at the node n of a chain
module _ (next : ℕ → ℕ) (cap : ℕ) (key : ℕ → ℕ) (rank : ℕ) where
  pub seek_here : {n : ℕ} → Moved next cap n → key n ≡ rank → Some n ≡ seek key rank (chain_from next cap n)
  seek_here {n} m e = rw (m.now, eq-eqb (key n) rank e)

  pub seek_more : {n : ℕ} → Moved next cap n → (key n ≡ rank → ⊥) → seek key rank (chain_from next cap (next n)) ≡ seek key rank (chain_from next cap n)
  seek_more {n} m h = rw (m.now, ne_eqb (key n) rank h)

  pub seek_none : {n : ℕ} → n ≡ cap → None ≡ seek key rank (chain_from next cap n)
  seek_none e = rw (from_mark next cap e)

-- the node before n: at the node p, which is not n, of a chain that has n behind it
prior_skip : (n a b x : ℕ) (xs : List ℕ) → (x ≡ n → ⊥) → prior n a (x ∷ xs) ≡ prior n b (x ∷ xs)
prior_skip n a b x xs h = prior_pass n a x xs h ∙ sym (prior_pass n b x xs h)

module _ (next : ℕ → ℕ) (cap n : ℕ) where
  pub record Ahead (p : ℕ) : Type 0 where
    pub ends : Ends next cap p
    pub met : In n (chain_from next cap p)
    pub other : p ≡ n → ⊥
    pub node : p < cap

  pub ahead : {p : ℕ} → Ends next cap p → In n (chain_from next cap p) → (p ≡ n → ⊥) → Ahead p
  ahead h i o = record { ends = h; met = i; other = o; node = (stands next cap n h i).node }

  module _ {p : ℕ} (a : Ahead p) where
    abbrev here : Moved next cap p
    here = stands next cap n a.ends a.met

    behind : In n (chain_from next cap (next p))
    behind = ⊎_elim (λ e. absurd (a.other (sym e))) (λ j. j) (subst (λ (l : List ℕ). In n l) here.now a.met)

    abbrev there : Moved next cap (next p)
    there = stands next cap n here.then behind

    prior_two : prior n cap (chain_from next cap p) ≡ prior n p (next p ∷ chain_from next cap (next (next p)))
    prior_two = ap (prior n cap) here.now ∙ (prior_pass n cap p (chain_from next cap (next p)) a.other ∙ ap (prior n p) there.now)

    pub prior_next : (next p ≡ n → ⊥) → Ahead (next p)
    prior_next o = ahead here.then behind o

    pub prior_less : length (chain_from next cap (next p)) < length (chain_from next cap p)
    prior_less = omega (arith, ap (length {A = ℕ}) here.now)

    pub prior_more : (next p ≡ n → ⊥) → prior n cap (chain_from next cap (next p)) ≡ prior n cap (chain_from next cap p)
    prior_more o = ap (prior n cap) there.now ∙ (prior_skip n cap p (next p) (chain_from next cap (next (next p))) o ∙ sym prior_two)

    pub prior_end : next p ≡ n → p ≡ prior n cap (chain_from next cap p)
    prior_end z = sym (prior_two ∙ prior_hit n p (next p) (chain_from next cap (next (next p))) z)

-- the test of a chain
module _ (cap : ℕ) (next : ℕ → ℕ) (Ok : ℕ → Type 0) where
  pub walk_end : {n : ℕ} (rest : ℕ) → n ≡ cap → Walks cap next Ok n rest (Some rest)
  walk_end rest e = ([], (record { line = e; good = λ x i. absurd i }, omega arith))

  -- what a fine chain that is not at the mark starts with
  pub record Start (n : ℕ) (xs : List ℕ) : Type 0 where
    pub node : n < cap
    pub ok : Ok n
    pub some : 0 < length xs
    pub tail : List ℕ
    pub fine : Fine cap next Ok (next n) tail
    pub size : length xs ≡ suc (length tail)

  pub start_of : {n : ℕ} {xs : List ℕ} → Fine cap next Ok n xs → (n ≡ cap → ⊥) → Start n xs
  start_of {xs = []} f h = absurd (h f.line)
  start_of {n} {xs = x ∷ xs} f h =
      let e = f.line.0 in
      record {
        node = let a = f.line.1.0 in omega arith;
        ok = f.good n (inl e);
        some = omega arith;
        tail = xs;
        fine = record { line = subst (λ (z : ℕ). Chain next cap (next z) xs) (sym e) f.line.1.1; good = λ y i. f.good y (inr i) };
        size = refl;
      }

  pub walk_more : (n rest : ℕ) → n < cap → Ok n → 0 < rest → (w : Option ℕ) → Walks cap next Ok (next n) (rest - 1) w → Walks cap next Ok n rest w
  walk_more n rest l ok p (Some k) (xs, (f, e)) = (
    n ∷ xs,
    (
      record { line = (refl, (l, f.line)); good = λ x i. ⊎_elim (λ q. subst Ok (sym q) ok) (λ j. f.good x j) i },
      omega arith,
    ),
  )
  walk_more n rest l ok p None h = λ xs f m. let s = start_of f (λ e. omega arith) in h s.tail s.fine (omega arith)
