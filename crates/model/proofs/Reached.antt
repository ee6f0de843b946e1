-- The states that calls can produce are well-formed.
-- Assumes nothing.
use mathlib.Core.Path.{◌≡◌, refl, ap, subst}
use mathlib.Core.Bool.{Bool, true, false, true≢false}
use mathlib.Core.List.{List, [], ◌∷◌}
use mathlib.Core.Option.{some}
use Prim.Native.Nat.{ℕ, zero, suc, ◌≤◌, ◌<◌, ◌+◌}
use native.Mathlib.Omega.{arith}
use lib.ListN.{length}
use borrow.Author.Tests.{ne_eqb}
use Rattle.sizes.specs.declared.Size.{Size}
use Rattle.std.specs.Prelude.{Option as Optional, Some, None}
use Rattle.sizes.specs.Sizes.{size_of}
use Rattle.sizes.proofs.Sizing.{size_rule}
use Rattle.lists.specs.Holds.{All, Pairwise}
use Rattle.lists.specs.Filters.{count}
use Rattle.model.specs.Calls.{Call}
use Rattle.model.specs.Model.{Node, is, State, Outcome, apply, next, after, fresh, fresh_of, set_up}
use Rattle.model.specs.WellFormed.{Differ, WellFormed}
use Rattle.model.specs.Demands.{Kept}
use Rattle.model.proofs.Effects.{Effect, refuse, ask, idle, link, depart, hand, begin, advance, finish, clear, effect}
use Rattle.model.proofs.Keep as K

-- ---- well-formed

well_effect : (s : State) → WellFormed s → (c : Call) (o : Outcome) → Effect s c o → WellFormed o.0
well_effect s w c o (refuse c' n x) = w
well_effect s w c o (ask c' xs ps a x) = w
well_effect s w c o (idle d e f) = w
well_effect s w c o (link k v coin i is' e f) = K.well_insert s w k v coin i is' f e
well_effect s w c o (depart k n e) = K.well_remove s w k n.number
well_effect s w c o (hand i r n true e p u) = K.well_free s w i r n.inserted n e p refl u
well_effect s w c o (hand i r n false e p u) = K.well_retire s w i r n.inserted n e p refl u
well_effect s w c o (begin l h a b d) = K.well_open s w l h b
well_effect s w c o (advance v room r e f) = K.well_step s w v room r e
well_effect s w c o (finish v r rs b e f g) = K.well_close s w v r rs e b f
well_effect s w c o (clear i d q e f) = K.well_sweep s w i d q f e

pub well_apply : (s : State) → WellFormed s → (c : Call) → WellFormed (next s c)
well_apply s w c = well_effect s w c (apply s c) (effect s c)

pub well_after : (s : State) → WellFormed s → (cs : List Call) → WellFormed (after s cs)
unfolding after
well_after s w [] = w
well_after s w (c ∷ cs) = well_after (next s c) (well_apply s w c) cs

-- ---- set-up

count_apart : (a n k : ℕ) → a < n → All (Differ a) (count n k)
count_apart a n zero h = tt
count_apart a n (suc k) h = (ne_eqb a n (λ e. omega arith), count_apart a (suc n) k (omega arith))

count_differ : (n k : ℕ) → Pairwise Differ (count n k)
count_differ n zero = tt
count_differ n (suc k) = (count_apart n (suc n) k (omega arith), count_differ (suc n) k)

pub count_length : (n k : ℕ) → length (count n k) ≡ k
count_length n zero = refl
count_length n (suc k) = ap suc (count_length (suc n) k)

count_below : (m n k : ℕ) → n + k ≤ m → All (λ i. i < m) (count n k)
count_below m n zero h = tt
count_below m n (suc k) h = (omega arith, count_below m (suc n) k (omega arith))

none_linked : (xs : List ℕ) → All (λ (i : ℕ). All (λ (n : Node). is i n ≡ false) []) xs
none_linked [] = tt
none_linked (x ∷ xs) = (tt, none_linked xs)

-- every node is free
fresh_below : (capacity levels start : ℕ) → All (λ (i : ℕ). i < capacity) (fresh capacity levels start).free
unfolding fresh
fresh_below capacity levels start = count_below capacity _ capacity (omega arith)

pub well_fresh : (capacity levels start : ℕ) → 1 ≤ levels → WellFormed (fresh capacity levels start)
unfolding fresh
well_fresh capacity levels start h =
    record {
      sorted = tt;
      apart = tt;
      dated = tt;
      tall = tt;
      bounded = tt;
      spare = count_differ 0 capacity;
      unlinked = none_linked (count 0 capacity);
      below = fresh_below capacity levels start;
      full = omega (arith, count_length 0 capacity);
      queued = tt;
      single = tt;
      there = tt;
      whole = refl;
      listed = refl;
      behind = tt;
      rising = tt;
      past = tt;
      rested = tt;
      few = omega arith;
      grown = h;
    }

-- set-up gives a fresh state of the size that the table has
pub record Begun (capacity start : ℕ) (s : State) : Type 0 where
  pub size : Size
  pub asked : size.capacity ≡ capacity
  pub tall : 1 ≤ size.levels
  pub fresh_at : fresh capacity size.levels start ≡ s

pub begun : (capacity start : ℕ) (s : State) → set_up capacity start ≡ some s → Begun capacity start s
unfolding set_up
begun capacity start s e = go (size_of capacity) refl e
  where
    go : (z : Optional Size) → size_of capacity ≡ z → fresh_of start z ≡ some s → Begun capacity start s
    go None f g = let z : ◌≡◌ {A = Bool} true false = cc in absurd (true≢false z)
    go (Some z) f g =
        let r = size_rule capacity z f in
        let h : fresh z.capacity z.levels start ≡ s = cc in
        record { size = z; asked = r.asked; tall = omega (arith, r.rule.low); fresh_at = rw r.asked at h }

pub well_set_up : (capacity start : ℕ) (s : State) → set_up capacity start ≡ some s → WellFormed s
well_set_up capacity start s e =
    let b = begun capacity start s e in
    subst WellFormed b.fresh_at (well_fresh capacity b.size.levels start b.tall)

pub kept : Kept
kept capacity start s e cs = well_after s (well_set_up capacity start s e) cs
