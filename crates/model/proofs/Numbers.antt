-- Demand 2, node numbers: a removal answers the node that the last accepted insertion of its key answered.
-- Assumes nothing.
use mathlib.Core.Path.{◌≡◌, refl, sym, ◌∙◌, subst}
use mathlib.Core.Bool.{Bool, true, false, not, cond, false≢true, true≢false, ◌&&◌}
use mathlib.Core.List.{List, [], ◌∷◌}
use Prim.Native.Nat.{ℕ}
use lib.IntN.{ℤ}
use Rattle.lists.specs.Holds.{All}
use Rattle.lists.proofs.Holding.{all_imp}
use Rattle.lists.proofs.Filtering.{all_filter, first_passes, first_all}
use Rattle.model.specs.Keys.{eq_z}
use Rattle.model.specs.Calls.{Call, remove, Answer, accepted, number, node}
use Rattle.model.specs.Model.{pending, retired, Node, is_present, is, holds, State, Outcome, new_node, stitch, apply, next, answer, after, history, fresh}
use Rattle.model.specs.Demands.{inserts, inserted_at, Removes}
use Rattle.model.proofs.Order.{and_left, and_right, eq_z_eq}
use Rattle.model.proofs.Nodes.{Absent, all_stitch, all_change}
use Rattle.model.proofs.Effects.{Effect, refuse, ask, idle, link, depart, hand, begin, advance, finish, clear, effect}
use Rattle.model.proofs.Reached.{begun}
use Rattle.model.proofs.Keep.{absent}

-- the present node of the key, if any, is i
abbrev Owned : ℤ → ℕ → List Node → Type 0
Owned k i ns = All (λ (n : Node). holds k n ≡ true → n.number ≡ i) ns

-- after a call
abbrev owner : ℤ → ℕ → Call → Answer → ℕ
owner k i c a = cond (inserts k c && accepted a) (number 0 a) i

owned : (s : State) (k : ℤ) (i : ℕ) → Owned k i s.order → (c : Call) (o : Outcome) → Effect s c o → Owned k (owner k i c o.1) o.0.order
owned s k i h c o (refuse c' n x) = go (inserts k c')
  where
    go : (b : Bool) → Owned k (cond (b && false) 0 i) s.order
    go true = h
    go false = h
owned s k i h c o (ask c' xs ps a x) = rw a.0 h
owned s k i h c o (idle d e f) = h
owned s k i h c o (link k' v coin j is' e f) = go (eq_z k' k) refl
  where
    n : Node
    n = new_node s j k' v coin

    alone : k' ≡ k → (m : Node) → Absent k' m → holds k m ≡ true → m.number ≡ j
    alone z m a t =
        absurd (true≢false (sym (and_right (is_present m) (eq_z m.key k) t) ∙ subst (λ (y : ℤ). eq_z m.key y ≡ false) z (a (and_left (is_present m) (eq_z m.key k) t))))

    go : (b : Bool) → eq_z k' k ≡ b → Owned k (cond (b && true) j i) (stitch n s.order)
    go true t =
        all_stitch (λ (m : Node). holds k m ≡ true → m.number ≡ j) n s.order (λ u. refl)
        (all_imp (Absent k') (λ (m : Node). holds k m ≡ true → m.number ≡ j) (alone (eq_z_eq k' k t)) s.order (absent k' s.order e))
    go false t = all_stitch (λ (m : Node). holds k m ≡ true → m.number ≡ i) n s.order (λ u. absurd (true≢false (sym u ∙ t))) h
owned s k i h c o (depart k' n e) =
    all_change (λ (m : Node). holds k m ≡ true → m.number ≡ i) (λ (m : Node). holds k m ≡ true → m.number ≡ i) (holds k') (pending s.counter)
    (λ m t g u. absurd (false≢true u)) (λ m t g. g) s.order h
owned s k i h c o (hand j r n true e p u) = all_filter (λ (m : Node). holds k m ≡ true → m.number ≡ i) (λ (m : Node). not (is j m)) s.order h
owned s k i h c o (hand j r n false e p u) =
    all_change (λ (m : Node). holds k m ≡ true → m.number ≡ i) (λ (m : Node). holds k m ≡ true → m.number ≡ i) (is j) (retired r)
    (λ m t g v. absurd (false≢true v)) (λ m t g. g) s.order h
owned s k i h c o (begin l g a b d) = h
owned s k i h c o (advance v room r e f) = h
owned s k i h c o (finish v r rs true e f g) = h
owned s k i h c o (finish v r rs false e f g) = h
owned s k i h c o (clear j d q e f) = all_filter (λ (m : Node). holds k m ≡ true → m.number ≡ i) (λ (m : Node). not (is j m)) s.order h

owned_after : (s : State) (k : ℤ) (i : ℕ) → Owned k i s.order → (cs : List Call) → Owned k (inserted_at k i (history s cs)) (after s cs).order
unfolding after history
owned_after s k i h [] = h
owned_after s k i h (c ∷ cs) = owned_after (next s c) k (owner k i c (answer s c)) (owned s k i h c (apply s c) (effect s c)) cs

owns : (s : State) (k : ℤ) (i j : ℕ) → Owned k j s.order → (o : Outcome) → Effect s (remove k) o → o.1 ≡ node i → j ≡ i
owns s k i j h o (refuse c n x) e = let z : ◌≡◌ {A = Bool} true false = cc in absurd (true≢false z)
owns s k i j h o (ask c xs ps a x) e = absurd (true≢false a.1.0)
owns s k i j h o (depart k' n f) e =
    let z : n.number ≡ i = cc in
    sym (first_all (holds k) (λ (m : Node). holds k m ≡ true → m.number ≡ j) n s.order f h (first_passes (holds k) n s.order f)) ∙ z

pub removes : Removes
unfolding fresh
removes capacity start s u cs k i e =
    let z = (begun capacity start s u).fresh_at in
    let h : Owned k 0 s.order = rw (← z) tt in
    owns (after s cs) k i (inserted_at k 0 (history s cs)) (owned_after s k 0 h cs) (apply (after s cs) (remove k)) (effect (after s cs) (remove k)) e
