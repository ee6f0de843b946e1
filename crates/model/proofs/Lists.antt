-- Demand 2, the lists: the one queue behaves as the document's separate lists.
-- Assumes nothing.
use mathlib.Core.Path.{◌≡◌, refl, sym, ap, ◌∙◌}
use mathlib.Core.Bool.{Bool, true, false, cond, false≢true, true≢false}
use mathlib.Core.List.{List, [], ◌∷◌, ◌++◌}
use Prim.Native.Nat.{ℕ, suc, ◌+◌, ◌≤◌}
use native.Mathlib.Omega.{arith}
use lib.ListN.{length, take, drop, length-take}
use lib.Dec.{leb, ltb}
use lib.IntN.{ℤ}
use borrow.Author.Tests.{leb-false, lt-ltb, le-ltb}
use Rattle.lists.specs.Holds.{Pairwise}
use Rattle.lists.specs.Filters.{filter, first, empty, keep, last, last_or}
use Rattle.lists.proofs.Holding.{all_imp}
use Rattle.lists.proofs.Filtering.{filter_none}
use Rattle.model.specs.Calls.{Call, insert, hand_over, «open», close, sweep, node, handed, opened, made_due}
use Rattle.model.specs.Model.{Place, present, pending, retired, Node, waits, is, Range, State, due_list, range_lists, new_range, unseen, handing, Outcome, rest_after, ahead, left, held_in, apply, answer}
use Rattle.model.specs.WellFormed.{Earlier, WellFormed}
use Rattle.model.specs.Demands.{NoneOf, lists_of, joined, closed, OneQueue}
use Rattle.model.proofs.Queue.{Listed, lists_open, lists_move, lists_close, lists_hand}
use Rattle.model.proofs.Ranges.{unseen_all}
use Rattle.model.proofs.Applied.{hand_goes}
use Rattle.model.proofs.Effects.{Effect, refuse, ask, idle, link, depart, hand, begin, advance, finish, clear, effect}

-- the latest range is no later than the insertion exactly when none is
later_last : (t : ℕ) (r : Range) (rs : List Range) → leb (last_or r rs).version t ≡ false → empty (filter (λ (q : Range). ltb t q.version) (r ∷ rs)) ≡ false
later_last t r [] e = rw (lt-ltb t r.version (leb-false r.version t e))
later_last t r (q ∷ rs) e = go (ltb t r.version) (later_last t q rs e)
  where
    go : (b : Bool) → empty (filter (λ (p : Range). ltb t p.version) (q ∷ rs)) ≡ false → empty (keep b r (filter (λ (p : Range). ltb t p.version) (q ∷ rs))) ≡ false
    go true h = refl
    go false h = h

latest : (t : ℕ) (rs : List Range) → Pairwise Earlier rs → unseen t (last rs) ≡ empty (filter (λ (q : Range). ltb t q.version) rs)
latest t [] a = refl
latest t (r ∷ rs) a = go (unseen t (last (r ∷ rs))) refl
  where
    go : (b : Bool) → unseen t (last (r ∷ rs)) ≡ b → b ≡ empty (filter (λ (q : Range). ltb t q.version) (r ∷ rs))
    go true e =
        sym (ap empty (filter_none (λ (q : Range). ltb t q.version) (r ∷ rs)
        (all_imp (λ (q : Range). q.version ≤ t) (λ (q : Range). ltb t q.version ≡ false) (λ q h. le-ltb t q.version h) (r ∷ rs) (unseen_all t (r ∷ rs) a e))))
    go false e = sym (later_last t r rs e)

module _ (s : State) (w : WellFormed s) where
  rule : (i : ℕ) (n : Node) → filter (is i) s.order ≡ n ∷ [] → waits n.place ≡ true
      → answer s (hand_over i) ≡ handed (cond (empty (filter (λ (r : Range). ltb n.inserted r.version) s.ranges)) 1 0)
  rule i n e f = go n.place refl f
    where
      told : (r : ℕ) (b : Bool) → (handing s i r b).1 ≡ handed (cond b 1 0)
      told r true = refl
      told r false = refl

      go : (p : Place) → n.place ≡ p → waits p ≡ true → answer s (hand_over i) ≡ handed (cond (empty (filter (λ (r : Range). ltb n.inserted r.version) s.ranges)) 1 0)
      go present g h = absurd (false≢true h)
      go (retired r) g h = absurd (false≢true h)
      go (pending r) g h =
          ap (λ (o : Outcome). o.1) (hand_goes s i r n (ap first e) g)
          ∙ told r (unseen n.inserted (last s.ranges))
          ∙ ap (λ (b : Bool). handed (cond b 1 0)) (latest n.inserted s.ranges w.rising)

  taken : (k v : ℤ) (coin i : ℕ) (o : Outcome) → Effect s (insert k v coin) o → o.1 ≡ node i
      → (lists_of o.0 ≡ (drop 1 s.free, due_list s, range_lists s)) × (take 1 s.free ≡ i ∷ [])
  taken k v coin i o (refuse c n x) h = let z : ◌≡◌ {A = ℕ} 0 1 = cc in absurd (omega arith)
  taken k v coin i o (ask c xs ps a x) h = absurd (true≢false a.0)
  taken k v coin i o (link k' v' coin' j is' e f) h = let z : j ≡ i = cc in (rw f, rw (f, z))

  joins : (i : ℕ) (o : Outcome) → Effect s (hand_over i) o → o.1 ≡ handed 0 → lists_of o.0 ≡ (s.free, due_list s, joined i (range_lists s))
  joins i o (refuse c n x) h = let z : ◌≡◌ {A = ℕ} 0 1 = cc in absurd (omega arith)
  joins i o (ask c xs ps a x) h = absurd (true≢false a.1.1.0)
  joins i o (hand i' r n true e p u) h = let z : ◌≡◌ {A = ℕ} 0 1 = cc in absurd (omega arith)
  joins i o (hand i' r n false e p u) h = go s.ranges refl u
    where
      go : (rs : List Range) → s.ranges ≡ rs → unseen n.inserted (last rs) ≡ false → lists_of (handing s i r false).0 ≡ (s.free, due_list s, joined i (range_lists s))
      go [] f v = absurd (true≢false v)
      go (q ∷ rs) f v = let e = lists_hand s w.listed i r q rs f in rw (e.0, e.1)

  frees : (i : ℕ) (o : Outcome) → Effect s (hand_over i) o → o.1 ≡ handed 1 → lists_of o.0 ≡ (i ∷ s.free, due_list s, range_lists s)
  frees i o (refuse c n x) h = let z : ◌≡◌ {A = ℕ} 0 1 = cc in absurd (omega arith)
  frees i o (ask c xs ps a x) h = absurd (true≢false a.1.1.0)
  frees i o (hand i' r n true e p u) h = refl
  frees i o (hand i' r n false e p u) h = let z : ◌≡◌ {A = ℕ} 0 1 = cc in absurd (omega arith)

  opens : (l h : ℤ) (v : ℕ) (o : Outcome) → Effect s («open» l h) o → o.1 ≡ opened v
      → (lists_of o.0 ≡ (s.free, due_list s, range_lists s ++ ((v, []) ∷ []))) × (v ≡ suc s.counter)
  opens l h v o (refuse c n x) e = let z : ◌≡◌ {A = ℕ} 0 1 = cc in absurd (omega arith)
  opens l h v o (ask c xs ps a x) e = absurd (true≢false a.1.1.1.0)
  opens l h v o (begin l' h' a b d) e =
      let z : suc s.counter ≡ v = cc in
      (rw (lists_open (drop s.due s.queue) s.ranges (new_range (suc s.counter) l h s.order) refl, z), sym z)

  closes : (v n : ℕ) (o : Outcome) → Effect s (close v) o → o.1 ≡ made_due n
      → lists_of o.0 ≡ (s.free, (closed v (due_list s) (range_lists s)).0, (closed v (due_list s) (range_lists s)).1)
  closes v n o (refuse c m x) h = let z : ◌≡◌ {A = ℕ} 0 1 = cc in absurd (omega arith)
  closes v n o (ask c xs ps a x) h = absurd (true≢false a.1.1.1.1.1.0)
  closes v n o (finish v' r rs true e f g) h = ap (λ (p : List ℕ × List Listed). (s.free, p.0, p.1)) (lists_close s v r rs e true f)
  closes v n o (finish v' r rs false e f g) h = ap (λ (p : List ℕ × List Listed). (s.free, p.0, p.1)) (lists_close s v r rs e false f)

  grows : (v n : ℕ) (o : Outcome) → Effect s (close v) o → o.1 ≡ made_due n → length (due_list o.0) ≡ length (due_list s) + n
  grows v n o (refuse c m x) h = let z : ◌≡◌ {A = ℕ} 0 1 = cc in omega arith
  grows v n o (ask c xs ps a x) h = absurd (true≢false a.1.1.1.1.1.0)
  grows v n o (finish v' r rs true e f g) h =
      let z : r.held ≡ n = cc in
      omega (arith, length-take (s.due + r.held) s.queue, length-take s.due s.queue, w.listed, ap held_in e)
  grows v n o (finish v' r rs false e f g) h = let z : ◌≡◌ {A = ℕ} 0 n = cc in omega arith

  sweeps : (o : Outcome) → Effect s sweep o → lists_of o.0 ≡ (take 1 (due_list s) ++ s.free, drop 1 (due_list s), range_lists s)
  sweeps o (refuse c n x) = let z : ◌≡◌ {A = ℕ} 0 1 = cc in absurd (omega arith)
  sweeps o (ask c xs ps a x) = absurd (true≢false a.1.1.1.1.1.1.0)
  sweeps o (idle d e f) = rw f
  sweeps o (clear i d q e f) = rw (e, f)

  others : (c : Call) (o : Outcome) → Effect s c o → NoneOf (1 ∷ 3 ∷ 9 ∷ 11 ∷ 12 ∷ []) c → lists_of o.0 ≡ lists_of s
  others c o (refuse c' n x) h = refl
  others c o (ask c' xs ps a x) h = refl
  others c o (idle d e f) h = refl
  others c o (link k v coin i is' e f) h = absurd (true≢false h.0)
  others c o (depart k n e) h = refl
  others c o (hand i r n b e p u) h = absurd (true≢false h.1.0)
  others c o (begin l g a b d) h = absurd (true≢false h.1.1.0)
  others c o (advance v room r e f) h =
      rw (lists_move v (rest_after room (ahead r s.order) (left r s.order)) (drop s.due s.queue) s.ranges)
  others c o (finish v r rs b e f g) h = absurd (true≢false h.1.1.1.0)
  others c o (clear i d q e f) h = absurd (true≢false h.1.1.1.1.0)

  pub one_queue : OneQueue s
  one_queue =
      record {
        takes = λ k v coin i e. (taken k v coin i (apply s (insert k v coin)) (effect s (insert k v coin)) e).0;
        first = λ k v coin i e. (taken k v coin i (apply s (insert k v coin)) (effect s (insert k v coin)) e).1;
        rule = rule;
        joins = λ i. joins i (apply s (hand_over i)) (effect s (hand_over i));
        frees = λ i. frees i (apply s (hand_over i)) (effect s (hand_over i));
        opens = λ l h v e. (opens l h v (apply s («open» l h)) (effect s («open» l h)) e).0;
        version = λ l h v e. (opens l h v (apply s («open» l h)) (effect s («open» l h)) e).1;
        closes = λ v n. closes v n (apply s (close v)) (effect s (close v));
        grows = λ v n. grows v n (apply s (close v)) (effect s (close v));
        sweeps = sweeps (apply s sweep) (effect s sweep);
        others = λ c. others c (apply s c) (effect s c);
      }
