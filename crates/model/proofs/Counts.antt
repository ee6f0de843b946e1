-- Demand 2, the counts: present, held, due and free nodes and the counter, by the history of calls.
-- Assumes nothing.
use mathlib.Core.Path.{◌≡◌, refl, ap, subst}
use mathlib.Core.Bool.{Bool, true, false, not, cond, true≢false, ◌&&◌}
use mathlib.Core.List.{List, [], ◌∷◌}
use mathlib.Core.Option.{some}
use Prim.Native.Nat.{ℕ, suc, ◌+◌}
use native.Mathlib.Omega.{arith}
use lib.ListN.{length, length-map}
use lib.Dec.{eqb}
use lib.IntN.{ℤ}
use lib.Signed.{lt_z}
use Rattle.lists.specs.Holds.{Pairwise}
use Rattle.lists.specs.Filters.{keep, filter, first, last}
use Rattle.lists.proofs.Holding.{all_imp}
use Rattle.lists.proofs.Filtering.{filter_all}
use Rattle.model.specs.Keys.{eq_z}
use Rattle.model.specs.Plain.{Pair, Map, get, put, del}
use Rattle.model.specs.Calls.{Call, code, Answer, accepted, number}
use Rattle.model.specs.Model.{Place, present, pending, retired, Node, pair_of, is_present, waits, State, Range, plain, Outcome, unseen, hold, rest_after, new_range, ahead, left, held_in, apply, next, after, history, fresh}
use Rattle.model.specs.WellFormed.{is_retired, WellFormed}
use Rattle.model.specs.Demands.{Below, times, sum, Counts}
use Rattle.model.proofs.Order.{lt_ne, eq_z_eq}
use Rattle.model.proofs.Ranges.{held_hold, held_shut, held_move, held_append}
use Rattle.model.proofs.Effects.{Effect, refuse, ask, idle, link, depart, hand, begin, advance, finish, clear, effect, get_shown}
use Rattle.model.proofs.Reached.{well_apply, well_set_up, begun, count_length}
use Rattle.model.proofs.PlainMap.{shown_rises, puts, dels, others}

-- ---- the map's own count

length_put : (k v : ℤ) (m : Map) → length (put k v m) ≡ suc (length m)
length_put k v [] = refl
length_put k v (p ∷ m) = go (lt_z k p.0) (length_put k v m)
  where
    go : (b : Bool) → length (put k v m) ≡ suc (length m) → length (cond b ((k, v) ∷ p ∷ m) (p ∷ put k v m)) ≡ suc (suc (length m))
    go true i = refl
    go false i = ap suc i

length_del : (k : ℤ) (m : Map) (q : Pair) → Pairwise Below m → get k m ≡ some q → suc (length (del k m)) ≡ length m
length_del k [] q s e = let z : ◌≡◌ {A = Bool} true false = cc in absurd (true≢false z)
length_del k (p ∷ m) q s e = go (eq_z p.0 k) refl e (length_del k m q s.1)
  where
    go : (b : Bool) → eq_z p.0 k ≡ b → first (keep b p (filter (λ (r : Pair). eq_z r.0 k) m)) ≡ some q → (get k m ≡ some q → suc (length (del k m)) ≡ length m)
        → suc (length (keep (not b) p (del k m))) ≡ suc (length m)
    go true t f i =
        ap suc (ap length (filter_all (λ (r : Pair). not (eq_z r.0 k)) m
        (all_imp (Below p) (λ (r : Pair). not (eq_z r.0 k) ≡ true)
        (λ r h. ap not (subst (λ (x : ℤ). eq_z r.0 x ≡ false) (eq_z_eq p.0 k t) (lt_ne p.0 r.0 h))) m s.0)))
    go false t f i = ap suc (i f)

-- ---- one call

abbrev once : ℕ → Call → Answer → ℕ
once n c a = cond (eqb (code c) n && accepted a) 1 0

abbrev amount : ℕ → Call → Answer → ℕ
amount n c a = cond (eqb (code c) n) (number 0 a) 0

-- from s to t: nodes inserted, removed, handed over, freed by that, made due, swept; and openings
record Moved (s t : State) (ins rem over freed due swept opens : ℕ) : Type 0 where
  here : length (plain t) + rem ≡ length (plain s) + ins
  held : held_in t.ranges + freed + due ≡ held_in s.ranges + over
  owed : t.due + swept ≡ s.due + due
  free : length t.free + ins ≡ length s.free + freed + swept
  version : t.counter ≡ s.counter + opens

abbrev Moves : State → Call → Outcome → Type 0
Moves s c o =
    Moved s o.0 (once 1 c o.1) (once 2 c o.1) (once 3 c o.1) (amount 3 c o.1) (amount 11 c o.1) (amount 12 c o.1) (once 9 c o.1)

none_moved : (s : State) → Moved s s 0 0 0 0 0 0 0
none_moved s = record { here = refl; held = omega arith; owed = refl; free = omega arith; version = omega arith }

-- a refusal counts as nothing
no_once : (b : Bool) → cond {A = ℕ} (b && false) 1 0 ≡ 0
no_once true = refl
no_once false = refl

no_amount : (b : Bool) → cond {A = ℕ} b 0 0 ≡ 0
no_amount true = refl
no_amount false = refl

moves : (s : State) → WellFormed s → (c : Call) (o : Outcome) → Effect s c o → Moves s c o
moves s w c o (refuse c' n x) =
    rw (no_once (eqb (code c') 1), no_once (eqb (code c') 2), no_once (eqb (code c') 3), no_amount (eqb (code c') 3), no_amount (eqb (code c') 11), no_amount (eqb (code c') 12), no_once (eqb (code c') 9))
    (none_moved s)
moves s w c o (ask c' xs ps a x) =
    rw (a.0, a.1.0, a.1.1.0, a.1.1.1.0, a.1.1.1.1.1.0, a.1.1.1.1.1.1.0) (none_moved s)
moves s w c o (idle d e f) = none_moved s
moves s w c o (link k v coin i is' e f) =
    record { here = omega (arith, ap length (puts s w k v coin _ (link k v coin i is' e f) (rw (e, f))), length_put k v (plain s)); held = omega arith; owed = refl; free = omega (arith, ap length f); version = omega arith }
moves s w c o (depart k n e) =
    let g : get k (plain s) ≡ some (pair_of n) = rw (get_shown k s.order, e) in
    record { here = omega (arith, ap length (dels s k _ (depart k n e) (rw (get_shown k s.order, e))), length_del k (plain s) (pair_of n) (shown_rises s.order w.sorted) g); held = omega arith; owed = refl; free = omega arith; version = omega arith }
moves s w c o (hand i r n true e p u) =
    record { here = ap (λ (m : Map). length m + 0) (others s w _ _ (hand i r n true e p u) (refl, (refl, tt))); held = omega arith; owed = refl; free = omega arith; version = omega arith }
moves s w c o (hand i r n false e p u) =
    record { here = ap (λ (m : Map). length m + 0) (others s w _ _ (hand i r n false e p u) (refl, (refl, tt))); held = omega (arith, many s.ranges u); owed = refl; free = omega arith; version = omega arith }
  where
    many : (rs : List Range) → unseen n.inserted (last rs) ≡ false → held_in (hold rs) ≡ held_in rs + 1
    many [] h = absurd (true≢false h)
    many (q ∷ rs) h = held_hold q rs
moves s w c o (begin l h a b d) =
    record { here = refl; held = omega (arith, held_append s.ranges (new_range (suc s.counter) l h s.order)); owed = refl; free = omega arith; version = omega arith }
moves s w c o (advance v room r e f) = record { here = refl; held = omega (arith, held_move v (rest_after room (ahead r s.order) (left r s.order)) s.ranges); owed = refl; free = omega arith; version = omega arith }
moves s w c o (finish v r rs true e f g) = record { here = refl; held = omega (arith, ap held_in e); owed = omega arith; free = omega arith; version = omega arith }
moves s w c o (finish v r rs false e f g) = record { here = refl; held = omega (arith, ap held_in e, held_shut v r rs); owed = refl; free = omega arith; version = omega arith }
moves s w c o (clear i d q e f) =
    record { here = ap (λ (m : Map). length m + 0) (others s w _ _ (clear i d q e f) (refl, (refl, tt))); held = omega arith; owed = omega arith; free = omega arith; version = omega arith }

-- ---- many calls

moves_all : (s : State) → WellFormed s → (cs : List Call)
    → Moved s (after s cs) (times 1 (history s cs)) (times 2 (history s cs)) (times 3 (history s cs)) (sum 3 (history s cs)) (sum 11 (history s cs)) (sum 12 (history s cs)) (times 9 (history s cs))
unfolding after history
moves_all s w [] = none_moved s
moves_all s w (c ∷ cs) =
    let m : Moves s c (apply s c) = moves s w c (apply s c) (effect s c) in
    let i = moves_all (next s c) (well_apply s w c) cs in
    record {
      here = omega (arith, m.here, i.here);
      held = omega (arith, m.held, i.held);
      owed = omega (arith, m.owed, i.owed);
      free = omega (arith, m.free, i.free);
      version = omega (arith, m.version, i.version);
    }

pub counted : Counts
unfolding fresh
counted capacity start s u cs =
    let i = moves_all s (well_set_up capacity start s u) cs in
    let z = (begun capacity start s u).fresh_at in
    let a : length (plain s) ≡ 0 = rw (← z) in
    let b : held_in s.ranges ≡ 0 = rw (← z) in
    let d : length s.free ≡ capacity = rw (← z) (count_length 0 capacity) in
    let e : s.due ≡ 0 = rw (← z) in
    let v : s.counter ≡ start = rw (← z) in
    record {
      present = omega (arith, i.here);
      held = omega (arith, i.held);
      due = omega (arith, i.owed);
      free = omega (arith, i.free);
      version = omega (arith, i.version);
    }

-- ---- they add up

split : (ns : List Node)
    → length (filter is_present ns) + length (filter (λ (n : Node). waits n.place) ns) + length (filter is_retired ns) ≡ length ns
split [] = refl
split (n ∷ ns) = go n.place refl (split ns)
  where
    go : (p : Place) → n.place ≡ p
        → length (filter is_present ns) + length (filter (λ (m : Node). waits m.place) ns) + length (filter is_retired ns) ≡ length ns
        → length (filter is_present (n ∷ ns)) + length (filter (λ (m : Node). waits m.place) (n ∷ ns)) + length (filter is_retired (n ∷ ns)) ≡ suc (length ns)
    go present e i = rw e (omega arith)
    go (pending r) e i = rw e (omega arith)
    go (retired r) e i = rw e (omega arith)

-- present, pending, on the lists, due and free make up the capacity
pub adds_up : (s : State) → WellFormed s
    → length (plain s) + (length (filter (λ (n : Node). waits n.place) s.order) + held_in s.ranges + s.due) + length s.free ≡ s.capacity
adds_up s w = omega (arith, length-map (filter is_present s.order) pair_of, split s.order, w.whole, w.listed, w.full)
