-- Demand 2, the plain map: each call answers and changes the map shown as the plain map's own call does, and is refused exactly by its tests.
-- Assumes nothing.
use mathlib.Core.Path.{◌≡◌, refl, sym, ap, ◌∙◌}
use mathlib.Core.Bool.{Bool, true, false, not, cond, false≢true, true≢false}
use mathlib.Core.List.{List, [], ◌∷◌, map}
use mathlib.Core.Option.{Option, none, some}
use Prim.Native.Nat.{ℕ, zero, suc, ◌-◌, min}
use native.Mathlib.Omega.{arith}
use lib.ListN.{length, length-map}
use lib.Dec.{ltb}
use lib.IntN.{ℤ}
use lib.Signed.{lt_z}
use Rattle.lists.specs.Holds.{Pairwise}
use Rattle.lists.specs.Filters.{keep, filter, first, empty, lacks}
use Rattle.lists.proofs.Holding.{all_imp, all_map}
use Rattle.lists.proofs.Filtering.{all_filter}
use Rattle.model.specs.Keys.{eq_z}
use Rattle.model.specs.Plain.{Pair, Map, get, put, del, between}
use Rattle.model.specs.Calls.{Call, lookup, insert, remove, hand_over, fast, «open», step, close, sweep, refused, answered, accepted, found, ranged, swept}
use Rattle.model.specs.Model.{Place, present, pending, retired, Node, pair_of, here, is_present, is, shown, State, plain, Outcome, fast_limit, new_node, linking, leaving, handing, opening, ahead, left, stepping, closing, freeing, ranging, sweeping, found_in, apply, next, answer, refusal}
use Rattle.model.specs.WellFormed.{Before, over, is_retired, At, WellFormed}
use Rattle.model.specs.Demands.{NoneOf, Below, Plainly}
use Rattle.model.proofs.Order.{eq_z_refl}
use Rattle.model.proofs.Nodes.{shown_stitch, shown_leave, shown_unstitch, shown_retire}
use Rattle.model.proofs.Effects.{Effect, refuse, ask, idle, link, depart, hand, begin, advance, finish, clear, effect, get_shown}
use Rattle.model.proofs.Reached.{well_apply}
use Rattle.model.proofs.Keep as K

-- ---- the map shown

pub shown_rises : (ns : List Node) → Pairwise Before ns → Pairwise Below (shown ns)
shown_rises [] s = tt
shown_rises (n ∷ ns) s = go (is_present n) refl (shown_rises ns s.1)
  where
    go : (b : Bool) → is_present n ≡ b → Pairwise Below (shown ns) → Pairwise Below (map pair_of (keep b n (filter is_present ns)))
    go true e i = (
      all_map (Below (pair_of n)) pair_of (filter is_present ns)
          (all_filter (λ m. lt_z n.key m.key ≡ true) is_present ns (all_imp (Before n) (λ m. lt_z n.key m.key ≡ true) (λ m h. rw e at h) ns s.0)),
      i,
    )
    go false e i = i

-- the nodes of that number are not shown
hidden : (i r : ℕ) (ns : List Node) → At i (λ m. m.place ≡ pending r) ns → At i (λ m. is_present m ≡ false) ns
hidden i r ns a = all_imp (λ m. is i m ≡ true → m.place ≡ pending r) (λ m. is i m ≡ true → is_present m ≡ false) (λ m h u. rw (h u)) ns a

hides : (p : Place) → over p ≡ true → here p ≡ false
hides present a = absurd (false≢true a)
hides (pending r) a = refl
hides (retired r) a = refl

-- ---- the changes

pub no_some : {A : Type 0} (o : Option A) (a : A) → o ≡ none → o ≡ some a → ⊥
no_some o a e f = let z : ◌≡◌ {A = Bool} true false = cc in true≢false z

pub puts : (s : State) → WellFormed s → (k v : ℤ) (coin : ℕ) (o : Outcome) → Effect s (insert k v coin) o → refusal s (insert k v coin) ≡ none
    → plain o.0 ≡ put k v (plain s)
puts s w k v coin o (refuse c n x) h = absurd (no_some (refusal s (insert k v coin)) n h x)
puts s w k v coin o (ask c xs ps a x) h = absurd (true≢false a.0)
puts s w k v coin o (link k' v' coin' i is' e f) h = shown_stitch (new_node s i k v coin) s.order refl w.sorted

pub dels : (s : State) (k : ℤ) (o : Outcome) → Effect s (remove k) o → refusal s (remove k) ≡ none → plain o.0 ≡ del k (plain s)
dels s k o (refuse c n x) h = absurd (no_some (refusal s (remove k)) n h x)
dels s k o (ask c xs ps a x) h = absurd (true≢false a.1.0)
dels s k o (depart k' n e) h = shown_leave s.counter k s.order

pub others : (s : State) → WellFormed s → (c : Call) (o : Outcome) → Effect s c o → NoneOf (1 ∷ 2 ∷ []) c → plain o.0 ≡ plain s
others s w c o (refuse c' n x) h = refl
others s w c o (ask c' xs ps a x) h = refl
others s w c o (idle d e f) h = refl
others s w c o (link k v coin i is' e f) h = absurd (true≢false h.0)
others s w c o (depart k n e) h = absurd (true≢false h.1.0)
others s w c o (hand i r n true e p u) h = shown_unstitch i s.order (hidden i r s.order (K.at_place s w i r n.inserted n e p refl))
others s w c o (hand i r n false e p u) h = shown_retire i r s.order (hidden i r s.order (K.at_place s w i r n.inserted n e p refl))
others s w c o (begin l g a b d) h = refl
others s w c o (advance v room r e f) h = refl
others s w c o (finish v r rs true e f g) h = refl
others s w c o (finish v r rs false e f g) h = refl
others s w c o (clear i d q e f) h =
    shown_unstitch i s.order
    (all_imp (λ m. is i m ≡ true → is_retired m ≡ true) (λ m. is i m ≡ true → is_present m ≡ false) (λ m g u. hides m.place (g u)) s.order (K.gone s w i d q f e))

-- ---- the refusals

abbrev Settled : State → Call → Outcome → Type 0
Settled s c o = ((n : ℕ) → refusal s c ≡ some n → o ≡ (s, refused n)) × (refusal s c ≡ none → accepted o.1 ≡ true)

some_same : {A : Type 0} (a b : A) → some a ≡ some b → a ≡ b
some_same a b e = cc

taken : (s : State) (c : Call) (o : Outcome) → refusal s c ≡ none → accepted o.1 ≡ true → Settled s c o
taken s c o e a = (λ n f. absurd (no_some (refusal s c) n e f), λ f. a)

settled : (s : State) (c : Call) (o : Outcome) → Effect s c o → Settled s c o
settled s c o (refuse c' n x) = (λ m f. ap (λ (k : ℕ). (s, refused k)) (some_same n m (sym x ∙ f)), λ f. absurd (no_some (refusal s c') n f x))
settled s c o (ask c' xs ps a x) = taken s c' (s, answered xs ps) x refl
settled s c o (idle d e f) = taken s sweep (s, swept 0 d) refl refl
settled s c o (link k v coin i is' e f) = taken s (insert k v coin) (linking s k v coin i is') (rw (e, f)) refl
settled s c o (depart k n e) = taken s (remove k) (leaving s k n.number) (rw (get_shown k s.order, e)) refl
settled s c o (hand i r n true e p u) = taken s (hand_over i) (handing s i r true) (rw (e, p)) refl
settled s c o (hand i r n false e p u) = taken s (hand_over i) (handing s i r false) (rw (e, p)) refl
settled s c o (begin l h a b d) = taken s («open» l h) (opening s (suc s.counter) l h) (rw (a, b, d)) refl
settled s c o (advance v room r e f) = taken s (step v room) (stepping s v room (ahead r s.order) (left r s.order)) (rw (e, f)) refl
settled s c o (finish v r rs true e f g) = taken s (close v) (closing s v r rs true) (rw (e, g)) refl
settled s c o (finish v r rs false e f g) = taken s (close v) (closing s v r rs false) (rw (e, g)) refl
settled s c o (clear i d q e f) = taken s sweep (freeing s d i q) refl refl

-- LAW: a test that holds refuses, and nothing changes
pub refuses : (s : State) (c : Call) (n : ℕ) → refusal s c ≡ some n → apply s c ≡ (s, refused n)
refuses s c = (settled s c (apply s c) (effect s c)).0

pub accepts : (s : State) (c : Call) → refusal s c ≡ none → accepted (answer s c) ≡ true
accepts s c = (settled s c (apply s c) (effect s c)).1

-- ---- the answers

fasts : (s : State) (l h : ℤ) (room : ℕ) → refusal s (fast l h room) ≡ none → answer s (fast l h room) ≡ ranged (between l h (plain s))
unfolding apply ranging
fasts s l h room e = go (lt_z h l) (ltb fast_limit (length ps)) (ltb room (length ps)) refl refl refl e
  where
    ps : List Pair
    ps = between l h (plain s)

    go : (a b c : Bool) → lt_z h l ≡ a → ltb fast_limit (length ps) ≡ b → ltb room (length ps) ≡ c
        → cond {A = Option ℕ} a (some 6) (cond b (some 7) (cond c (some 8) none)) ≡ none → (ranging s l h room ps).1 ≡ ranged ps
    go true b c f g i j = absurd (no_some (some 6) 6 j refl)
    go false true c f g i j = absurd (no_some (some 7) 7 j refl)
    go false false true f g i j = absurd (no_some (some 8) 8 j refl)
    go false false false f g i j = rw (f, g, i)

sweeps : (s : State) → WellFormed s → answer s sweep ≡ swept (min 1 s.due) (s.due - 1)
unfolding apply sweeping
sweeps s w = go s.due s.queue refl refl
  where
    go : (d : ℕ) (q : List ℕ) → s.due ≡ d → s.queue ≡ q → (sweeping s d q).1 ≡ swept (min 1 d) (d - 1)
    go zero q e f = refl
    go (suc d) [] e f = absurd (omega (arith, w.listed, e, ap length f))
    go (suc d) (i ∷ q) e f =
        let a : min 1 (suc d) ≡ 1 = omega arith in
        let b : suc d - 1 ≡ d = omega arith in
        rw (a, b)

pub plainly : (s : State) → WellFormed s → Plainly s
unfolding apply
plainly s w =
    record {
      rising = shown_rises s.order w.sorted;
      refuses = refuses s;
      accepts = accepts s;
      lookups = λ k. refl;
      ceils = λ k. refl;
      floors = λ k. refl;
      succs = λ k. refl;
      preds = λ k. refl;
      fasts = fasts s;
      puts = λ k v coin. puts s w k v coin (apply s (insert k v coin)) (effect s (insert k v coin));
      dels = λ k. dels s k (apply s (remove k)) (effect s (remove k));
      others = λ c. others s w c (apply s c) (effect s c);
      tallies = rw (length-map (filter is_present s.order) pair_of);
      sweeps = sweeps s w;
    }

-- ---- lookup after insert

-- a key that was put is found
pub get_put : (k v : ℤ) (m : Map) → get k m ≡ none → get k (put k v m) ≡ some (k, v)
get_put k v [] e = rw (eq_z_refl k)
get_put k v (p ∷ m) e = go (lt_z k p.0) (eq_z p.0 k) refl e (get_put k v m)
  where
    go : (b c : Bool) → eq_z p.0 k ≡ c → first (keep c p (filter (λ (q : Pair). eq_z q.0 k) m)) ≡ none → (get k m ≡ none → get k (put k v m) ≡ some (k, v))
        → get k (cond b ((k, v) ∷ p ∷ m) (p ∷ put k v m)) ≡ some (k, v)
    go true c q f i = rw (eq_z_refl k)
    go false true q f i = let z : ◌≡◌ {A = Bool} true false = cc in absurd (true≢false z)
    go false false q f i = rw q (i f)

pub lookup_insert : (s : State) → WellFormed s → (k v : ℤ) (coin : ℕ) → refusal s (insert k v coin) ≡ none
    → answer (next s (insert k v coin)) (lookup k) ≡ found v
lookup_insert s w k v coin e =
    (plainly (next s (insert k v coin)) (well_apply s w (insert k v coin))).lookups k
    ∙ ap found_in (ap (get k) ((plainly s w).puts k v coin e) ∙ get_put k v (plain s) (absent (get k (plain s)) e))
  where
    absent : (o : Option Pair) → cond {A = Option ℕ} (not (lacks o)) (some 3) (cond (empty s.free) (some 5) none) ≡ none → o ≡ none
    absent none f = refl
    absent (some p) f = absurd (no_some (some 3) 3 f refl)
