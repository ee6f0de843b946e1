-- Demand 2, the kinds of answer: an accepted call answers in its own kind. So no statement of the form `answer s c ≡ node i → ..` is empty.
-- Assumes nothing.
use mathlib.Core.Path.{◌≡◌, refl}
use mathlib.Core.Bool.{true, false, true≢false}
use mathlib.Core.List.{[], ◌∷◌}
use mathlib.Core.Option.{Option, none, some}
use Prim.Native.Nat.{suc}
use lib.ListN.{length, take, drop}
use Rattle.lists.specs.Filters.{empty, lacks}
use Rattle.model.specs.Plain.{Pair, get, ceil_of, floor_of, succ_of, pred_of, between}
use Rattle.model.specs.Calls.{Call, lookup, insert, remove, hand_over, ceil, floor, succ, pred, fast, «open», step, close, sweep, tally, found, nearest}
use Rattle.model.specs.Model.{State, Outcome, plain, found_in, nearest_in, left, pairs_of, held_in, apply, answer, first_of, refusal}
use Rattle.model.specs.WellFormed.{WellFormed}
use Rattle.model.specs.Demands.{OfKind, Kind, Kinds, Plainly}
use Rattle.model.proofs.Effects.{Effect, Asks, refuse, ask, idle, link, depart, hand, begin, advance, finish, clear, effect}
use Rattle.model.proofs.PlainMap.{no_some, plainly}

finds : (o : Option Pair) → first_of ((lacks o, 4) ∷ []) ≡ none → OfKind found (found_in o)
finds none e = absurd (no_some (some 4) 4 e refl)
finds (some p) e = (p.1, refl)

nears : (o : Option Pair) → first_of ((lacks o, 13) ∷ []) ≡ none → OfKind nearest (nearest_in o)
nears none e = absurd (no_some (some 13) 13 e refl)
nears (some p) e = (p.0, refl)

-- a call that only asks answers as the plain map
asked : (s : State) → Plainly s → (c : Call) → refusal s c ≡ none → Asks c → Kind c (answer s c)
asked s p (lookup k) e a = rw (p.lookups k) (finds (get k (plain s)) e)
asked s p (insert k v coin) e a = absurd (true≢false a.0)
asked s p (remove k) e a = absurd (true≢false a.1.0)
asked s p (hand_over i) e a = absurd (true≢false a.1.1.0)
asked s p (ceil k) e a = rw (p.ceils k) (nears (ceil_of k (plain s)) e)
asked s p (floor k) e a = rw (p.floors k) (nears (floor_of k (plain s)) e)
asked s p (succ k) e a = rw (p.succs k) (nears (succ_of k (plain s)) e)
asked s p (pred k) e a = rw (p.preds k) (nears (pred_of k (plain s)) e)
asked s p (fast l h room) e a = (between l h (plain s), p.fasts l h room e)
asked s p («open» l h) e a = absurd (true≢false a.1.1.1.0)
asked s p (step v room) e a = absurd (true≢false a.1.1.1.1.0)
asked s p (close v) e a = absurd (true≢false a.1.1.1.1.1.0)
asked s p sweep e a = absurd (true≢false a.1.1.1.1.1.1.0)
asked s p tally e a = ((length (plain s), held_in s.ranges, length s.free), p.tallies)

-- every other answers what its change carries
acted : (s : State) (c : Call) (o : Outcome) → Effect s c o → refusal s c ≡ none → (Asks c → Kind c o.1) → Kind c o.1
acted s c o (refuse c' n x) e k = absurd (no_some (refusal s c') n e x)
acted s c o (ask c' xs ps a x) e k = k a
acted s c o (idle d f g) e k = ((0, d), refl)
acted s c o (link k' v coin i is' f g) e k = (i, refl)
acted s c o (depart k' n f) e k = (n.number, refl)
acted s c o (hand i r n true f p u) e k = (true, refl)
acted s c o (hand i r n false f p u) e k = (false, refl)
acted s c o (begin l h a b d) e k = (suc s.counter, refl)
acted s c o (advance v room r f g) e k = ((pairs_of (take room (left r s.order)), empty (drop room (left r s.order))), refl)
acted s c o (finish v r rs true f g h) e k = (r.held, refl)
acted s c o (finish v r rs false f g h) e k = (0, refl)
acted s c o (clear i d q f g) e k = ((1, d), refl)

-- LAW: an accepted call answers in its own kind
pub kinds : (s : State) → WellFormed s → Kinds s
kinds s w c e = acted s c (apply s c) (effect s c) e (asked s (plainly s w) c e)
