-- Every answer of the model is one that a call of its code may get.
-- Assumes nothing.
use mathlib.Core.Path.{refl}
use mathlib.Core.Bool.{Bool, true, false, not}
use mathlib.Core.List.{List, [], ◌∷◌}
use mathlib.Core.Option.{Option, none, some}
use Prim.Native.Nat.{ℕ, zero, suc, ◌<◌}
use native.Mathlib.Omega.{arith}
use lib.Dec.{eqb, leb, ltb}
use lib.ListN.{length}
use lib.IntN.{ℤ}
use lib.Signed.{lt_z}
use Rattle.lists.specs.Holds.{All}
use Rattle.lists.specs.Filters.{first, last, filter, lacks, maybe}
use Rattle.model.specs.Plain.{Pair, get, ceil_of, floor_of, succ_of, pred_of, between}
use Rattle.model.specs.Calls as C
use Rattle.model.specs.Model as M
use Rattle.lines.specs.Told.{Fitting}

-- an outcome with such an answer
abbrev Fits : ℕ → M.Outcome → Type 0
Fits code o = Fitting code o.1

fits_unless : (code n : ℕ) (b : Bool) (s : M.State) (o : M.Outcome) → 0 < n → Fits code o → Fits code (M.unless b n s o)
fits_unless code n true s o h f = h
fits_unless code n false s o h f = f

-- three tests, one after another
fits_three : (code k m n : ℕ) (a b c : Bool) (s : M.State) (o : M.Outcome) → 0 < k → 0 < m → 0 < n → Fits code o
    → Fits code (M.unless a k s (M.unless b m s (M.unless c n s o)))
fits_three code k m n a b c s o h i j f =
    fits_unless code k a s (M.unless b m s (M.unless c n s o)) h (fits_unless code m b s (M.unless c n s o) i (fits_unless code n c s o j f))

fits_lookup : (o : Option Pair) → Fitting 0 (M.found_in o)
fits_lookup none = omega arith
fits_lookup (some p) = (refl, refl)

-- of ceil, floor, succ and pred
fits_nearest : (code : ℕ) → ((k : ℤ) → Fitting code (C.nearest k)) → (o : Option Pair) → Fitting code (M.nearest_in o)
fits_nearest code f none = omega arith
fits_nearest code f (some p) = f p.0

fits_insert : (s : M.State) (k v : ℤ) (coin : ℕ) (free : List ℕ) → Fits 1 (M.inserting s k v coin free)
unfolding M.inserting
fits_insert s k v coin [] = omega arith
fits_insert s k v coin (i ∷ is) = (refl, refl)

fits_remove : (s : M.State) (k : ℤ) (o : Option M.Node) → Fits 2 (maybe (s, C.refused 4) (λ (n : M.Node). M.leaving s k n.number) o)
fits_remove s k none = omega arith
fits_remove s k (some n) = (refl, refl)

fits_handing : (s : M.State) (i r : ℕ) (b : Bool) → Fits 3 (M.handing s i r b)
fits_handing s i r true = (refl, refl)
fits_handing s i r false = (refl, refl)

fits_place : (s : M.State) (i t : ℕ) (p : M.Place) → Fits 3 (M.hand_place s i t p)
unfolding M.hand_place
fits_place s i t M.present = omega arith
fits_place s i t (M.retired r) = omega arith
fits_place s i t (M.pending r) = fits_handing s i r (M.unseen t (last s.ranges))

fits_hand_over : (s : M.State) (i : ℕ) (o : Option M.Node) → Fits 3 (maybe (s, C.refused 12) (λ (n : M.Node). M.hand_place s i n.inserted n.place) o)
fits_hand_over s i none = omega arith
fits_hand_over s i (some n) = fits_place s i n.inserted n.place

fits_fast : (s : M.State) (l h : ℤ) (room : ℕ) (ps : List Pair) → Fits 8 (M.ranging s l h room ps)
unfolding M.ranging
fits_fast s l h room ps =
    fits_three 8 6 7 8 (lt_z h l) (ltb M.fast_limit (length ps)) (ltb room (length ps)) s (s, C.ranged ps) (omega arith) (omega arith) (omega arith) (refl, refl)

fits_step : (s : M.State) (v room : ℕ) (b : Bool) (o : Option M.Range)
    → Fits 10 (maybe (s, C.refused 11) (λ (r : M.Range). M.unless b 8 s (M.stepping s v room (M.ahead r s.order) (M.left r s.order))) o)
fits_step s v room b none = omega arith
fits_step s v room true (some r) = omega arith
fits_step s v room false (some r) = (refl, refl)

fits_closing : (s : M.State) (v : ℕ) (r : M.Range) (rs : List M.Range) (b : Bool) → Fits 11 (M.closing s v r rs b)
fits_closing s v r rs true = (refl, refl)
fits_closing s v r rs false = (refl, refl)

fits_close : (s : M.State) (v : ℕ) (rs : List M.Range) → Fits 11 (M.close_from s v rs)
unfolding M.close_from
fits_close s v [] = omega arith
fits_close s v (r ∷ rs) =
    fits_unless 11 11 (lacks (M.range v (r ∷ rs))) s (M.closing s v r rs (M.named v r)) (omega arith) (fits_closing s v r rs (M.named v r))

fits_sweep : (s : M.State) (d : ℕ) (q : List ℕ) → Fits 12 (M.sweeping s d q)
unfolding M.sweeping
fits_sweep s zero q = (refl, refl)
fits_sweep s (suc d) [] = (refl, refl)
fits_sweep s (suc d) (i ∷ q) = (refl, refl)

-- LAW: of every call
pub answer_fits : (s : M.State) (c : C.Call) → Fitting (C.code c) (M.answer s c)
unfolding M.apply
answer_fits s (C.lookup k) = fits_lookup (get k (M.plain s))
answer_fits s (C.insert k v coin) =
    fits_unless 1 3 (not (lacks (get k (M.plain s)))) s (M.inserting s k v coin s.free) (omega arith) (fits_insert s k v coin s.free)
answer_fits s (C.remove k) = fits_remove s k (first (filter (M.holds k) s.order))
answer_fits s (C.hand_over i) = fits_hand_over s i (first (filter (M.is i) s.order))
answer_fits s (C.ceil k) = fits_nearest 4 (λ k. (refl, refl)) (ceil_of k (M.plain s))
answer_fits s (C.floor k) = fits_nearest 5 (λ k. (refl, refl)) (floor_of k (M.plain s))
answer_fits s (C.succ k) = fits_nearest 6 (λ k. (refl, refl)) (succ_of k (M.plain s))
answer_fits s (C.pred k) = fits_nearest 7 (λ k. (refl, refl)) (pred_of k (M.plain s))
answer_fits s (C.fast l h room) = fits_fast s l h room (between l h (M.plain s))
answer_fits s (C.«open» l h) =
    fits_three 9 6 9 10 (lt_z h l) (leb M.tickets (length s.ranges)) (leb M.last_version s.counter) s (M.opening s (suc s.counter) l h) (omega arith) (omega arith) (omega arith) (refl, refl)
answer_fits s (C.step v room) = fits_step s v room (eqb room 0) (M.range v s.ranges)
answer_fits s (C.close v) = fits_close s v s.ranges
answer_fits s C.sweep = fits_sweep s s.due s.queue
answer_fits s C.tally = (refl, refl)

-- LAW: of calls one after another
pub history_fits : (s : M.State) (cs : List C.Call) → All (λ (h : C.Call × C.Answer). Fitting (C.code h.0) h.1) (M.history s cs)
unfolding M.history
history_fits s [] = tt
history_fits s (c ∷ cs) = (answer_fits s c, history_fits (M.next s c) cs)
