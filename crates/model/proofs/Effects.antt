-- What a call can come to, one case for each change of the state. A property of all calls is proved by these cases.
-- Assumes nothing.
use mathlib.Core.Path.{◌≡◌, refl}
use mathlib.Core.Bool.{Bool, true, false, not, cond}
use mathlib.Core.List.{List, [], ◌∷◌}
use mathlib.Core.Option.{Option, none, some}
use Prim.Native.Nat.{ℕ, zero, suc}
use lib.ListN.{length}
use lib.Dec.{leb, ltb, eqb}
use lib.IntN.{ℤ}
use lib.Signed.{lt_z}
use borrow.Author.Tests.{not-true}
use Rattle.lists.specs.Filters.{filter, first, last, lacks, maybe}
use Rattle.lists.proofs.Holding.{all_imp, every, all_tested}
use Rattle.model.specs.Keys.{eq_z}
use Rattle.model.specs.Plain.{Pair, get, between, ceil_of, floor_of, succ_of, pred_of}
use Rattle.model.specs.Calls.{Call, lookup, insert, remove, hand_over, ceil, floor, succ, pred, fast, «open», step, close, sweep, tally, code, refused, answered, swept, ranged}
use Rattle.model.specs.Model.{Place, present, pending, retired, Node, pair_of, is_present, is, holds, shown, Range, State, plain, due_list, Outcome, fast_limit, tickets, last_version, unless, found_in, nearest_in, linking, inserting, leaving, unseen, handing, hand_place, ranging, opening, named, range, ahead, left, stepping, closing, close_from, freeing, sweeping, apply, refusal}
use Rattle.model.specs.Demands.{NoneOf}

-- a call that only asks
abbrev acting : List ℕ
acting = 1 ∷ 2 ∷ 3 ∷ 9 ∷ 10 ∷ 11 ∷ 12 ∷ []

abbrev pub Asks : Call → Type 0
Asks c = NoneOf acting c

asking : (c : Call) → every (λ (n : ℕ). not (eqb (code c) n)) acting ≡ true → Asks c
asking c e =
    all_imp (λ (n : ℕ). not (eqb (code c) n) ≡ true) (λ (n : ℕ). eqb (code c) n ≡ false) (λ n f. not-true (eqb (code c) n) f) acting
    (all_tested (λ (n : ℕ). not (eqb (code c) n)) acting e)

-- remove finds a node exactly where the plain map has the key
pub get_shown : (k : ℤ) (ns : List Node) → get k (shown ns) ≡ maybe none (λ (n : Node). some (pair_of n)) (first (filter (holds k) ns))
get_shown k [] = refl
get_shown k (n ∷ ns) = go (is_present n) (eq_z n.key k) refl refl (get_shown k ns)
  where
    go : (b c : Bool) → is_present n ≡ b → eq_z n.key k ≡ c → get k (shown ns) ≡ maybe none (λ (n : Node). some (pair_of n)) (first (filter (holds k) ns))
        → get k (shown (n ∷ ns)) ≡ maybe none (λ (n : Node). some (pair_of n)) (first (filter (holds k) (n ∷ ns)))
    go true true p q i = rw (p, q)
    go true false p q i = rw (p, q) i
    go false c p q i = rw p i

pub data Effect (s : State) : Call → Outcome → Type 0 where
  refuse : (c : Call) (n : ℕ) → refusal s c ≡ some n → Effect s c (s, refused n)
  ask : (c : Call) (xs : List ℤ) (ps : List Pair) → Asks c → refusal s c ≡ none → Effect s c (s, answered xs ps)
  idle : (d : ℕ) → s.due ≡ d → due_list s ≡ [] → Effect s sweep (s, swept 0 d)
  link : (k v : ℤ) (coin i : ℕ) (is' : List ℕ) → get k (plain s) ≡ none → s.free ≡ i ∷ is' → Effect s (insert k v coin) (linking s k v coin i is')
  depart : (k : ℤ) (n : Node) → first (filter (holds k) s.order) ≡ some n → Effect s (remove k) (leaving s k n.number)
  hand : (i r : ℕ) (n : Node) (b : Bool) → first (filter (is i) s.order) ≡ some n → n.place ≡ pending r → unseen n.inserted (last s.ranges) ≡ b
      → Effect s (hand_over i) (handing s i r b)
  begin : (l h : ℤ) → lt_z h l ≡ false → leb tickets (length s.ranges) ≡ false → leb last_version s.counter ≡ false
      → Effect s («open» l h) (opening s (suc s.counter) l h)
  advance : (v room : ℕ) (r : Range) → range v s.ranges ≡ some r → eqb room 0 ≡ false
      → Effect s (step v room) (stepping s v room (ahead r s.order) (left r s.order))
  finish : (v : ℕ) (r : Range) (rs : List Range) (b : Bool) → s.ranges ≡ r ∷ rs → named v r ≡ b → lacks (range v (r ∷ rs)) ≡ false
      → Effect s (close v) (closing s v r rs b)
  clear : (i d : ℕ) (q : List ℕ) → s.due ≡ suc d → s.queue ≡ i ∷ q → Effect s sweep (freeing s d i q)

module _ (s : State) where
  on_unless : (c : Call) (b : Bool) (n : ℕ) (o : Outcome) → (b ≡ true → refusal s c ≡ some n) → (b ≡ false → Effect s c o) → Effect s c (unless b n s o)
  on_unless c true n o r f = refuse c n (r refl)
  on_unless c false n o r f = f refl

  on_found : (k : ℤ) (o : Option Pair) → get k (plain s) ≡ o → Effect s (lookup k) (s, found_in o)
  on_found k none e = refuse (lookup k) 4 (rw e)
  on_found k (some p) e = ask (lookup k) (p.1 ∷ []) [] (asking (lookup k) refl) (rw e)

  on_near : (c : Call) → Asks c → (o : Option Pair) → refusal s c ≡ cond (lacks o) (some 13) none → Effect s c (s, nearest_in o)
  on_near c a none r = refuse c 13 r
  on_near c a (some p) r = ask c (p.0 ∷ []) [] a r

  on_insert : (k v : ℤ) (coin : ℕ) (o : Option Pair) → get k (plain s) ≡ o → Effect s (insert k v coin) (unless (not (lacks o)) 3 s (inserting s k v coin s.free))
  unfolding inserting
  on_insert k v coin (some p) e = refuse (insert k v coin) 3 (rw e)
  on_insert k v coin none e = go s.free refl
    where
      go : (is' : List ℕ) → s.free ≡ is' → Effect s (insert k v coin) (inserting s k v coin is')
      go [] f = refuse (insert k v coin) 5 (rw (e, f))
      go (i ∷ is') f = link k v coin i is' e f

  on_remove : (k : ℤ) (o : Option Node) → first (filter (holds k) s.order) ≡ o
      → Effect s (remove k) (maybe (s, refused 4) (λ (n : Node). leaving s k n.number) o)
  on_remove k none e = refuse (remove k) 4 (rw (get_shown k s.order, e))
  on_remove k (some n) e = depart k n e

  on_hand : (i : ℕ) (o : Option Node) → first (filter (is i) s.order) ≡ o
      → Effect s (hand_over i) (maybe (s, refused 12) (λ (n : Node). hand_place s i n.inserted n.place) o)
  unfolding hand_place
  on_hand i none e = refuse (hand_over i) 12 (rw e)
  on_hand i (some n) e = go n.place refl
    where
      go : (p : Place) → n.place ≡ p → Effect s (hand_over i) (hand_place s i n.inserted p)
      go present p = refuse (hand_over i) 12 (rw (e, p))
      go (retired r) p = refuse (hand_over i) 12 (rw (e, p))
      go (pending r) p = hand i r n (unseen n.inserted (last s.ranges)) e p refl

  on_fast : (l h : ℤ) (room : ℕ) → Effect s (fast l h room) (ranging s l h room (between l h (plain s)))
  unfolding ranging
  on_fast l h room =
      let ps : List Pair = between l h (plain s) in
      on_unless (fast l h room) (lt_z h l) 6 (unless (ltb fast_limit (length ps)) 7 s (unless (ltb room (length ps)) 8 s (s, ranged ps))) (λ a. rw a)
      (λ a. on_unless (fast l h room) (ltb fast_limit (length ps)) 7 (unless (ltb room (length ps)) 8 s (s, ranged ps)) (λ b. rw (a, b))
      (λ b. on_unless (fast l h room) (ltb room (length ps)) 8 (s, ranged ps) (λ c. rw (a, b, c))
      (λ c. ask (fast l h room) _ ps (asking (fast l h room) refl) (rw (a, b, c)))))

  on_open : (l h : ℤ) → Effect s («open» l h)
      (unless (lt_z h l) 6 s (unless (leb tickets (length s.ranges)) 9 s (unless (leb last_version s.counter) 10 s (opening s (suc s.counter) l h))))
  on_open l h =
      let o : Outcome = opening s (suc s.counter) l h in
      on_unless («open» l h) (lt_z h l) 6 (unless (leb tickets (length s.ranges)) 9 s (unless (leb last_version s.counter) 10 s o)) (λ a. rw a)
      (λ a. on_unless («open» l h) (leb tickets (length s.ranges)) 9 (unless (leb last_version s.counter) 10 s o) (λ b. rw (a, b))
      (λ b. on_unless («open» l h) (leb last_version s.counter) 10 o (λ c. rw (a, b, c)) (λ c. begin l h a b c)))

  on_step : (v room : ℕ) (o : Option Range) → range v s.ranges ≡ o
      → Effect s (step v room) (maybe (s, refused 11) (λ (r : Range). unless (eqb room 0) 8 s (stepping s v room (ahead r s.order) (left r s.order))) o)
  on_step v room none e = refuse (step v room) 11 (rw e)
  on_step v room (some r) e = on_unless (step v room) (eqb room 0) 8 (stepping s v room (ahead r s.order) (left r s.order)) (λ f. rw (e, f)) (λ f. advance v room r e f)

  on_close : (v : ℕ) (rs : List Range) → s.ranges ≡ rs → Effect s (close v) (close_from s v rs)
  unfolding close_from
  on_close v [] e = refuse (close v) 11 (rw e)
  on_close v (r ∷ rs) e =
      on_unless (close v) (lacks (range v (r ∷ rs))) 11 (closing s v r rs (named v r)) (λ f. rw (e, f)) (λ f. finish v r rs (named v r) e refl f)

  on_sweep : (d : ℕ) (q : List ℕ) → s.due ≡ d → s.queue ≡ q → Effect s sweep (sweeping s d q)
  unfolding sweeping
  on_sweep zero q e f = idle 0 e (rw e)
  on_sweep (suc d) [] e f = idle (suc d) e (rw (e, f))
  on_sweep (suc d) (i ∷ q) e f = clear i d q e f

  pub effect : (c : Call) → Effect s c (apply s c)
  unfolding apply
  effect (lookup k) = on_found k (get k (plain s)) refl
  effect (insert k v coin) = on_insert k v coin (get k (plain s)) refl
  effect (remove k) = on_remove k (first (filter (holds k) s.order)) refl
  effect (hand_over i) = on_hand i (first (filter (is i) s.order)) refl
  effect (ceil k) = on_near (ceil k) (asking (ceil k) refl) (ceil_of k (plain s)) refl
  effect (floor k) = on_near (floor k) (asking (floor k) refl) (floor_of k (plain s)) refl
  effect (succ k) = on_near (succ k) (asking (succ k) refl) (succ_of k (plain s)) refl
  effect (pred k) = on_near (pred k) (asking (pred k) refl) (pred_of k (plain s)) refl
  effect (fast l h room) = on_fast l h room
  effect («open» l h) = on_open l h
  effect (step v room) = on_step v room (range v s.ranges) refl
  effect (close v) = on_close v s.ranges refl
  effect sweep = on_sweep s.due s.queue refl refl
  effect tally = ask tally _ [] (asking tally refl) refl
