-- Demand 3: what the steps of a range hand out is what the plain map had in its bounds at the opening.
-- Assumes nothing.
use mathlib.Core.Path.{◌≡◌, refl, sym, ap, ◌∙◌, subst}
use mathlib.Core.Bool.{Bool, true, false, cond, false≢true, true≢false, ◌&&◌, ◌||◌}
use mathlib.Core.List.{List, [], ◌∷◌, ◌++◌, map, append_assoc, append-nil}
use mathlib.Core.Option.{some}
use Prim.Native.Nat.{ℕ, zero, suc, ◌≤◌}
use native.Mathlib.Omega.{arith}
use lib.ListN.{length, take, drop, take-append-drop}
use lib.Seq.{drop_at, take-nil, drop-nil, drop-length}
use lib.Dec.{leb, eqb}
use lib.IntN.{ℤ}
use lib.Signed.{lt_z}
use borrow.Author.Tests.{eqb-true, eqb-false, ne_eqb, eq-eqb, le-ltb}
use Rattle.lists.specs.Holds.{All, Pairwise}
use Rattle.lists.specs.Filters.{keep, filter, first, empty}
use Rattle.lists.proofs.Holding.{all_imp, all_imp₂, all_map}
use Rattle.lists.proofs.Filtering.{all_filter, pairwise_filter, filter_none, first_passes, first_all, first_append, first_snoc}
use Rattle.model.specs.Keys.{within}
use Rattle.model.specs.Plain.{Pair, between}
use Rattle.model.specs.Calls.{Call, insert, remove, hand_over, fast, «open», step, close, sweep, Answer, refused, answered, pairs_in, number, ranged, opened, stepped, swept}
use Rattle.model.specs.Model.{Node, pair_of, is_present, is, may_rest, Rest, Range, State, plain, Outcome, fast_limit, tickets, Stop, stops, rest_after, new_range, new_node, stitch, leave, unstitch, retire, gain, hold, shut, linking, leaving, handing, opening, stepping, closing, freeing, ahead, inside, left, rested, move_on, named, range, pairs_of, apply, next, answer, after, history}
use Rattle.model.specs.WellFormed.{Apart, Dated, Rested, WellFormed}
use Rattle.model.specs.Demands.{Below, steps, closes, handed_out, finished_in, Promise, Demand3}
use Rattle.model.proofs.Nodes.{others}
use Rattle.model.proofs.Ranges.{unseen_all}
use Rattle.model.proofs.Stops.{left_step, snapshot, stops_new, rests_new, pairs_inside}
use Rattle.model.proofs.Effects.{Effect, refuse, ask, idle, link, depart, hand, begin, advance, finish, clear, effect}
use Rattle.model.proofs.Reached.{well_apply, well_after, kept}
use Rattle.model.proofs.Applied.{step_moves}
use Rattle.model.proofs.PlainMap.{refuses, plainly, shown_rises}
use Rattle.model.proofs.Keep as K

-- ---- a range of which the list alone has grown

pub record Same (r q : Range) : Type 0 where
  pub version : q.version ≡ r.version
  pub low : q.low ≡ r.low
  pub high : q.high ≡ r.high
  pub rest : q.rest ≡ r.rest

same_self : (r : Range) → Same r r
same_self r = record { version = refl; low = refl; high = refl; rest = refl }

left_same : (r q : Range) (ns : List Node) → Same r q → left q ns ≡ left r ns
left_same r q ns e = rw (e.version, e.low, e.high, e.rest)

Still : ℕ → List Range → Range → Type 0
Still v rs r = (q : Range) × (range v rs ≡ some q) × Same r q

still_hold : (v : ℕ) (r : Range) (rs : List Range) → range v rs ≡ some r → Still v (hold rs) r
unfolding Still
still_hold v r [] e = (r, e, same_self r)
still_hold v r (p ∷ []) e = go (named v p) e
  where
    go : (b : Bool) → first (keep b p []) ≡ some r → (q : Range) × (first (keep b (gain 1 p) []) ≡ some q) × Same r q
    go true f = let z : p ≡ r = cc in (gain 1 p, refl, subst (λ (u : Range). Same u (gain 1 p)) z (record { version = refl; low = refl; high = refl; rest = refl }))
    go false f = let z : ◌≡◌ {A = Bool} true false = cc in absurd (true≢false z)
still_hold v r (p ∷ q ∷ rs) e = go (named v p) e (still_hold v r (q ∷ rs))
  where
    go : (b : Bool) → first (keep b p (filter (named v) (q ∷ rs))) ≡ some r
        → (range v (q ∷ rs) ≡ some r → (x : Range) × (range v (hold (q ∷ rs)) ≡ some x) × Same r x)
        → (x : Range) × (first (keep b p (filter (named v) (hold (q ∷ rs)))) ≡ some x) × Same r x
    go true f i = (r, f, same_self r)
    go false f i = i f

still_shut : (u v : ℕ) → eqb u v ≡ false → (r p : Range) (rs : List Range) → range v (p ∷ rs) ≡ some r → Still v (shut u p rs) r
unfolding Still
still_shut u v d r p [] e = (r, e, same_self r)
still_shut u v d r p (x ∷ rs) e = go (named u x) (named v p) refl refl e (still_shut u v d r x rs)
  where
    miss : named u x ≡ true → named v x ≡ false
    miss t = ne_eqb x.version v (λ g. eqb-false u v d (sym (eqb-true x.version u t) ∙ g))

    go : (b c : Bool) → named u x ≡ b → named v p ≡ c → first (keep c p (filter (named v) (x ∷ rs))) ≡ some r
        → (range v (x ∷ rs) ≡ some r → (q : Range) × (range v (shut u x rs) ≡ some q) × Same r q)
        → (q : Range) × (range v (cond b (gain x.held p ∷ rs) (p ∷ shut u x rs)) ≡ some q) × Same r q
    go true true t k f i =
        let z : p ≡ r = cc in
        (gain x.held p, rw k, subst (λ (y : Range). Same y (gain x.held p)) z (record { version = refl; low = refl; high = refl; rest = refl }))
    go true false t k f i = (r, rw k (rw (miss t) at f), same_self r)
    go false true t k f i = (r, rw k f, same_self r)
    go false false t k f i = let o = i f in (o.0, rw k o.1, o.2)

-- a step of another range, and of this one
range_other : (u v : ℕ) (x : Rest) → eqb u v ≡ false → (r : Range) (rs : List Range) → range v rs ≡ some r → range v (move_on u x rs) ≡ some r
range_other u v x d r [] e = e
range_other u v x d r (p ∷ rs) e = go (named u p) (named v p) refl refl e (range_other u v x d r rs)
  where
    go : (b c : Bool) → named u p ≡ b → named v p ≡ c → first (keep c p (filter (named v) rs)) ≡ some r → (range v rs ≡ some r → range v (move_on u x rs) ≡ some r)
        → range v (cond b (rested x p) p ∷ move_on u x rs) ≡ some r
    go true true t k f i = absurd (eqb-false u v d (sym (eqb-true p.version u t) ∙ eqb-true p.version v k))
    go true false t k f i = rw k (i f)
    go false true t k f i = rw k f
    go false false t k f i = rw k (i f)

range_own : (v : ℕ) (x : Rest) (r : Range) (rs : List Range) → range v rs ≡ some r → range v (move_on v x rs) ≡ some (rested x r)
range_own v x r [] e = let z : ◌≡◌ {A = Bool} true false = cc in absurd (true≢false z)
range_own v x r (p ∷ rs) e = go (named v p) refl e (range_own v x r rs)
  where
    go : (c : Bool) → named v p ≡ c → first (keep c p (filter (named v) rs)) ≡ some r → (range v rs ≡ some r → range v (move_on v x rs) ≡ some (rested x r))
        → range v (cond c (rested x p) p ∷ move_on v x rs) ≡ some (rested x r)
    go true k f i = let z : p ≡ r = cc in rw k (ap (λ (y : Range). some (rested x y)) z)
    go false k f i = rw k (i f)

-- ---- one call

-- the range is still open; it may rest where it might; what the call handed out for it and what is left are what was left; finished means none left
pub record Onward (v : ℕ) (r : Range) (s : State) (c : Call) (o : Outcome) : Type 0 where
  pub next : Range
  pub still : range v o.0.ranges ≡ some next
  pub kept : stops v o.0.order ≡ stops v s.order
  pub hands : cond (steps v c) (pairs_in o.1) [] ++ pairs_of (left next o.0.order) ≡ pairs_of (left r s.order)
  pub ends : (steps v c && eqb (number 1 o.1) 1) ≡ true → left next o.0.order ≡ []

module _ (s : State) (w : WellFormed s) (v : ℕ) (r : Range) (e : range v s.ranges ≡ some r) where
  its_version : r.version ≡ v
  its_version = eqb-true r.version v (first_passes (named v) r s.ranges e)

  -- a call that is no step of the range, where the range and what it may rest on stay
  along : (c : Call) (o : Outcome) → steps v c ≡ false → Still v o.0.ranges r → stops v o.0.order ≡ stops v s.order → Onward v r s c o
  unfolding Still
  along c o n q k =
      record {
        next = q.0;
        still = q.1;
        kept = k;
        hands = rw (n, left_same r q.0 o.0.order q.2, its_version, k);
        ends = λ t. absurd (true≢false (sym t ∙ rw n));
      }

  stays : (c : Call) (a : Answer) → steps v c ≡ false → Onward v r s c (s, a)
  unfolding Still
  stays c a n = along c (s, a) n (r, e, same_self r) refl

  its_stops : (ns : List Node) → All (λ (q : Range). stops q.version ns ≡ stops q.version s.order) s.ranges → stops v ns ≡ stops v s.order
  its_stops ns a =
      rw its_version at (first_all (named v) (λ (q : Range). stops q.version ns ≡ stops q.version s.order) r s.ranges e a)

  -- a step of this range
  onward_own : (room : ℕ) → Onward v r s (step v room) (stepping s v room (ahead r s.order) (left r s.order))
  onward_own room =
      record {
        next = rested x r;
        still = range_own v x r s.ranges e;
        kept = refl;
        hands = rw (is_own, ls) (map-append (take room (left r ns)) (drop room (left r ns)) ∙ ap pairs_of (take-append-drop room (left r ns)));
        ends = λ t. ls ∙ no_more (drop room (left r ns)) (rw is_own at t);
      }
    where
      ns : List Node
      ns = s.order

      wr : Rested ns r
      wr = first_all (named v) (Rested ns) r s.ranges e w.rested

      x : Rest
      x = rest_after room (ahead r ns) (left r ns)

      is_own : steps v (step v room) ≡ true
      is_own = eq-eqb v v refl

      ls : left (rested x r) ns ≡ drop room (left r ns)
      ls = left_step r room ns w.sorted w.apart wr

      map-append : (xs ys : List Stop) → pairs_of xs ++ pairs_of ys ≡ pairs_of (xs ++ ys)
      map-append [] ys = refl
      map-append (y ∷ xs) ys = ap (y.1 ∷◌) (map-append xs ys)

      no_more : (xs : List Stop) → eqb (cond (empty xs) 1 0) 1 ≡ true → xs ≡ []
      no_more [] h = refl
      no_more (y ∷ xs) h = absurd (false≢true h)

  onward_step : (u room : ℕ) (p : Range) → range u s.ranges ≡ some p → (b : Bool) → eqb u v ≡ b
      → Onward v r s (step u room) (stepping s u room (ahead p s.order) (left p s.order))
  unfolding Still
  onward_step u room p f true d =
      let z : u ≡ v = eqb-true u v d in
      let y : p ≡ r = cc in
      subst (λ (x : ℕ). Onward v r s (step x room) (stepping s x room (ahead p s.order) (left p s.order))) (sym z)
      (subst (λ (x : Range). Onward v r s (step v room) (stepping s v room (ahead x s.order) (left x s.order))) (sym y) (onward_own room))
  onward_step u room p f false d =
      along (step u room) (stepping s u room (ahead p s.order) (left p s.order)) d
      (r, range_other u v (rest_after room (ahead p s.order) (left p s.order)) d r s.ranges e, same_self r) refl

  onward_close : (u : ℕ) → eqb u v ≡ false → (p : Range) (rs : List Range) → s.ranges ≡ p ∷ rs → (b : Bool) → named u p ≡ b → Onward v r s (close u) (closing s u p rs b)
  unfolding Still
  onward_close u d p rs f true t =
      along (close u) (closing s u p rs true) refl
      (r, rw (ne_eqb p.version v (λ h. eqb-false u v d (sym (eqb-true p.version u t) ∙ h))) at (rw f at e), same_self r) refl
  onward_close u d p rs f false t = along (close u) (closing s u p rs false) refl (still_shut u v d r p rs (rw f at e)) refl

  -- a refused call hands out nothing
  onward_refuse : (c : Call) (n : ℕ) → Onward v r s c (s, refused n)
  onward_refuse c n = record { next = r; still = e; kept = refl; hands = go (steps v c); ends = none (steps v c) }
    where
      go : (b : Bool) → cond b [] [] ++ pairs_of (left r s.order) ≡ pairs_of (left r s.order)
      go true = refl
      go false = refl

      none : (b : Bool) → (b && false) ≡ true → left r s.order ≡ []
      none true t = absurd (false≢true t)
      none false t = absurd (false≢true t)

  onward_effect : (c : Call) (o : Outcome) → closes v c ≡ false → Effect s c o → Onward v r s c o
  unfolding Still
  onward_effect c o n (refuse c' m x) = onward_refuse c' m
  onward_effect c o n (ask c' xs ps a x) = stays c' (answered xs ps) (rw a.1.1.1.1.0)
  onward_effect c o n (idle d f g) = stays sweep (swept 0 d) refl
  onward_effect c o n (link k x coin i is' a f) =
      along (insert k x coin) (linking s k x coin i is') refl (r, e, same_self r)
      (its_stops (stitch (new_node s i k x coin) s.order) (K.stays_insert s w i k x coin))
  onward_effect c o n (depart k m a) =
      along (remove k) (leaving s k m.number) refl (r, e, same_self r) (its_stops (leave s.counter k s.order) (K.stays_remove s w k))
  onward_effect c o n (hand i t m true f p u) =
      along (hand_over i) (handing s i t true) refl (r, e, same_self r)
      (its_stops (unstitch i s.order) (K.stays_free s w i t m.inserted m f p refl (unseen_all m.inserted s.ranges w.rising u)))
  onward_effect c o n (hand i t m false f p u) =
      along (hand_over i) (handing s i t false) refl (still_hold v r s.ranges e)
      (its_stops (retire i t s.order) (K.stays_retire s w i t m.inserted m f p refl))
  onward_effect c o n (begin l h a b d) =
      along («open» l h) (opening s (suc s.counter) l h) refl
      (r, first_append (named v) r s.ranges (new_range (suc s.counter) l h s.order ∷ []) e, same_self r) refl
  onward_effect c o n (advance u room p f g) = onward_step u room p f (eqb u v) refl
  onward_effect c o n (finish u p rs b f g k) = onward_close u n p rs f b g
  onward_effect c o n (clear i d q f g) =
      along sweep (freeing s d i q) refl (r, e, same_self r) (its_stops (unstitch i s.order) (K.stays_sweep s w i d q g f))

  pub onward : (c : Call) → closes v c ≡ false → Onward v r s c (apply s c)
  onward c n = onward_effect c (apply s c) n (effect s c)

-- ---- many calls

pub record Along (v : ℕ) (r : Range) (s : State) (cs : List Call) : Type 0 where
  pub next : Range
  pub still : range v (after s cs).ranges ≡ some next
  pub kept : stops v (after s cs).order ≡ stops v s.order
  pub hands : handed_out v (history s cs) ++ pairs_of (left next (after s cs).order) ≡ pairs_of (left r s.order)
  pub ends : finished_in v (history s cs) ≡ true → left next (after s cs).order ≡ []

-- what is left of nothing is nothing
none_after : (xs : List Pair) (ys : List Stop) → xs ++ pairs_of ys ≡ [] → ys ≡ []
none_after xs [] e = refl
none_after [] (y ∷ ys) e = let z : ◌≡◌ {A = Bool} true false = cc in absurd (true≢false z)
none_after (x ∷ xs) (y ∷ ys) e = let z : ◌≡◌ {A = Bool} true false = cc in absurd (true≢false z)

pub along_all : (v : ℕ) (r : Range) (s : State) → WellFormed s → range v s.ranges ≡ some r → (cs : List Call) → All (λ (c : Call). closes v c ≡ false) cs
    → Along v r s cs
unfolding after history
along_all v r s w e [] n = record { next = r; still = e; kept = refl; hands = refl; ends = λ f. absurd (false≢true f) }
along_all v r s w e (c ∷ cs) n =
    let o : Onward v r s c (apply s c) = onward s w v r e c n.0 in
    let i : Along v o.next (next s c) cs = along_all v o.next (next s c) (well_apply s w c) o.still cs n.1 in
    record {
      next = i.next;
      still = i.still;
      kept = i.kept ∙ o.kept;
      hands =
          append_assoc (cond (steps v c) (pairs_in (answer s c)) []) (handed_out v (history (next s c) cs)) (pairs_of (left i.next (after (next s c) cs).order))
          ∙ ap (cond (steps v c) (pairs_in (answer s c)) [] ++◌) i.hands ∙ o.hands;
      ends = λ f. go (steps v c && eqb (number 1 (answer s c)) 1) o i refl f;
    }
  where
    go : (b : Bool) (o : Onward v r s c (apply s c)) (i : Along v o.next (next s c) cs) → (steps v c && eqb (number 1 (answer s c)) 1) ≡ b
        → (b || finished_in v (history (next s c) cs)) ≡ true → left i.next (after (next s c) cs).order ≡ []
    go true o i g f = none_after (handed_out v (history (next s c) cs)) (left i.next (after (next s c) cs).order) (i.hands ∙ ap pairs_of (o.ends g))
    go false o i g f = i.ends f

-- ---- the nodes of the list

-- each node that a range may rest on is linked once, with its pair
stops_linked : (v : ℕ) (ns : List Node) → Pairwise Apart ns → All (λ (x : Stop). map pair_of (filter (is x.0) ns) ≡ x.1 ∷ []) (stops v ns)
stops_linked v [] a = tt
stops_linked v (m ∷ ms) a = go (may_rest v m) (stops_linked v ms a.1)
  where
    other : All (λ (x : Stop). is x.0 m ≡ false) (stops v ms)
    other = all_map (λ (x : Stop). is x.0 m ≡ false) (λ (n : Node). (n.number, pair_of n)) (filter (may_rest v) ms) (all_filter (Apart m) (may_rest v) ms a.0)

    rest : All (λ (x : Stop). map pair_of (filter (is x.0) ms) ≡ x.1 ∷ []) (stops v ms) → All (λ (x : Stop). map pair_of (filter (is x.0) (m ∷ ms)) ≡ x.1 ∷ []) (stops v ms)
    rest i =
        all_imp₂ (λ (x : Stop). is x.0 m ≡ false) (λ (x : Stop). map pair_of (filter (is x.0) ms) ≡ x.1 ∷ []) (λ (x : Stop). map pair_of (filter (is x.0) (m ∷ ms)) ≡ x.1 ∷ [])
        (λ x e f. rw e f) (stops v ms) other i

    own : map pair_of (filter (is m.number) (m ∷ ms)) ≡ pair_of m ∷ []
    own =
        rw (eq-eqb m.number m.number refl, filter_none (is m.number) ms (others m.number m ms (eq-eqb m.number m.number refl) a.0))

    go : (b : Bool) → All (λ (x : Stop). map pair_of (filter (is x.0) ms) ≡ x.1 ∷ []) (stops v ms)
        → All (λ (x : Stop). map pair_of (filter (is x.0) (m ∷ ms)) ≡ x.1 ∷ []) (map (λ (n : Node). (n.number, pair_of n)) (keep b m (filter (may_rest v) ms)))
    go true i = (own, rest i)
    go false i = rest i

-- what holds of each of them, said of the nodes
all_rests : (P : Stop → Type 0) (v : ℕ) (ns : List Node) → All P (stops v ns) → All (λ (n : Node). may_rest v n ≡ true → P (n.number, pair_of n)) ns
all_rests P v [] a = tt
all_rests P v (n ∷ ns) a = go (may_rest v n) refl a (all_rests P v ns)
  where
    go : (b : Bool) → may_rest v n ≡ b → All P (map (λ (n : Node). (n.number, pair_of n)) (keep b n (filter (may_rest v) ns)))
        → (All P (stops v ns) → All (λ (n : Node). may_rest v n ≡ true → P (n.number, pair_of n)) ns)
        → All (λ (n : Node). may_rest v n ≡ true → P (n.number, pair_of n)) (n ∷ ns)
    go true e h i = (λ f. h.0, i h.1)
    go false e h i = (λ f. absurd (true≢false (sym f ∙ e)), i h)

-- ---- from the opening

map_take : (n : ℕ) (xs : List Stop) → pairs_of (take n xs) ≡ take n (pairs_of xs)
map_take zero xs = refl
map_take (suc n) [] = refl
map_take (suc n) (x ∷ xs) = ap (x.1 ∷◌) (map_take n xs)

empty_drop : (n : ℕ) (xs : List Stop) → empty (drop n xs) ≡ empty (drop n (pairs_of xs))
empty_drop zero [] = refl
empty_drop zero (x ∷ xs) = refl
empty_drop (suc n) [] = refl
empty_drop (suc n) (x ∷ xs) = empty_drop n xs

step_answer : (s : State) (v : ℕ) (r : Range) → range v s.ranges ≡ some r → (room : ℕ) → 1 ≤ room
    → answer s (step v room) ≡ stepped (take room (pairs_of (left r s.order))) (empty (drop room (pairs_of (left r s.order))))
step_answer s v r e room h =
    ap (λ (o : Outcome). o.1) (step_moves s v room r e (ne_eqb room 0 (λ z. omega arith)))
    ∙ rw (map_take room (left r s.order), empty_drop room (left r s.order))

step_none : (s : State) (v : ℕ) (r : Range) → range v s.ranges ≡ some r → answer s (step v 0) ≡ refused 8
step_none s v r e = ap (λ (o : Outcome). o.1) (refuses s (step v 0) 8 (rw e))

fast_answer_lem : (s : State) → WellFormed s → (l h : ℤ) (room : ℕ) → lt_z h l ≡ false → length (between l h (plain s)) ≤ fast_limit → length (between l h (plain s)) ≤ room
    → answer s (fast l h room) ≡ ranged (between l h (plain s))
fast_answer_lem s w l h room a b c =
    (plainly s w).fasts l h room (rw (a, le-ltb fast_limit (length (between l h (plain s))) b, le-ltb room (length (between l h (plain s))) c))

-- a range opened at s, of the version that comes next
module _ (s : State) (w : WellFormed s) (l h : ℤ) (a : lt_z h l ≡ false) (b : leb tickets (length s.ranges) ≡ false) (cs : List Call) where
  abbrev v₁ : ℕ
  v₁ = suc s.counter

  abbrev t : State
  t = (opening s v₁ l h).0

  abbrev r₁ : Range
  r₁ = new_range v₁ l h s.order

  found_new : range v₁ t.ranges ≡ some r₁
  found_new =
      first_snoc (named v₁) r₁ s.ranges
      (all_imp (λ (q : Range). q.version ≤ s.counter) (λ (q : Range). named v₁ q ≡ false) (λ q a. ne_eqb q.version v₁ (λ g. omega (arith, a, g))) s.ranges w.past)
      (eq-eqb v₁ v₁ refl)

  promised : All (λ (c : Call). closes v₁ c ≡ false) cs → Promise s l h v₁ t cs
  promised m =
      let k : Along v₁ r₁ t cs = along_all v₁ r₁ t (K.well_open s w l h b) found_new cs m in
      let g : handed_out v₁ (history t cs) ++ pairs_of (left k.next (after t cs).order) ≡ between l h (plain s) =
      k.hands ∙ snapshot s.counter l h s.order w.sorted w.apart w.dated in
      let d : drop (length (handed_out v₁ (history t cs))) (between l h (plain s)) ≡ pairs_of (left k.next (after t cs).order) =
      ap (drop (length (handed_out v₁ (history t cs)))) (sym g) ∙ drop_at (handed_out v₁ (history t cs)) (pairs_of (left k.next (after t cs).order)) _ refl in
      record {
        first_part = rw d g;
        once = pairwise_filter Below (λ (p : Pair). within l h p.0) (plain s) (shown_rises s.order w.sorted);
        finished = λ f. sym (append-nil (handed_out v₁ (history t cs))) ∙ ap (λ (xs : List Stop). handed_out v₁ (history t cs) ++ pairs_of xs) (sym (k.ends f)) ∙ g;
        further = λ room e. rw d (step_answer (after t cs) v₁ k.next k.still room e);
        no_room = step_none (after t cs) v₁ k.next k.still;
        fastly = λ room. fast_answer_lem s w l h room a;
        nodes = pairs_inside l h (stops v₁ s.order) ∙ ap (between l h) (stops_new s.counter s.order w.dated);
        order = ap (inside l h) k.kept;
        linked =
            all_imp₂ (Dated s.counter) (λ (n : Node). may_rest v₁ n ≡ true → map pair_of (filter (is n.number) (after t cs).order) ≡ pair_of n ∷ [])
            (λ (n : Node). is_present n ≡ true → within l h n.key ≡ true → map pair_of (filter (is n.number) (after t cs).order) ≡ pair_of n ∷ [])
            (λ n e f p q. f (rests_new s.counter n e ∙ p)) s.order w.dated
            (all_rests (λ (x : Stop). map pair_of (filter (is x.0) (after t cs).order) ≡ x.1 ∷ []) v₁ s.order
            (rw k.kept at (stops_linked v₁ (after t cs).order (well_after t (K.well_open s w l h b) cs).apart)));
      }

promise : (s : State) → WellFormed s → (l h : ℤ) (v : ℕ) (o : Outcome) → Effect s («open» l h) o → o.1 ≡ opened v
    → (cs : List Call) → All (λ (c : Call). closes v c ≡ false) cs → Promise s l h v o.0 cs
promise s w l h v o (refuse c n x) e cs m = let z : ◌≡◌ {A = Bool} true false = cc in absurd (true≢false z)
promise s w l h v o (ask c xs ps a x) e cs m = absurd (true≢false a.1.1.1.0)
promise s w l h v o (begin l' h' a b d) e cs m =
    let z : suc s.counter ≡ v = cc in
    subst (λ (u : ℕ). All (λ (c : Call). closes u c ≡ false) cs → Promise s l h u (opening s (suc s.counter) l h).0 cs) z (promised s w l h a b cs) m

pub demand3 : Demand3
demand3 capacity start s u before l h v e cs m =
    let t : State = after s before in
    promise t (kept capacity start s u before) l h v (apply t («open» l h)) (effect t («open» l h)) e cs m

-- LAW: a finished ticket goes on answering 0 and finished, to any room above 0, until closed
pub goes_on : (s : State) (l h : ℤ) (v : ℕ) (t : State) (cs : List Call) → Promise s l h v t cs → finished_in v (history t cs) ≡ true
    → (room : ℕ) → 1 ≤ room → answer (after t cs) (step v room) ≡ stepped [] true
goes_on s l h v t cs p f room e =
    p.further room e ∙ ap (λ (ps : List Pair). stepped (take room ps) (empty (drop room ps))) none ∙ rw (take-nil room, drop-nil room)
  where
    none : drop (length (handed_out v (history t cs))) (between l h (plain s)) ≡ []
    none = rw (p.finished f) (drop-length (between l h (plain s)))
