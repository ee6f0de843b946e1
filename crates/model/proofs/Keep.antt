-- Every call keeps a state well-formed.
-- Assumes nothing.
use mathlib.Core.Path.{◌≡◌, refl, sym, ap, ◌∙◌, subst}
use mathlib.Core.Bool.{Bool, true, false, not, cond, false≢true, true≢false, ◌&&◌}
use mathlib.Core.List.{List, [], ◌∷◌, ◌++◌, map}
use mathlib.Core.Option.{none, some}
use Prim.Native.Nat.{ℕ, suc, ◌≤◌, ◌<◌, ◌+◌}
use native.Mathlib.Omega.{arith}
use lib.ListN.{length, take, drop, length-append, length-map}
use lib.Dec.{leb, ltb, eqb}
use lib.IntN.{ℤ}
use borrow.Author.Tests.{leb-false, le-ltb, lt-leb, eqb-true, ne_eqb, not-true}
use Rattle.lists.specs.Holds.{All, Pairwise}
use Rattle.lists.specs.Filters.{keep, filter, first, last}
use Rattle.lists.proofs.Holding.{all_imp, all_imp₂, all_every, all_append, all_take, all_drop, pairwise_snoc}
use Rattle.lists.proofs.Filtering.{all_filter, all_passed, pairwise_filter}
use Rattle.model.specs.Keys.{eq_z}
use Rattle.model.specs.Plain.{Pair, get}
use Rattle.model.specs.Model.{Place, present, pending, retired, Node, pair_of, moved, is_present, lasts, may_rest, shown, plain, Range, State, Rest, lists, due_list, range_lists, held_in, stops, rest_after, ahead, left, new_range, new_node, stitch, holds, leave, is, unstitch, retire, hold, unseen, handing, opening, closing, stepping, named, rested, linking, leaving, freeing, tickets}
use Rattle.model.specs.WellFormed.{Before, Apart, Differ, Aged, Dated, Tall, is_retired, over, At, linked, Gone, Behind, Earlier, Rested, WellFormed}
use Rattle.model.proofs.Order.{eqb_sym}
use Rattle.model.proofs.Nodes.{Absent, only, linked_first, all_stitch, apart_stitch, sorted_stitch, length_stitch, filter_stitch, all_change, apart_change, sorted_change, length_change, seen_change, filter_unstitch, count_unstitch, length_unstitch, stops_stitch, stops_unstitch, stops_leave, stops_retire, holds_present, linked_change, linked_unstitch, witness, count_change}
use Rattle.model.proofs.Stops.{rested_step, rested_new}
use Rattle.model.proofs.Ranges.{all_hold, all_shut, all_move, one_range, rising_hold, rising_shut, rising_move, unseen_all, length_hold, length_shut, held_hold, held_shut, held_move, held_append}
use Rattle.model.proofs.Queue.{Listed, all_lists, all_versions, rise_lists, lists_open, lists_move, lists_close, lists_hand, behind_nodes, behind_joined, behind_open, behind_closed, behind_sweep, first_gone}

-- what a range rests on depends on what it may rest on
pub rested_same : (ns ns' : List Node) (r : Range) → stops r.version ns' ≡ stops r.version ns → Rested ns r → Rested ns' r
rested_same ns ns' r e w = record { found = rw e w.found; above = rw e w.above }

rested_all : (ns ns' : List Node) (rs : List Range) → All (λ r. stops r.version ns' ≡ stops r.version ns) rs → All (Rested ns) rs → All (Rested ns') rs
rested_all ns ns' rs e w = all_imp₂ (λ r. stops r.version ns' ≡ stops r.version ns) (Rested ns) (Rested ns') (rested_same ns ns') rs e w

-- ---- insert

pub absent : (k : ℤ) (ns : List Node) → get k (shown ns) ≡ none → All (Absent k) ns
absent k [] e = tt
absent k (n ∷ ns) e = go (is_present n) (eq_z n.key k) refl refl e (absent k ns)
  where
    go : (b c : Bool) → is_present n ≡ b → eq_z n.key k ≡ c → first (filter (λ (p : Pair). eq_z p.0 k) (map pair_of (keep b n (filter is_present ns)))) ≡ none
        → (get k (shown ns) ≡ none → All (Absent k) ns) → All (Absent k) (n ∷ ns)
    go true true p q f i = let z : ◌≡◌ {A = Bool} true false = cc (rw q at f) in absurd (true≢false z)
    go true false p q f i = (λ u. q, i (rw q at f))
    go false c p q f i = (λ u. absurd (true≢false (sym u ∙ p)), i f)

unlinked_apart : (i j : ℕ) (ns : List Node) → All (λ n. is i n ≡ false) ns → linked j ns → eqb i j ≡ false
unlinked_apart i j ns a l = ne_eqb i j (λ e. go ns (subst (λ (x : ℕ). All (λ n. is x n ≡ false) ns) e a) l)
  where
    go : (xs : List Node) → All (λ n. is j n ≡ false) xs → linked j xs → ⊥
    go [] b m = true≢false m
    go (x ∷ xs) b m = go xs b.1 (rw b.0 at m)

-- on a node removed before its version no range may rest
and_false : (b : Bool) → (b && false) ≡ false
and_false true = refl
and_false false = refl

pub gone_rests : (v i : ℕ) (ns : List Node) → Gone ns v i → At i (λ n. may_rest v n ≡ false) ns
gone_rests v i ns a =
    all_imp (λ n. is i n ≡ true → lasts v n.place ≡ false) (λ n. is i n ≡ true → may_rest v n ≡ false)
    (λ n h e. rw (h e) (and_false (ltb n.inserted v))) ns a

module _ (s : State) (w : WellFormed s) where
  -- of each open range, by its version
  open_all : (Q : Range → Type 0) → ((r : Range) → r.version ≤ s.counter → Q r) → All Q s.ranges
  open_all Q f = all_imp (λ (r : Range). r.version ≤ s.counter) Q f s.ranges w.past

  -- other linked nodes, where each retired one stays removed
  behind_to : (ns : List Node) → ((v j : ℕ) → linked j s.order → Gone s.order v j → Gone ns v j) → Behind ns (due_list s) (range_lists s)
  behind_to ns f =
      behind_nodes s.order ns (λ j. linked j s.order) f (due_list s) (range_lists s) (all_take (λ j. linked j s.order) s.due s.queue w.there)
      (all_lists (λ j. linked j s.order) (drop s.due s.queue) s.ranges (all_drop (λ j. linked j s.order) s.due s.queue w.there)) w.behind

  -- no open range may rest on another node than before
  abbrev Stays : List Node → Type 0
  Stays ns = All (λ (r : Range). stops r.version ns ≡ stops r.version s.order) s.ranges

  pub stays_insert : (i : ℕ) (k v : ℤ) (coin : ℕ) → Stays (stitch (new_node s i k v coin) s.order)
  stays_insert i k v coin =
      open_all (λ r. stops r.version (stitch (new_node s i k v coin) s.order) ≡ stops r.version s.order)
      (λ r h. stops_stitch r.version (new_node s i k v coin) s.order h)

  -- the node taken is linked
  full_insert : (k v : ℤ) (coin i : ℕ) (is' : List ℕ) → s.free ≡ i ∷ is'
      → length (linking s k v coin i is').0.order + length (linking s k v coin i is').0.free ≡ s.capacity
  full_insert k v coin i is' e =
      let le : length s.order + suc (length is') ≡ s.capacity = rw e at w.full in
      omega (arith, length_stitch (new_node s i k v coin) s.order)

  pub well_insert : (k v : ℤ) (coin i : ℕ) (is' : List ℕ) → s.free ≡ i ∷ is' → get k (plain s) ≡ none → WellFormed (linking s k v coin i is').0
  well_insert k v coin i is' e f =
      let n : Node = new_node s i k v coin in
      let un : All (λ j. All (λ m. is j m ≡ false) s.order) (i ∷ is') = rw e at w.unlinked in
      let sp : Pairwise Differ (i ∷ is') = rw e at w.spare in
      let be : All (λ j. j < s.capacity) (i ∷ is') = rw e at w.below in
      record {
        sorted = sorted_stitch n s.order refl (absent k s.order f) w.sorted;
        apart = apart_stitch n s.order un.0 w.apart;
        dated = all_stitch (Dated s.counter) n s.order (record { born = omega arith; aged = tt }) w.dated;
        tall = all_stitch (Tall s.levels) n s.order (record { least = omega (arith, w.grown); most = omega arith }) w.tall;
        bounded = all_stitch (λ m. m.number < s.capacity) n s.order be.0 w.bounded;
        spare = sp.1;
        unlinked =
            all_imp₂ (Differ i) (λ j. All (λ m. is j m ≡ false) s.order) (λ j. All (λ m. is j m ≡ false) (stitch n s.order))
            (λ j d a. all_stitch (λ m. is j m ≡ false) n s.order d a) is' sp.0 un.1;
        below = be.1;
        full = full_insert k v coin i is' e;
        queued =
            all_imp₂ (λ j. At j (λ m. is_retired m ≡ true) s.order) (λ j. linked j s.order) (λ j. At j (λ m. is_retired m ≡ true) (stitch n s.order))
            (λ j a l. all_stitch (λ m. is j m ≡ true → is_retired m ≡ true) n s.order
            (λ u. absurd (true≢false (sym u ∙ unlinked_apart i j s.order un.0 l))) a)
            s.queue w.queued w.there;
        single = w.single;
        there =
            all_imp (λ j. linked j s.order) (λ j. linked j (stitch n s.order))
            (λ j l. rw (filter_stitch (is j) n s.order (unlinked_apart i j s.order un.0 l)) l)
            s.queue w.there;
        whole = rw (filter_stitch is_retired n s.order refl) w.whole;
        listed = w.listed;
        behind =
            behind_to (stitch n s.order)
            (λ u j l a. all_stitch (λ m. is j m ≡ true → lasts u m.place ≡ false) n s.order
            (λ x. absurd (true≢false (sym x ∙ unlinked_apart i j s.order un.0 l))) a);
        rising = w.rising;
        past = w.past;
        rested =
            rested_all s.order (stitch n s.order) s.ranges (stays_insert i k v coin) w.rested;
        few = w.few;
        grown = w.grown;
      }

  -- ---- remove

  pub stays_remove : (k : ℤ) → Stays (leave s.counter k s.order)
  stays_remove k =
      open_all (λ r. stops r.version (leave s.counter k s.order) ≡ stops r.version s.order)
      (λ r h. stops_leave r.version s.counter k s.order h)

  pub well_remove : (k : ℤ) (i : ℕ) → WellFormed (leaving s k i).0
  well_remove k i =
      let c : ℕ = s.counter in
      record {
        sorted = sorted_change (holds k) (pending c) refl s.order w.sorted;
        apart = apart_change (holds k) (pending c) s.order w.apart;
        dated =
            all_change (Dated c) (Dated c) (holds k) (pending c) (λ m t d. record { born = d.born; aged = omega arith }) (λ m t d. d)
            s.order w.dated;
        tall =
            all_change (Tall s.levels) (Tall s.levels) (holds k) (pending c) (λ m t d. record { least = d.least; most = d.most })
            (λ m t d. d) s.order w.tall;
        bounded =
            all_change (λ m. m.number < s.capacity) (λ m. m.number < s.capacity) (holds k) (pending c) (λ m t d. d) (λ m t d. d)
            s.order w.bounded;
        spare = w.spare;
        unlinked =
            all_imp (λ j. All (λ m. is j m ≡ false) s.order) (λ j. All (λ m. is j m ≡ false) (leave c k s.order))
            (λ j a. all_change (λ m. is j m ≡ false) (λ m. is j m ≡ false) (holds k) (pending c) (λ m t d. d) (λ m t d. d) s.order a)
            s.free w.unlinked;
        below = w.below;
        full = rw (length_change (holds k) (pending c) s.order) w.full;
        queued =
            all_imp (λ j. At j (λ m. is_retired m ≡ true) s.order) (λ j. At j (λ m. is_retired m ≡ true) (leave c k s.order))
            (λ j a. all_change (λ m. is j m ≡ true → is_retired m ≡ true) (λ m. is j m ≡ true → is_retired m ≡ true) (holds k) (pending c)
            (λ m t d u. absurd (false≢true (rw (holds_present k m t) at (d u)))) (λ m t d. d) s.order a)
            s.queue w.queued;
        single = w.single;
        there =
            all_imp (λ j. linked j s.order) (λ j. linked j (leave c k s.order)) (λ j l. linked_change j (holds k) (pending c) s.order l)
            s.queue w.there;
        whole =
            sym (length-map (filter is_retired (leave c k s.order)) (λ (m : Node). m.number))
            ∙ ap length (seen_change (λ (m : Node). m.number) is_retired (holds k) (pending c) s.order
            (all_every (λ m. holds k m ≡ true → (is_retired (moved (pending c) m) ≡ is_retired m) × (m.number ≡ m.number))
            (λ m t. (rw (holds_present k m t), refl)) s.order))
            ∙ length-map (filter is_retired s.order) (λ (m : Node). m.number) ∙ w.whole;
        listed = w.listed;
        behind =
            behind_to (leave c k s.order)
            (λ u j l a. all_change (λ m. is j m ≡ true → lasts u m.place ≡ false) (λ m. is j m ≡ true → lasts u m.place ≡ false) (holds k) (pending c)
            (λ m t d x. absurd (true≢false (rw (holds_present k m t) at (d x)))) (λ m t d. d) s.order a);
        rising = w.rising;
        past = w.past;
        rested = rested_all s.order (leave c k s.order) s.ranges (stays_remove k) w.rested;
        few = w.few;
        grown = w.grown;
      }

  -- ---- a node is unstitched and free

  module _ (i : ℕ) (l : linked i s.order) where
    spare_free : Pairwise Differ (i ∷ s.free)
    spare_free = (
      all_imp (λ j. All (λ m. is j m ≡ false) s.order) (Differ i) (λ j a. eqb_sym j i (unlinked_apart j i s.order a l)) s.free w.unlinked,
      w.spare,
    )

    unlinked_free : All (λ j. All (λ m. is j m ≡ false) (unstitch i s.order)) (i ∷ s.free)
    unlinked_free = (
      all_imp (λ m. not (is i m) ≡ true) (λ m. is i m ≡ false) (λ m e. not-true (is i m) e) (unstitch i s.order) (all_passed (λ m. not (is i m)) s.order),
      all_imp (λ j. All (λ m. is j m ≡ false) s.order) (λ j. All (λ m. is j m ≡ false) (unstitch i s.order))
          (λ j a. all_filter (λ m. is j m ≡ false) (λ m. not (is i m)) s.order a) s.free w.unlinked,
    )

    below_free : All (λ j. j < s.capacity) (i ∷ s.free)
    below_free =
        let x = witness (λ m. m.number < s.capacity) i s.order
        (all_imp (λ m. m.number < s.capacity) (λ m. is i m ≡ true → m.number < s.capacity) (λ m h u. h) s.order w.bounded) l in
        (subst (λ (j : ℕ). j < s.capacity) (eqb-true x.0.number i x.1) x.2, w.below)

    gone_free : (v j : ℕ) → linked j s.order → Gone s.order v j → Gone (unstitch i s.order) v j
    gone_free v j m a = all_filter (λ n. is j n ≡ true → lasts v n.place ≡ false) (λ n. not (is i n)) s.order a

    queued_free : (q : List ℕ) → All (λ j. At j (λ m. is_retired m ≡ true) s.order) q → All (λ j. At j (λ m. is_retired m ≡ true) (unstitch i s.order)) q
    queued_free q a =
        all_imp (λ j. At j (λ m. is_retired m ≡ true) s.order) (λ j. At j (λ m. is_retired m ≡ true) (unstitch i s.order))
        (λ j b. all_filter (λ m. is j m ≡ true → is_retired m ≡ true) (λ m. not (is i m)) s.order b) q a

    there_free : (q : List ℕ) → All (Differ i) q → All (λ j. linked j s.order) q → All (λ j. linked j (unstitch i s.order)) q
    there_free q d a =
        all_imp₂ (Differ i) (λ j. linked j s.order) (λ j. linked j (unstitch i s.order)) (λ j e m. linked_unstitch i j s.order e m) q d a

  -- ---- hand over

  module _ (i r t : ℕ) (n : Node) (f : first (filter (is i) s.order) ≡ some n) (e : n.place ≡ pending r) (u : n.inserted ≡ t) where
    pub at_place : At i (λ m. m.place ≡ pending r) s.order
    at_place = only (λ m. m.place ≡ pending r) i n s.order w.apart f e

    pub at_born : At i (λ m. m.inserted ≡ t) s.order
    at_born = only (λ m. m.inserted ≡ t) i n s.order w.apart f u

    lk : linked i s.order
    lk = linked_first i n s.order f

    unqueued : All (Differ i) s.queue
    unqueued =
        all_imp (λ j. At j (λ m. is_retired m ≡ true) s.order) (Differ i)
        (λ j a. ne_eqb i j (λ q. clash j q a)) s.queue w.queued
      where
        clash : (j : ℕ) → i ≡ j → At j (λ m. is_retired m ≡ true) s.order → ⊥
        clash j q a =
            let x = witness (λ m. m.place ≡ pending r) i s.order at_place lk in
            let y = witness (λ m. (is_retired m ≡ true) × (m.place ≡ pending r)) i s.order
            (all_imp₂ (λ m. is i m ≡ true → is_retired m ≡ true) (λ m. is i m ≡ true → m.place ≡ pending r)
            (λ m. is i m ≡ true → (is_retired m ≡ true) × (m.place ≡ pending r)) (λ m g h v. (g v, h v)) s.order
            (subst (λ (k : ℕ). At k (λ m. is_retired m ≡ true) s.order) (sym q) a) at_place) lk in
            false≢true (rw y.2.1 at y.2.0)

    pub stays_free : All (λ (q : Range). q.version ≤ t) s.ranges → Stays (unstitch i s.order)
    stays_free a =
        all_imp (λ (q : Range). q.version ≤ t) (λ (q : Range). stops q.version (unstitch i s.order) ≡ stops q.version s.order)
        (λ q h. stops_unstitch q.version i s.order
        (all_imp (λ m. is i m ≡ true → m.inserted ≡ t) (λ m. is i m ≡ true → may_rest q.version m ≡ false)
        (λ m g v. rw (le-ltb m.inserted q.version (omega (arith, g v, h)))) s.order at_born)) s.ranges a

    pub well_free : unseen t (last s.ranges) ≡ true → WellFormed (handing s i r true).0
    well_free g =
        record {
          sorted = pairwise_filter Before (λ m. not (is i m)) s.order w.sorted;
          apart = pairwise_filter Apart (λ m. not (is i m)) s.order w.apart;
          dated = all_filter (Dated s.counter) (λ m. not (is i m)) s.order w.dated;
          tall = all_filter (Tall s.levels) (λ m. not (is i m)) s.order w.tall;
          bounded = all_filter (λ m. m.number < s.capacity) (λ m. not (is i m)) s.order w.bounded;
          spare = spare_free i lk;
          unlinked = unlinked_free i lk;
          below = below_free i lk;
          full = omega (arith, length_unstitch i s.order w.apart lk, w.full);
          queued = queued_free i lk s.queue w.queued;
          single = w.single;
          there = there_free i lk s.queue unqueued w.there;
          whole =
              rw (filter_unstitch is_retired i s.order
              (all_imp (λ m. is i m ≡ true → m.place ≡ pending r) (λ m. is i m ≡ true → is_retired m ≡ false) (λ m h v. rw (h v)) s.order at_place))
              w.whole;
          listed = w.listed;
          behind = behind_to (unstitch i s.order) (gone_free i lk);
          rising = w.rising;
          past = w.past;
          rested = rested_all s.order (unstitch i s.order) s.ranges (stays_free (unseen_all t s.ranges w.rising g)) w.rested;
          few = w.few;
          grown = w.grown;
        }

    pub stays_retire : Stays (retire i r s.order)
    stays_retire =
        open_all (λ q. stops q.version (retire i r s.order) ≡ stops q.version s.order)
        (λ q h. stops_retire q.version i r s.order at_place)

    -- a property of each node that knows what is at the number
    with_place : (P : Node → Type 0) → All P s.order → All (λ m. P m × (is i m ≡ true → m.place ≡ pending r)) s.order
    with_place P a =
        all_imp₂ P (λ m. is i m ≡ true → m.place ≡ pending r) (λ m. P m × (is i m ≡ true → m.place ≡ pending r)) (λ m h g. (h, g)) s.order a at_place

    pub well_retire : unseen t (last s.ranges) ≡ false → WellFormed (handing s i r false).0
    well_retire g =
        record {
          sorted = sorted_change (is i) (retired r) refl s.order w.sorted;
          apart = apart_change (is i) (retired r) s.order w.apart;
          dated =
              all_change (λ m. Dated s.counter m × (is i m ≡ true → m.place ≡ pending r)) (Dated s.counter) (is i) (retired r)
              (λ m v d. record { born = d.0.born; aged = subst (Aged s.counter) (d.1 v) d.0.aged }) (λ m v d. d.0)
              s.order (with_place (Dated s.counter) w.dated);
          tall =
              all_change (Tall s.levels) (Tall s.levels) (is i) (retired r) (λ m v d. record { least = d.least; most = d.most })
              (λ m v d. d) s.order w.tall;
          bounded =
              all_change (λ m. m.number < s.capacity) (λ m. m.number < s.capacity) (is i) (retired r) (λ m v d. d) (λ m v d. d)
              s.order w.bounded;
          spare = w.spare;
          unlinked =
              all_imp (λ j. All (λ m. is j m ≡ false) s.order) (λ j. All (λ m. is j m ≡ false) (retire i r s.order))
              (λ j a. all_change (λ m. is j m ≡ false) (λ m. is j m ≡ false) (is i) (retired r) (λ m v d. d) (λ m v d. d) s.order a)
              s.free w.unlinked;
          below = w.below;
          full = rw (length_change (is i) (retired r) s.order) w.full;
          queued =
              all_append (λ j. At j (λ m. is_retired m ≡ true) (retire i r s.order)) s.queue (i ∷ [])
              (all_imp (λ j. At j (λ m. is_retired m ≡ true) s.order) (λ j. At j (λ m. is_retired m ≡ true) (retire i r s.order))
              (λ j a. all_change (λ m. is j m ≡ true → is_retired m ≡ true) (λ m. is j m ≡ true → is_retired m ≡ true) (is i) (retired r)
              (λ m v d x. refl) (λ m v d. d) s.order a)
              s.queue w.queued) (
                all_change (λ m. m.number < s.capacity) (λ m. is i m ≡ true → is_retired m ≡ true) (is i) (retired r)
                    (λ m v d x. refl) (λ m v d x. absurd (true≢false (sym x ∙ v))) s.order w.bounded,
                tt,
              );
          single = pairwise_snoc Differ s.queue i w.single (all_imp (Differ i) (λ j. Differ j i) (λ j d. eqb_sym i j d) s.queue unqueued);
          there =
              all_imp (λ j. linked j s.order) (λ j. linked j (retire i r s.order)) (λ j l. linked_change j (is i) (retired r) s.order l)
              (s.queue ++ (i ∷ [])) (all_append (λ j. linked j s.order) s.queue (i ∷ []) w.there (lk, tt));
          whole =
              count_change is_retired i (retired r) s.order w.apart lk
              (all_imp (λ m. is i m ≡ true → m.place ≡ pending r) (λ m. is i m ≡ true → (is_retired m ≡ false) × (true ≡ true))
              (λ m h v. (rw (h v), refl)) s.order at_place)
              ∙ ap suc w.whole ∙ omega (arith, length-append s.queue (i ∷ []));
          listed = more s.ranges refl g;
          behind = held s.ranges refl g;
          rising = rising_hold s.ranges w.rising;
          past = all_hold (λ (q : Range). q.version ≤ s.counter) (λ h q a. a) s.ranges w.past;
          rested =
              all_hold (Rested (retire i r s.order)) (λ h q a. record { found = a.found; above = a.above }) s.ranges
              (rested_all s.order (retire i r s.order) s.ranges stays_retire w.rested);
          few = rw (length_hold s.ranges) w.few;
          grown = w.grown;
        }
      where
        same : Behind (retire i r s.order) (due_list s) (range_lists s)
        same =
            behind_to (retire i r s.order)
            (λ u j l a. all_change (λ m. (is j m ≡ true → lasts u m.place ≡ false) × (is i m ≡ true → m.place ≡ pending r))
            (λ m. is j m ≡ true → lasts u m.place ≡ false) (is i) (retired r) (λ m v d x. rw (d.1 v) at (d.0 x)) (λ m v d. d.0) s.order
            (with_place (λ m. is j m ≡ true → lasts u m.place ≡ false) a))

        more : (rs : List Range) → s.ranges ≡ rs → unseen t (last rs) ≡ false → s.due + held_in (hold s.ranges) ≡ length (s.queue ++ (i ∷ []))
        more [] o h = absurd (true≢false h)
        more (q ∷ rs) o h = omega (arith, w.listed, ap held_in o, ap (λ (x : List Range). held_in (hold x)) o, held_hold q rs, length-append s.queue (i ∷ []))

        held : (rs : List Range) → s.ranges ≡ rs → unseen t (last rs) ≡ false
            → Behind (retire i r s.order) (due_list (handing s i r false).0) (range_lists (handing s i r false).0)
        held [] o h = absurd (true≢false h)
        held (q ∷ rs) o h =
            let e = lists_hand s w.listed i r q rs o in
            rw (e.0, e.1) (behind_joined (retire i r s.order) i (due_list s) (range_lists s) same)

  -- ---- sweep

  module _ (i d : ℕ) (q : List ℕ) (e : s.queue ≡ i ∷ q) (f : s.due ≡ suc d) where
    be : Behind s.order (i ∷ take d q) (lists (drop d q) s.ranges)
    be = rw (e, f) at w.behind

    -- those due, and the lists
    du : All (λ j. linked j s.order) (take d q)
    du = all_take (λ j. linked j s.order) d q (rw e at w.there).1

    li : All (λ (l : Listed). All (λ j. linked j s.order) l.1) (lists (drop d q) s.ranges)
    li = all_lists (λ j. linked j s.order) (drop d q) s.ranges (all_drop (λ j. linked j s.order) d q (rw e at w.there).1)

    th : All (λ j. linked j s.order) (i ∷ q)
    th = rw e at w.there

    qu : All (λ j. At j (λ m. is_retired m ≡ true) s.order) (i ∷ q)
    qu = rw e at w.queued

    si : Pairwise Differ (i ∷ q)
    si = rw e at w.single

    pub gone : At i (λ m. is_retired m ≡ true) s.order
    gone = qu.0

    pub stays_sweep : Stays (unstitch i s.order)
    stays_sweep =
        all_imp (λ (r : Range). Gone s.order r.version i) (λ (r : Range). stops r.version (unstitch i s.order) ≡ stops r.version s.order)
        (λ r a. stops_unstitch r.version i s.order (gone_rests r.version i s.order a)) s.ranges
        (all_versions (λ v. Gone s.order v i) (drop d q) s.ranges
        (first_gone s.order i (take d q) (lists (drop d q) s.ranges) (rise_lists (drop d q) s.ranges w.rising) be))

    pub well_sweep : WellFormed (freeing s d i q).0
    well_sweep =
        record {
          sorted = pairwise_filter Before (λ m. not (is i m)) s.order w.sorted;
          apart = pairwise_filter Apart (λ m. not (is i m)) s.order w.apart;
          dated = all_filter (Dated s.counter) (λ m. not (is i m)) s.order w.dated;
          tall = all_filter (Tall s.levels) (λ m. not (is i m)) s.order w.tall;
          bounded = all_filter (λ m. m.number < s.capacity) (λ m. not (is i m)) s.order w.bounded;
          spare = spare_free i th.0;
          unlinked = unlinked_free i th.0;
          below = below_free i th.0;
          full = omega (arith, length_unstitch i s.order w.apart th.0, w.full);
          queued = queued_free i th.0 q qu.1;
          single = si.1;
          there = there_free i th.0 q si.0 th.1;
          whole = omega (arith, count_unstitch is_retired i s.order w.apart th.0 gone, w.whole, ap length e);
          listed = omega (arith, w.listed, f, ap length e);
          behind =
              behind_nodes s.order (unstitch i s.order) (λ j. linked j s.order) (gone_free i th.0) (take d q) (lists (drop d q) s.ranges) du li
              (behind_sweep s.order i (take d q) (lists (drop d q) s.ranges) be);
          rising = w.rising;
          past = w.past;
          rested = rested_all s.order (unstitch i s.order) s.ranges stays_sweep w.rested;
          few = w.few;
          grown = w.grown;
        }

  -- ---- open

  pub well_open : (l h : ℤ) → leb tickets (length s.ranges) ≡ false → WellFormed (opening s (suc s.counter) l h).0
  well_open l h e =
      let v : ℕ = suc s.counter in
      let n : Range = new_range v l h s.order in
      record {
        sorted = w.sorted;
        apart = w.apart;
        dated = all_imp (Dated s.counter) (Dated v) (λ m d. record { born = omega (arith, d.born); aged = older m.place d.aged }) s.order w.dated;
        tall = w.tall;
        bounded = w.bounded;
        spare = w.spare;
        unlinked = w.unlinked;
        below = w.below;
        full = w.full;
        queued = w.queued;
        single = w.single;
        there = w.there;
        whole = w.whole;
        listed = omega (arith, w.listed, held_append s.ranges n);
        behind =
            rw (lists_open (drop s.due s.queue) s.ranges n refl)
            (behind_open s.order v (due_list s) (range_lists s) (all_take (Gone s.order v) s.due s.queue gone_all)
            (all_lists (Gone s.order v) (drop s.due s.queue) s.ranges (all_drop (Gone s.order v) s.due s.queue gone_all)) w.behind);
        rising = pairwise_snoc Earlier s.ranges n w.rising (all_imp (λ (r : Range). r.version ≤ s.counter) (λ (r : Range). r.version < v) (λ r a. omega (arith, a)) s.ranges w.past);
        past =
            all_append (λ (r : Range). r.version ≤ v) s.ranges (n ∷ [])
            (all_imp (λ (r : Range). r.version ≤ s.counter) (λ (r : Range). r.version ≤ v) (λ r a. omega (arith, a)) s.ranges w.past)
            (omega arith, tt);
        rested = all_append (Rested s.order) s.ranges (n ∷ []) w.rested (rested_new v l h s.order w.sorted w.apart, tt);
        few = omega (arith, length-append s.ranges (n ∷ []), leb-false tickets (length s.ranges) e);
        grown = w.grown;
      }
    where
      older : (p : Place) → Aged s.counter p → Aged (suc s.counter) p
      older present a = tt
      older (pending r) a = omega arith
      older (retired r) a = omega arith

      -- a retired node was removed no later than the counter
      ended : (p : Place) → Aged s.counter p → over p ≡ true → lasts (suc s.counter) p ≡ false
      ended present a o = absurd (false≢true o)
      ended (pending r) a o = absurd (false≢true o)
      ended (retired r) a o = lt-leb (suc s.counter) r (omega arith)

      gone_all : All (Gone s.order (suc s.counter)) s.queue
      gone_all =
          all_imp (λ j. At j (λ m. is_retired m ≡ true) s.order) (Gone s.order (suc s.counter))
          (λ j a. all_imp₂ (Dated s.counter) (λ m. is j m ≡ true → is_retired m ≡ true) (λ m. is j m ≡ true → lasts (suc s.counter) m.place ≡ false)
          (λ m d g x. ended m.place d.aged (g x)) s.order w.dated a)
          s.queue w.queued

  -- ---- step

  pub well_step : (v room : ℕ) (r : Range) → first (filter (named v) s.ranges) ≡ some r
      → WellFormed (stepping s v room (ahead r s.order) (left r s.order)).0
  well_step v room r e =
      record {
        sorted = w.sorted;
        apart = w.apart;
        dated = w.dated;
        tall = w.tall;
        bounded = w.bounded;
        spare = w.spare;
        unlinked = w.unlinked;
        below = w.below;
        full = w.full;
        queued = w.queued;
        single = w.single;
        there = w.there;
        whole = w.whole;
        listed = rw (held_move v x s.ranges) w.listed;
        behind = rw (lists_move v x (drop s.due s.queue) s.ranges) w.behind;
        rising = rising_move v x s.ranges w.rising;
        past = all_move (λ (q : Range). q.version ≤ s.counter) (λ (q : Range). q.version ≤ s.counter) v x (λ q a u. a) (λ q a. a) s.ranges w.past;
        rested =
            all_move (λ q. Rested s.order q × (named v q ≡ true → q ≡ r)) (Rested s.order) v x
            (λ q a u. subst (λ (p : Range). Rested s.order (rested x p)) (sym (a.1 u))
            (rested_step r room s.order w.sorted w.apart (subst (Rested s.order) (a.1 u) a.0)))
            (λ q a. a.0) s.ranges
            (all_imp₂ (Rested s.order) (λ q. named v q ≡ true → q ≡ r) (λ q. Rested s.order q × (named v q ≡ true → q ≡ r)) (λ q a b. (a, b)) s.ranges
            w.rested (one_range v r s.ranges w.rising e));
        few = rw (length-map s.ranges (λ (q : Range). cond (named v q) (rested x q) q)) w.few;
        grown = w.grown;
      }
    where
      x : Rest
      x = rest_after room (ahead r s.order) (left r s.order)

  -- ---- close

  pub well_close : (v : ℕ) (r : Range) (rs : List Range) → s.ranges ≡ r ∷ rs → (b : Bool) → named v r ≡ b → WellFormed (closing s v r rs b).0
  well_close v r rs e b f = go b be ri pa re fe li
    where
      be : Behind s.order (due_list (closing s v r rs b).0) (range_lists (closing s v r rs b).0)
      be =
          subst (λ (p : List ℕ × List Listed). Behind s.order p.0 p.1) (sym (lists_close s v r rs e b f))
          (behind_closed s.order v (due_list s) (range_lists s) (rise_lists (drop s.due s.queue) s.ranges w.rising) w.behind)

      ri : Pairwise Earlier (r ∷ rs)
      ri = rw e at w.rising

      pa : All (λ (q : Range). q.version ≤ s.counter) (r ∷ rs)
      pa = rw e at w.past

      re : All (Rested s.order) (r ∷ rs)
      re = rw e at w.rested

      fe : suc (length rs) ≤ tickets
      fe = rw e at w.few

      li : s.due + (r.held + held_in rs) ≡ length s.queue
      li = rw e at w.listed

      go : (t : Bool) → Behind s.order (due_list (closing s v r rs t).0) (range_lists (closing s v r rs t).0) → Pairwise Earlier (r ∷ rs)
          → All (λ (q : Range). q.version ≤ s.counter) (r ∷ rs) → All (Rested s.order) (r ∷ rs) → suc (length rs) ≤ tickets
          → s.due + (r.held + held_in rs) ≡ length s.queue → WellFormed (closing s v r rs t).0
      go true be ri pa re fe li =
          record {
            sorted = w.sorted;
            apart = w.apart;
            dated = w.dated;
            tall = w.tall;
            bounded = w.bounded;
            spare = w.spare;
            unlinked = w.unlinked;
            below = w.below;
            full = w.full;
            queued = w.queued;
            single = w.single;
            there = w.there;
            whole = w.whole;
            listed = omega arith;
            behind = be;
            rising = ri.1;
            past = pa.1;
            rested = re.1;
            few = omega arith;
            grown = w.grown;
          }
      go false be ri pa re fe li =
          record {
            sorted = w.sorted;
            apart = w.apart;
            dated = w.dated;
            tall = w.tall;
            bounded = w.bounded;
            spare = w.spare;
            unlinked = w.unlinked;
            below = w.below;
            full = w.full;
            queued = w.queued;
            single = w.single;
            there = w.there;
            whole = w.whole;
            listed = omega (arith, held_shut v r rs);
            behind = be;
            rising = rising_shut v r rs ri;
            past = all_shut (λ (q : Range). q.version ≤ s.counter) (λ h q a. a) v r rs pa.0 pa.1;
            rested = all_shut (Rested s.order) (λ h q a. record { found = a.found; above = a.above }) v r rs re.0 re.1;
            few = omega (arith, length_shut v r rs);
            grown = w.grown;
          }
