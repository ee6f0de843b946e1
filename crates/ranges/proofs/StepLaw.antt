-- What a step does to the tickets and the buffers means: the model's answer, the model's next state, and sound tables.
-- Assumes nothing.
use mathlib.Core.Path.{◌≡◌, refl, sym, ap, ap₂, ◌∙◌}
use mathlib.Core.Logic.{◌≢◌, ◌⊎◌, inl, inr}
use mathlib.Core.Bool.{cond}
use mathlib.Core.List.{List, [], ◌∷◌}
use Prim.Native.Nat.{ℕ, zero, suc, ◌≤◌, ◌<◌, ◌+◌}
use native.Mathlib.Omega.{arith}
use native.Mathlib.Decide.{dec_lt, ℕ_discrete}
use lib.ListN.{length, get_or, set, take, drop, length-set}
use lib.Dec.{eqb}
use lib.IntN.{ℤ, pos}
use borrow.Author.Tests.{eq-eqb, ne_eqb, lt-ltb, le-ltb}
use Rattle.lists.specs.Holds.{All, Pairwise}
use Rattle.lists.specs.Filters.{head_or}
use Rattle.lists.specs.Buffers.{written}
use Rattle.lists.proofs.Holding.{all_imp, all_drop}
use Rattle.sizes.specs.Rank.{key_of}
use Rattle.std.specs.Prelude.{Result}
use Rattle.model.specs.declared.Stepped.{Stepped}
use Rattle.model.specs.declared.Refusal.{Refusal}
use Rattle.model.specs.declared.Refusal.TheVariants.{NoSuchRange, TooFewPlaces}
use Rattle.model.specs.Model as M
use Rattle.model.specs.WellFormed.{Earlier, Rested}
use Rattle.model.specs.Calls.{step, refused}
use Rattle.model.specs.Answers.{of_stepped}
use Rattle.model.proofs.PlainMap.{refuses}
use Rattle.model.proofs.Applied.{step_moves}
use Rattle.tables.specs.declared.Ticket.{Ticket}
use Rattle.tables.specs.Tables.{Tables, capacity_of, Resting, Sound, Met, view, rest_of, range_of, ranges_of, nodes_of, ticket_at}
use Rattle.tables.proofs.Meeting.{met, met_same}
use Rattle.ranges.specs.Tickets.{index_of, with_tickets}
use Rattle.ranges.specs.Walk.{walk_of, stops, needed, handed, rest_after, keys_of, values_of}
use Rattle.ranges.specs.Step.{Case, refuse, at, stepping, step_nodes, rest_on, step_end, room_of, StepReady, step_given, SteppedBy, stepping_of, stepped_tables}
use Rattle.ranges.proofs.Mapping.{all_mapped}
use Rattle.ranges.proofs.Tickets.{named_ticket, range_found, range_lost, all_at, all_set}
use Rattle.ranges.proofs.Walking.{stops_nodes}
use Rattle.ranges.proofs.WalkLaw.{paired_written, stepping_nodes, ticket_ready, ahead_walk, left_walk}

-- ---- the ranges of the tickets

version_ticket : (cap : ℕ) (t : Ticket) → (range_of cap t).version ≡ t.version.0
unfolding range_of
version_ticket cap t = refl

rest_moved : (cap n : ℕ) (t : Ticket) → range_of cap (rest_on n t) ≡ M.rested (rest_of cap n) (range_of cap t)
unfolding range_of
rest_moved cap n t = refl

move_none : (v : ℕ) (x : M.Rest) (rs : List M.Range) → All (λ (r : M.Range). r.version ≢ v) rs → M.move_on v x rs ≡ rs
move_none v x [] a = refl
move_none v x (r ∷ rs) a = rw (ne_eqb r.version v a.0) (ap (r ∷◌) (move_none v x rs a.1))

-- LAW: the ticket found is moved on, and no other
ranges_moved : (cap v n k : ℕ) (ts : List Ticket) → index_of v k ts < k → Pairwise Earlier (ranges_of cap ts k)
    → ranges_of cap (set ts (index_of v k ts) (rest_on n (ticket_at ts (index_of v k ts)))) k ≡ M.move_on v (rest_of cap n) (ranges_of cap ts k)
ranges_moved cap v n zero ts h w = absurd (omega arith)
ranges_moved cap v n (suc k) [] h w = absurd (omega arith)
ranges_moved cap v n (suc k) (y ∷ ts) h w =
    rw (named_ticket cap v y) (go (ℕ_discrete y.version.0 v) h (λ g. ranges_moved cap v n k ts g w.1))
  where
    go : Dec (y.version.0 ≡ v) → cond (eqb y.version.0 v) 0 (suc (index_of v k ts)) < suc k
        → (index_of v k ts < k → ranges_of cap (set ts (index_of v k ts) (rest_on n (ticket_at ts (index_of v k ts)))) k ≡ M.move_on v (rest_of cap n) (ranges_of cap ts k))
        → ranges_of cap (set (y ∷ ts) (cond (eqb y.version.0 v) 0 (suc (index_of v k ts))) (rest_on n (ticket_at (y ∷ ts) (cond (eqb y.version.0 v) 0 (suc (index_of v k ts)))))) (suc k)
        ≡ cond (eqb y.version.0 v) (M.rested (rest_of cap n) (range_of cap y)) (range_of cap y) ∷ M.move_on v (rest_of cap n) (ranges_of cap ts k)
    go (yes q) g i =
        rw (eq-eqb y.version.0 v q)
        (ap₂ {C = List M.Range} (λ a l. a ∷ l) (rest_moved cap n y)
        (sym (move_none v (rest_of cap n) (ranges_of cap ts k)
        (all_imp (Earlier (range_of cap y)) (λ (r : M.Range). r.version ≢ v) (λ r u z. omega (arith, u, version_ticket cap y, q)) (ranges_of cap ts k) w.0))))
    go (no q) g i =
        let b = ne_eqb y.version.0 v q in
        rw b (ap {B = List M.Range} (λ l. range_of cap y ∷ l) (i (let g' : suc (index_of v k ts) < suc k = rw b at g in omega arith)))

-- ---- step, of the tables

module _ (t : Tables) (S : Sound t) where
  abbrev cap : ℕ
  cap = capacity_of t

  abbrev k : ℕ
  k = t.coordinator.ranges

  module _ (i : ℕ) (l : i < k) where
    resting_at : Resting cap (ticket_at t.tickets i)
    resting_at = all_at (Resting cap) t.tickets k i l (omega (arith, S.lengths.tickets, S.few)) S.resting

    rested_at : Rested (nodes_of t.keys t.values t.rows) (range_of cap (ticket_at t.tickets i))
    unfolding view
    rested_at =
        all_at (λ T. Rested (nodes_of t.keys t.values t.rows) (range_of cap T)) t.tickets k i l (omega (arith, S.lengths.tickets, S.few))
        (all_mapped (range_of cap) (Rested (nodes_of t.keys t.values t.rows)) (take k t.tickets) S.well.rested)

  -- LAW: what step_range relies on
  pub step_ready : StepReady t.keys t.values t.rows t.tickets k
  step_ready = record { few = S.few; ready = λ i l. ticket_ready t S (ticket_at t.tickets i) (resting_at i l) (rested_at i l) }

  module _ (v : ℕ) (ks vs : List ℤ) where
    abbrev room : ℕ
    room = room_of ks vs

    abbrev j : ℕ
    j = index_of v k t.tickets

    abbrev T : Ticket
    T = ticket_at t.tickets j

    abbrev nodes : Case → List ℕ
    nodes c = step_nodes c t.keys t.rows t.tickets room

    abbrev Goal : Case → Type 0
    Goal c =
        Met t (with_tickets t (step_end c t.keys t.rows t.tickets room).tickets t.coordinator) (step v room)
        (of_stepped (written ks 0 (keys_of t.keys (nodes c))) (written vs 0 (values_of t.values (nodes c))) (step_end c t.keys t.rows t.tickets room).answer)

    none_found : k ≤ j → Goal (refuse NoSuchRange)
    unfolding view
    none_found h =
        met_same t (step v room) (refused 11) S
        (refuses (view t) (step v room) 11 (rw (range_lost cap v k t.tickets (omega (arith, S.lengths.tickets, S.few)) h)))

    full : j < k → room ≡ 0 → Goal (refuse TooFewPlaces)
    unfolding view
    full h z =
        met_same t (step v room) (refused 8) S (refuses (view t) (step v room) 8 (rw (range_found cap v k t.tickets h, eq-eqb room 0 z)))

    -- where the ticket rests then
    lands : Resting cap (rest_on (rest_after t.keys t.rows (walk_of T) room) T)
    lands = go (drop (length (handed t.keys t.rows (walk_of T) room)) (stops t.keys t.rows (walk_of T)))
        (all_drop (λ n. n < cap) (length (handed t.keys t.rows (walk_of T) room)) (stops t.keys t.rows (walk_of T)) (stops_nodes t.keys t.rows (walk_of T)))
      where
        go : (xs : List ℕ) → All (λ n. n < cap) xs → (head_or xs (cap + 1) < cap) ⊎ (head_or xs (cap + 1) ≡ cap + 1)
        go [] a = inr refl
        go (x ∷ xs) a = inl a.0

    onward : j < k → room ≢ 0 → Goal (at j)
    unfolding view
    onward h z =
        let out = handed t.keys t.rows (walk_of T) room in
        let rest = rest_after t.keys t.rows (walk_of T) room in
        met t (with_tickets t (set t.tickets j (rest_on rest T)) t.coordinator) (step v room)
        (of_stepped (written ks 0 (keys_of t.keys out)) (written vs 0 (values_of t.values out)) (step_end (at j) t.keys t.rows t.tickets room).answer) S
        (record {
          known = S.lengths.known;
          values = S.lengths.values;
          rows = S.lengths.rows;
          buckets = S.lengths.buckets;
          tickets = length-set t.tickets j (rest_on rest T) ∙ S.lengths.tickets;
        })
        S.memory S.hashed S.few (all_set (Resting cap) t.tickets k j (rest_on rest T) lands S.resting)
        (step_moves (view t) v room (range_of cap T) (range_found cap v k t.tickets h) (ne_eqb room 0 z)
        ∙ (ap₂ (M.stepping (view t) v room) (ahead_walk t S T (resting_at j h) (rested_at j h)) (left_walk t S T (resting_at j h) (rested_at j h))
        ∙ (stepping_nodes t.keys t.values t.rows (view t) v room (stops t.keys t.rows (walk_of T)) (needed t.keys t.rows (walk_of T)) (stops_nodes t.keys t.rows (walk_of T))
        ∙ rw (
          ranges_moved cap v rest k t.tickets h S.well.rising,
          paired_written (λ n. key_of (get_or t.keys n 0)) (λ n. get_or t.values n (pos 0)) out ks vs,
        ))))

    -- LAW: step meets the model
    pub step_meets : Met t (stepped_tables t v room) (step v room)
        (of_stepped (written ks 0 (keys_of t.keys (step_given t.keys t.rows t.tickets k v room))) (written vs 0 (values_of t.values (step_given t.keys t.rows t.tickets k v room)))
        (stepping_of t v room).answer)
    unfolding stepping
    step_meets = go (dec_lt j k) (ℕ_discrete room 0)
      where
        go : Dec (j < k) → Dec (room ≡ 0) → Goal (stepping t.tickets k v room)
        go (no h) d = rw (le-ltb j k (omega arith)) (none_found (omega arith))
        go (yes h) (yes z) = rw (lt-ltb j k h, eq-eqb room 0 z) (full h z)
        go (yes h) (no z) = rw (lt-ltb j k h, ne_eqb room 0 z) (onward h z)

    -- LAW: so does whatever step_range comes to
    pub step_outcome : (ts' : List Ticket) (ks' vs' : List ℤ) (r : Result Stepped Refusal) → SteppedBy t.keys t.values t.rows t.tickets ts' k v ks vs ks' vs' r
        → Met t (with_tickets t ts' t.coordinator) (step v room) (of_stepped ks' vs' r)
    step_outcome ts' ks' vs' r h = rw (h.answer, h.tickets, h.keys_out, h.values_out) step_meets
