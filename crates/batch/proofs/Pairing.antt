-- The calls of a list that hand out pairs, on sound tables: a fast range and a step.
-- Assumes nothing.
use Rattle.std.specs.Prelude.{Result, Ok, Err}
use Rattle.model.specs.declared.Refusal.{Refusal}
use Rattle.model.specs.declared.Refusal.TheVariants.{BoundsReversed, TooManyPairs, TooFewPlaces}
use mathlib.Core.Path.{◌≡◌, refl, sym, ap, ◌∙◌, subst}
use mathlib.Core.Bool.{Bool, true, false, cond}
use mathlib.Core.List.{List, [], ◌++◌, map, map-map}
use Prim.Native.Nat.{ℕ, ◌≤◌, ◌<◌, min}
use native.Mathlib.Omega.{arith}
use lib.ListN.{length, take, drop, length-map, length-take}
use lib.Dec.{ltb}
use lib.IntN.{ℤ, pos}
use lib.ListN.{get_or}
use lib.Signed.{mag, lt_z}
use borrow.Author.Tests.{ltb-false}
use Rattle.lists.specs.Buffers.{written}
use Rattle.sizes.specs.declared.Version.{Version}
use Rattle.sizes.specs.Rank.{key_of}
use Rattle.transactions.specs.declared.Call.{Call}
use Rattle.transactions.specs.declared.Call.TheVariants.{Fast, Step}
use Rattle.model.specs.Plain.{Pair}
use Rattle.model.specs.Calls as C
use Rattle.model.specs.Model as M
use Rattle.model.specs.Calls.{made_due}
use Rattle.model.specs.Answers.{of_result, told_stepped, of_ranged, of_stepped}
use Rattle.model.specs.declared.Stepped.{Stepped}
use Rattle.tables.specs.declared.Ticket.{Ticket}
use Rattle.tables.specs.Tables.{Tables, Sound, Met, ticket_at}
use Rattle.soundness.specs.Tested.{lent}
use Rattle.ranges.specs.Walk.{keys_of, values_of, walk_of, needed}
use Rattle.ranges.specs.Fast.{fast_answer, fast_nodes, fast_of, given}
use Rattle.ranges.specs.Step.{Case, refuse, at, stepping, step_nodes, step_end, room_of, SteppedBy}
use Rattle.ranges.proofs.WalkLaw.{pair_at, paired_written}
use Rattle.ranges.proofs.FastLaw.{fast_meets}
use Rattle.ranges.proofs.StepLaw.{step_meets}
use Rattle.batch.specs.declared.Reply.{Reply}
use Rattle.batch.specs.Cells.{cells_of, ranged_count, stepped_count}
use Rattle.batch.specs.Turns.{room, meant, turn_tables, keys_in, values_in, Turned, reply_of, FastReply, StepReply}
use Rattle.batch.proofs.Parts.{front_written}
use Rattle.batch.proofs.Turning.{turned_by, back, fits, told}

-- LAW: the cells do not tell the pairs
pub ranged_cells : (code : ℕ) (ks vs : List ℤ) (r : Result ℕ Refusal) → cells_of code (of_ranged ks vs r) ≡ cells_of code (of_result made_due r)
ranged_cells code ks vs (Ok n) = refl
ranged_cells code ks vs (Err n) = refl

pub stepped_cells : (code : ℕ) (ks vs : List ℤ) (r : Result Stepped Refusal) → cells_of code (of_stepped ks vs r) ≡ cells_of code (of_result told_stepped r)
stepped_cells code ks vs (Ok s) = refl
stepped_cells code ks vs (Err n) = refl

-- the pairs of nodes are their keys and their values
keys_pairs : (keys : List ℕ) (values : List ℤ) (ns : List ℕ) → keys_in (map (pair_at keys values []) ns) ≡ keys_of keys ns
keys_pairs keys values ns = map-map (λ (p : Pair). p.0) (pair_at keys values []) ns

values_pairs : (keys : List ℕ) (values : List ℤ) (ns : List ℕ) → values_in (map (pair_at keys values []) ns) ≡ values_of values ns
values_pairs keys values ns = map-map (λ (p : Pair). p.1) (pair_at keys values []) ns

-- LAW: a call that hands out the pairs of these nodes
turned_pairs : {t t' : Tables} {call : Call} {a : C.Answer} {ks vs ks' vs' cells : List ℤ} {count : ℕ} (ns : List ℕ)
    → t' ≡ turn_tables t call → Met t (turn_tables t call) (meant room call) a → cells ≡ cells_of (C.code (meant room call)) a → C.pairs_in a ≡ map (pair_at t.keys t.values []) ns
    → count ≡ length ns → length ns ≤ room → ks' ≡ written ks 0 (keys_of t.keys ns) → vs' ≡ written vs 0 (values_of t.values ns) → Turned t t' call ks vs ks' vs' cells count
turned_pairs {t = t} {ks = ks} {vs = vs} ns e m p q n l u w =
    turned_by e m p (n ∙ sym (ap length q ∙ length-map ns (pair_at t.keys t.values []))) (omega arith)
    (u ∙ ap (written ks 0) (sym (ap keys_in q ∙ keys_pairs t.keys t.values ns)))
    (w ∙ ap (written vs 0) (sym (ap values_in q ∙ values_pairs t.keys t.values ns)))

-- a fast range that answers hands out all its nodes
Answers : Result ℕ Refusal → List ℕ → Type 0
Answers (Ok n) ns = (n ≡ length ns) × (n ≤ room)
Answers (Err n) ns = Unit {0}

fast_answers : (ns : List ℕ) (low high : ℤ) (places : ℕ) → Answers (fast_answer ns low high places) ns
unfolding fast_answer Answers
fast_answers ns low high places = go (lt_z high low) (ltb M.fast_limit (length ns)) (ltb places (length ns)) refl
  where
    go : (a b c : Bool) → ltb M.fast_limit (length ns) ≡ b
        → Answers (cond a (Err BoundsReversed) (cond b (Err TooManyPairs) (cond c (Err TooFewPlaces) (Ok (length ns))))) ns
    go true b c e = tt
    go false true c e = tt
    go false false true e = tt
    go false false false e = (refl, ltb-false M.fast_limit (length ns) e)

-- a step hands out no more than it has places for
step_few : (keys rows : List ℕ) (ts : List Ticket) (places : ℕ) (c : Case) → {most : ℕ} → places ≤ most → length (step_nodes c keys rows ts places) ≤ most
step_few keys rows ts places (refuse n) h = omega arith
step_few keys rows ts places (at j) h = omega (arith, length-take places (needed keys rows (walk_of (ticket_at ts j))))

-- the pairs in an answer are those of the nodes that are handed out, no more than a call has places for
record Hands (keys : List ℕ) (values : List ℤ) (a : C.Answer) (count : ℕ) (ns : List ℕ) : Type 0 where
  pairs : C.pairs_in a ≡ map (pair_at keys values []) ns
  counted : count ≡ length ns
  few : length ns ≤ room

fast_hands : (keys : List ℕ) (values ks vs : List ℤ) (ns : List ℕ) (a : Result ℕ Refusal) → Answers a ns
    → Hands keys values (of_ranged (written ks 0 (keys_of keys (given a ns))) (written vs 0 (values_of values (given a ns))) a) (ranged_count a) (given a ns)
unfolding Answers
fast_hands keys values ks vs ns (Ok n) w =
    record {
      pairs = rw w.0 (paired_written (λ m. key_of (get_or keys m 0)) (λ m. get_or values m (pos 0)) ns ks vs);
      counted = w.0;
      few = omega (arith, w.0, w.1);
    }
fast_hands keys values ks vs ns (Err n) w = record { pairs = refl; counted = refl; few = omega arith }

-- LAW: a fast range with the places of one call
pub fast_turned : (t : Tables) → Sound t → (l h : ℤ) → mag l < 9223372036854775808 → mag h < 9223372036854775808 → {call : Call} → call ≡ Fast l h → (ks vs : List ℤ) → length ks ≡ room → length vs ≡ room
    → {ks' vs' : List ℤ} {r : Reply} → FastReply t.keys t.values t.rows t.coordinator.counter.0 (back l) (back h) ks vs ks' vs' r
    → Turned t t call ks vs ks' vs' r.cells r.pairs
unfolding turn_tables
fast_turned t S l h f g q ks vs m n p =
    let counter = t.coordinator.counter.0 in
    let places = room_of ks vs in
    let ns = fast_nodes t.keys t.rows counter l h in
    let a = fast_of t.keys t.rows counter l h places in
    let by = rw (told l f, told h g) at p.by in
    let out = fast_hands t.keys t.values ks vs ns a (fast_answers ns l h places) in
    let e : places ≡ room = omega (arith, m, n) in
    rw (q, p.is, by.answer)
    (turned_pairs {call = Fast l h} (given a ns) refl
    (subst (λ x. Met t t (C.fast l h x) (of_ranged (written ks 0 (keys_of t.keys (given a ns))) (written vs 0 (values_of t.values (given a ns))) a)) e (fast_meets t S l h (fits l f) (fits h g) ks vs))
    (sym (ranged_cells 8 _ _ a)) out.pairs out.counted out.few by.keys_out by.values_out)

-- ---- a step

step_hands : (keys : List ℕ) (values : List ℤ) (rows : List ℕ) (ts : List Ticket) (places : ℕ) → places ≤ room → (ks vs : List ℤ) (c : Case)
    → Hands keys values (of_stepped (written ks 0 (keys_of keys (step_nodes c keys rows ts places))) (written vs 0 (values_of values (step_nodes c keys rows ts places))) (step_end c keys rows ts places).answer)
    (stepped_count (step_end c keys rows ts places).answer) (step_nodes c keys rows ts places)
step_hands keys values rows ts places h ks vs (refuse n) = record { pairs = refl; counted = refl; few = omega arith }
step_hands keys values rows ts places h ks vs (at j) =
    record {
      pairs = paired_written (λ m. key_of (get_or keys m 0)) (λ m. get_or values m (pos 0)) (step_nodes (at j) keys rows ts places) ks vs;
      counted = refl;
      few = step_few keys rows ts places (at j) h;
    }

-- LAW: a step to the front of a call's places, as the code makes it
pub step_lands : (keys : List ℕ) (values : List ℤ) (rows : List ℕ) (ts : List Ticket) (k v n : ℕ) (ks vs : List ℤ) → length ks ≡ room → length vs ≡ room → {m : ℕ} → m ≡ min n room
    → {ts' : List Ticket} {ks' vs' : List ℤ} {answer : Result Stepped Refusal} → SteppedBy keys values rows ts ts' k v (take m ks) (take m vs) ks' vs' answer
    → {r : Reply} → r ≡ reply_of (cells_of 10 (of_result told_stepped answer)) (stepped_count answer)
    → StepReply keys values rows ts ts' k v (min n room) ks vs (ks' ++ drop m ks) (vs' ++ drop m vs) r
step_lands keys values rows ts k v n ks vs p w {m} q by u =
    let places = min n room in
    let case = stepping ts k v places in
    let e : room_of (take m ks) (take m vs) ≡ places = omega (arith, length-take m ks, length-take m vs) in
    let less : length (step_nodes case keys rows ts places) ≤ m = step_few keys rows ts places case (omega arith) in
    record {
      is = rw (u, rw e at by.answer);
      tickets = rw e at by.tickets;
      keys_out = rw (rw e at by.keys_out) (front_written ks m (keys_of keys (step_nodes case keys rows ts places)) (omega (arith, less, length-map (step_nodes case keys rows ts places) (λ j. key_of (get_or keys j 0)))) (omega arith));
      values_out = rw (rw e at by.values_out) (front_written vs m (values_of values (step_nodes case keys rows ts places)) (omega (arith, less, length-map (step_nodes case keys rows ts places) (λ j. get_or values j (pos 0)))) (omega arith));
    }

-- LAW: a step with as many places as it asks for, if there are that many
pub step_turned : (t : Tables) → Sound t → (v : Version) (n : ℕ) {call : Call} → call ≡ Step v n → (ks vs : List ℤ) → length ks ≡ room → length vs ≡ room
    → {tickets' : List Ticket} {ks' vs' : List ℤ} {r : Reply} → StepReply t.keys t.values t.rows t.tickets tickets' t.coordinator.ranges v.0 (min n room) ks vs ks' vs' r
    → Turned t (lent t.keys t.values t.rows t.buckets tickets' t.coordinator) call ks vs ks' vs' r.cells r.pairs
unfolding turn_tables
step_turned t S v n q ks vs m w p =
    let places = min n room in
    let case = stepping t.tickets t.coordinator.ranges v.0 places in
    let ks₀ = take places ks in
    let vs₀ = take places vs in
    let ns = step_nodes case t.keys t.rows t.tickets places in
    let e : room_of ks₀ vs₀ ≡ places = omega (arith, length-take places ks, length-take places vs) in
    let out = step_hands t.keys t.values t.rows t.tickets places (omega arith) ks₀ vs₀ case in
    let met = rw e at (step_meets t S v.0 ks₀ vs₀) in
    rw (q, p.is, p.tickets)
    (turned_pairs {call = Step v n} ns refl met (sym (stepped_cells 10 _ _ (step_end case t.keys t.rows t.tickets places).answer)) out.pairs out.counted out.few p.keys_out p.values_out)
