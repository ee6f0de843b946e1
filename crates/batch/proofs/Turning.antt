-- Each call of a list on sound tables: what its code does is a turn of the list.
-- Assumes nothing.
use Rattle.std.specs.Prelude.{Result, Ok, Err}
use mathlib.Core.Path.{◌≡◌, refl, sym, ap}
use mathlib.Core.Bool.{Bool}
use mathlib.Core.List.{List, []}
use Prim.Native.Nat.{ℕ, ◌≤◌, ◌<◌}
use native.Mathlib.Omega.{arith}
use lib.ListN.{length}
use lib.IntN.{ℤ}
use lib.Signed.{mag}
use mir.Syntax.{w64}
use mir.Val.{SFits, to_z, of_z}
use mir.ValLaws.{to_z-of_z}
use Rattle.lists.specs.Buffers.{written}
use Rattle.lists.proofs.Writing.{written_none}
use Rattle.sizes.specs.declared.Node.{Node}
use Rattle.sizes.specs.declared.Version.{Version}
use Rattle.transactions.specs.declared.Call.{Call}
use Rattle.transactions.specs.declared.Call.TheVariants.{Lookup, Insert, Remove, HandOver, Open, Close, Sweep, Tally}
use Rattle.model.specs.declared.Refusal.{Refusal}
use Rattle.model.specs.declared.Handed.{Handed}
use Rattle.model.specs.declared.Handed.TheVariants.{Freed, Held}
use Rattle.model.specs.declared.Swept.{Swept}
use Rattle.model.specs.declared.Tallied.{Tallied}
use Rattle.model.specs.Calls as C
use Rattle.model.specs.Model as M
use Rattle.model.specs.Answers.{of_result, of_found, of_inserted, of_removed, of_handed, of_nearest, of_opened, of_closed, of_swept, of_tallied}
use Rattle.tables.specs.declared.Ticket.{Ticket}
use Rattle.tables.specs.declared.Coordinator.{Coordinator}
use Rattle.tables.specs.Tables.{Tables, Sound, Met, capacity_of}
use Rattle.soundness.specs.Tested.{lent}
use Rattle.finds.specs.Lookup.{lookup_answer}
use Rattle.finds.specs.Nearest.{nearest_call, nearest_answer}
use Rattle.finds.specs.Tally.{tally_answer}
use Rattle.finds.proofs.LookupLaw.{lookup_meets}
use Rattle.finds.proofs.NearestLaw.{nearest_meets}
use Rattle.finds.proofs.TallyLaw.{tally_meets}
use Rattle.changes.specs.Insert.{Inserts, tables_with}
use Rattle.changes.specs.Remove.{Removes}
use Rattle.changes.proofs.InsertLaw.{insert_meets, insert_cells}
use Rattle.changes.proofs.RemoveLaw.{remove_meets, remove_cells}
use Rattle.returns.specs.HandOver.{HandedOver}
use Rattle.returns.specs.Sweep.{SweptBy}
use Rattle.returns.proofs.HandLaw.{hand_meets}
use Rattle.returns.proofs.SweepLaw.{sweep_meets}
use Rattle.ranges.specs.Open.{opening_of}
use Rattle.ranges.specs.Close.{closing_of}
use Rattle.ranges.proofs.OpenLaw.{open_meets}
use Rattle.ranges.proofs.CloseLaw.{close_meets}
use Rattle.batch.specs.declared.Reply.{Reply}
use Rattle.batch.specs.Cells.{cells_of}
use Rattle.batch.specs.Turns.{room, meant, turn_tables, answer_of, keys_in, values_in, Turned, reply_of}

-- ---- a turn from a call that meets the model

-- LAW: the tables that the call leaves, its cells, and the pairs at the front of its places
pub turned_by : {t t' : Tables} {call : Call} {a : C.Answer} {ks vs ks' vs' cells : List ℤ} {count : ℕ}
    → t' ≡ turn_tables t call → Met t (turn_tables t call) (meant room call) a → cells ≡ cells_of (C.code (meant room call)) a → count ≡ length (C.pairs_in a) → count ≤ room
    → ks' ≡ written ks 0 (keys_in (C.pairs_in a)) → vs' ≡ written vs 0 (values_in (C.pairs_in a)) → Turned t t' call ks vs ks' vs' cells count
unfolding answer_of
turned_by {t} {t'} {call} {a} e m p n l u w =
    let s : a ≡ answer_of t call = sym (ap (λ (o : M.Outcome). o.1) m.model) in
    record {
      tables = e;
      met = rw (e, ← s) m;
      answers = rw s at p;
      counts = rw s at n;
      few = l;
      keys_out = rw s at u;
      values_out = rw s at w;
    }

-- no pairs are told
abbrev pub Plain : {A : Type 0} → (A → C.Answer) → Type 0
Plain {A} f = (x : A) → C.pairs_in (f x) ≡ []

no_pairs : {A : Type 0} (f : A → C.Answer) → Plain f → (r : Result A Refusal) → C.pairs_in (of_result f r) ≡ []
no_pairs f p (Ok x) = p x
no_pairs f p (Err n) = refl

-- LAW: and where it hands out none, as the code replies: `given` is the answer
pub turned_plain : {A : Type 0} (f : A → C.Answer) → Plain f → {t t' : Tables} {call : Call} {given answer : Result A Refusal} {r : Reply} (ks vs : List ℤ)
    → t' ≡ turn_tables t call → Met t (turn_tables t call) (meant room call) (of_result f given) → answer ≡ given → r ≡ reply_of (cells_of (C.code (meant room call)) (of_result f answer)) 0
    → Turned t t' call ks vs ks vs r.cells r.pairs
turned_plain f p {given = given} ks vs e m q u =
    let n = no_pairs f p given in
    rw (u, q) (turned_by e m refl (rw n) (omega arith) (rw n (sym (written_none ks 0))) (rw n (sym (written_none vs 0))))

-- ---- each call

-- a signed number as it comes out of a call
abbrev pub back : ℤ → ℤ
back z = to_z w64 (of_z w64 z)

pub fits : (z : ℤ) → mag z < 9223372036854775808 → SFits w64 z
fits z f = record { sfits = f }

pub told : (z : ℤ) → mag z < 9223372036854775808 → back z ≡ z
told z f = to_z-of_z w64 z (fits z f)

module _ (t : Tables) (S : Sound t) (ks vs : List ℤ) {call : Call} {r : Reply} where
  pub lookup_turned : (z : ℤ) → mag z < 9223372036854775808 → call ≡ Lookup z → {a : Result ℤ Refusal} → a ≡ lookup_answer t (back z) → r ≡ reply_of (cells_of 0 (of_found a)) 0
      → Turned t t call ks vs ks vs r.cells r.pairs
  unfolding turn_tables
  lookup_turned z f q e p = rw q (turned_plain _ (λ x. refl) {call = Lookup z} ks vs refl (lookup_meets t S z (fits z f)) (rw (told z f) at e) p)

  -- ceil, floor, succ and pred: the call in the direction d, the key itself included where `at`
  pub nearest_turned : (of : ℤ → Call) (d : ℕ) (at : Bool) → d ≤ 1 → ((k : ℤ) → meant room (of k) ≡ nearest_call d at k) → ((k : ℤ) → turn_tables t (of k) ≡ t)
      → (z : ℤ) → mag z < 9223372036854775808 → call ≡ of z → {a : Result ℤ Refusal} → a ≡ nearest_answer t (back z) d at → r ≡ reply_of (cells_of (C.code (nearest_call d at z)) (of_nearest a)) 0
      → Turned t t call ks vs ks vs r.cells r.pairs
  nearest_turned of d at u m k z f q e p =
      rw q (turned_plain C.nearest (λ x. refl) {call = of z} ks vs (sym (k z)) (rw (k z, m z) (nearest_meets t S z (fits z f) d u at)) (rw (told z f) at e) (rw (m z) p))

  pub tally_turned : call ≡ Tally → {a : Tallied} → a ≡ tally_answer t → r ≡ reply_of (cells_of 13 (of_tallied (Ok a))) 0 → Turned t t call ks vs ks vs r.cells r.pairs
  unfolding turn_tables
  tally_turned q e p = rw q (turned_plain (λ (a : Tallied). C.counts a.present a.held a.free) (λ x. refl) {call = Tally} ks vs refl (tally_meets t S) (ap Ok e) p)

  pub insert_turned : (z v : ℤ) (coin : ℕ) → mag z < 9223372036854775808 → mag v < 9223372036854775808 → call ≡ Insert z v coin
      → {keys' : List ℕ} {values' : List ℤ} {rows' buckets' : List ℕ} {a : Result Node Refusal}
      → Inserts t.keys t.values t.rows t.buckets keys' values' rows' buckets' t.coordinator.counter.0 (back z) (back v) coin a → r ≡ reply_of (cells_of 1 (of_inserted a)) 0
      → Turned t (tables_with t keys' values' rows' buckets') call ks vs ks vs r.cells r.pairs
  unfolding turn_tables
  insert_turned z v coin f g q i p =
      let e = rw (told z f, told v g) at i in
      rw q (turned_plain _ (λ x. refl) {call = Insert z v coin} ks vs (insert_cells t z v coin _ _ _ _ _ e) (insert_meets t S z v coin (fits z f)) e.answer p)

  pub remove_turned : (z : ℤ) → mag z < 9223372036854775808 → call ≡ Remove z → {rows' buckets' : List ℕ} {a : Result Node Refusal}
      → Removes t.keys t.rows t.buckets rows' buckets' t.coordinator.counter.0 (back z) a → r ≡ reply_of (cells_of 2 (of_removed a)) 0
      → Turned t (tables_with t t.keys t.values rows' buckets') call ks vs ks vs r.cells r.pairs
  unfolding turn_tables
  remove_turned z f q i p =
      let e = rw (told z f) at i in
      rw q (turned_plain _ (λ x. refl) {call = Remove z} ks vs (remove_cells t z _ _ _ e) (remove_meets t S z (fits z f)) e.answer p)

  pub hand_turned : (n : Node) → call ≡ HandOver n → {rows' : List ℕ} {tickets' : List Ticket} {a : Result Handed Refusal}
      → HandedOver t.rows rows' (capacity_of t) t.tickets tickets' t.coordinator.ranges n.0 a → r ≡ reply_of (cells_of 3 (of_handed a)) 0
      → Turned t (lent t.keys t.values rows' t.buckets tickets' t.coordinator) call ks vs ks vs r.cells r.pairs
  unfolding turn_tables
  hand_turned n q h p = rw (q, h.cells, h.tickets) (turned_plain _ (elim [ Freed ↦ refl | Held ↦ refl ]) {call = HandOver n} ks vs refl (hand_meets t S n.0) h.answer p)

  pub sweep_turned : call ≡ Sweep → {rows' : List ℕ} {coordinator' : Coordinator} {a : Swept} → SweptBy t.rows rows' (capacity_of t) t.coordinator coordinator' a
      → r ≡ reply_of (cells_of 12 (of_swept (Ok a))) 0 → Turned t (lent t.keys t.values rows' t.buckets t.tickets coordinator') call ks vs ks vs r.cells r.pairs
  unfolding turn_tables
  sweep_turned q h p = rw (q, h.cells, h.coordinator) (turned_plain (λ (a : Swept). C.swept a.freed a.due) (λ x. refl) {call = Sweep} ks vs refl (sweep_meets t S) (ap Ok h.answer) p)

  pub close_turned : (v : Version) → call ≡ Close v → {tickets' : List Ticket} {coordinator' : Coordinator} {a : Result ℕ Refusal}
      → a ≡ (closing_of t v.0).answer → tickets' ≡ (closing_of t v.0).tickets → coordinator' ≡ (closing_of t v.0).coordinator → r ≡ reply_of (cells_of 11 (of_closed a)) 0
      → Turned t (lent t.keys t.values t.rows t.buckets tickets' coordinator') call ks vs ks vs r.cells r.pairs
  unfolding turn_tables
  close_turned v q e h k p = rw (q, h, k) (turned_plain _ (λ x. refl) {call = Close v} ks vs refl (close_meets t S v.0) e p)

  pub open_turned : (l h : ℤ) → mag l < 9223372036854775808 → mag h < 9223372036854775808 → call ≡ Open l h → {tickets' : List Ticket} {coordinator' : Coordinator} {a : Result Version Refusal}
      → a ≡ (opening_of t (back l) (back h)).answer → tickets' ≡ (opening_of t (back l) (back h)).tickets → coordinator' ≡ (opening_of t (back l) (back h)).coordinator
      → r ≡ reply_of (cells_of 9 (of_opened a)) 0 → Turned t (lent t.keys t.values t.rows t.buckets tickets' coordinator') call ks vs ks vs r.cells r.pairs
  unfolding turn_tables
  open_turned l h f g q e u w p =
      rw (q, u, w, told l f, told h g)
      (turned_plain _ (λ x. refl) {call = Open l h} ks vs refl (open_meets t S l h (fits l f) (fits h g)) (rw (told l f, told h g) at e) p)
