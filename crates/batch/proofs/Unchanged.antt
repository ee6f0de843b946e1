-- A refusal changes nothing: a refused list leaves all that is lent, and a refused call within a list leaves the tables and both pair buffers.
-- Assumes nothing.
use Rattle.std.specs.Prelude.{Err}
use Rattle.model.specs.declared.Refusal.{Refusal}
use mathlib.Core.Path.{◌≡◌, refl, sym, ap, ◌∙◌, subst}
use mathlib.Core.Bool.{Bool, true, false, true≢false}
use mathlib.Core.List.{List, [], ◌∷◌, ◌++◌, map, append-nil}
use Prim.Native.Nat.{ℕ, min}
use native.Mathlib.Omega.{arith}
use lib.ListN.{length, replicate, length-replicate}
use lib.IntN.{ℤ, pos}
use Rattle.lists.specs.Holds.{All}
use Rattle.lists.specs.Buffers.{written}
use Rattle.lists.proofs.Answers.{yes! }
use Rattle.lists.proofs.Holding.{all_left, all_at}
use Rattle.lists.proofs.Writing.{written_none}
use Rattle.transactions.specs.declared.Call.{Call}
use Rattle.transactions.specs.declared.Call.TheVariants.{Lookup, Insert, Remove, HandOver, Ceil, Floor, Succ, Pred, Fast, Open, Step, Close, Sweep, Tally}
use Rattle.transactions.specs.Calls.{Typed}
use Rattle.transactions.proofs.Calling.{call_typed}
use Rattle.model.specs.Calls as C
use Rattle.model.specs.Model as M
use Rattle.model.specs.Answers.{of_stepped}
use Rattle.model.specs.declared.Handed.TheVariants.{Freed, Held}
use Rattle.tables.specs.Tables.{Tables, Sound, Met, view}
use Rattle.changes.specs.Insert.{insert_tables}
use Rattle.changes.specs.Remove.{remove_tables}
use Rattle.returns.specs.HandOver.{handing_of, handed_tables}
use Rattle.returns.specs.Sweep.{swept_tables}
use Rattle.ranges.specs.Open.{opened_tables}
use Rattle.ranges.specs.Step.{room_of, stepping_of, stepped_tables}
use Rattle.ranges.specs.Close.{closed_tables}
use Rattle.finds.proofs.LookupLaw.{lookup_meets}
use Rattle.finds.proofs.NearestLaw.{nearest_meets}
use Rattle.finds.proofs.TallyLaw.{tally_meets}
use Rattle.changes.proofs.InsertLaw.{insert_meets}
use Rattle.changes.proofs.RemoveLaw.{remove_meets}
use Rattle.returns.proofs.HandLaw.{hand_meets}
use Rattle.returns.proofs.SweepLaw.{sweep_meets}
use Rattle.ranges.proofs.OpenLaw.{open_meets}
use Rattle.ranges.proofs.StepLaw.{step_meets}
use Rattle.ranges.proofs.CloseLaw.{close_meets}
use Rattle.ranges.proofs.FastLaw.{fast_meets}
use Rattle.calls.specs.Outcome.{Outcome}
use Rattle.calls.specs.Entries as E
use Rattle.calls.proofs.Unchanged as U
use Rattle.batch.specs.declared.End.{End}
use Rattle.batch.specs.declared.End.TheVariants.{Refused}
use Rattle.batch.specs.Turns.{room, meant, turn_tables, answer_of, pairs_of, keys_in, values_in}
use Rattle.batch.specs.Lists.{Input, Output, tables_after, made_on, pairs_in, Follows, Made, leaves, untouched, Laid, Unchanged, Listed, Ran}
use Rattle.batch.proofs.Refusals.{refused_only}
use Rattle.batch.proofs.Listing.{tables_snoc, pairs_snoc, made_more}

-- ---- one call on sound tables

-- the outcome of an entry point on sound tables
outcome : {X Y : Type 0} {tables : X → Tables} {of : Y → C.Answer} {c : C.Call} {before after : X} {given refuse : Y} → Sound (tables before) → Met (tables before) (tables after) c (of given)
    → Outcome tables of c before after after given given refuse
outcome S m = record { tested = true; says = yes! S; lent = refl; answers = refl; met = λ e. m }

-- the call meets the model with an answer, and where it is a refusal the tables are as they were
record Kept (t t' : Tables) (c : C.Call) : Type 0 where
  answer : C.Answer
  met : Met t t' c answer
  same : C.accepted answer ≡ false → t' ≡ t

-- a call that leaves the tables
reads : {t : Tables} {c : C.Call} {a : C.Answer} → Met t t c a → Kept t t c
reads {a = a} m = record { answer = a; met = m; same = λ e. refl }

-- a call that may change them
changes : {Y : Type 0} {of : Y → C.Answer} {c : C.Call} {t t' : Tables} {given refuse : Y} → Sound t → Met t t' c (of given)
    → ((r : Y) → C.accepted (of r) ≡ false → Outcome E.itself of c t t' t' r given refuse → t' ≡ t) → Kept t t' c
changes {of = of} {given = given} S m law = record { answer = of given; met = m; same = λ e. law given e (outcome S m) }

-- a pair buffer of so many places
abbrev places : ℕ → List ℤ
places n = replicate n (pos 0)

places_room : (n : ℕ) → room_of (places n) (places n) ≡ n
places_room n = let e : length (places n) ≡ n = length-replicate n (pos 0) in omega arith

fast_kept : (t : Tables) → Sound t → (l h : ℤ) → Typed (Fast l h) → Kept t t (C.fast l h room)
fast_kept t S l h f = subst (λ n. Kept t t (C.fast l h n)) (places_room room) (reads (fast_meets t S l h f.0 f.1 (places room) (places room)))

step_kept : (t : Tables) → Sound t → (v n : ℕ) → Kept t (stepped_tables t v n) (C.step v n)
step_kept t S v n =
    let ks = places n in
    let k = room_of ks ks in
    let t' = stepped_tables t v k in
    let ks' = E.keys_laid t (E.stepped t v ks ks) ks in
    let vs' = E.values_laid t (E.stepped t v ks ks) ks in
    let m = step_meets t S v ks ks in
    subst (λ x. Kept t (stepped_tables t v x) (C.step v x)) (places_room n)
    (record {
      answer = of_stepped ks' vs' (stepping_of t v k).answer;
      met = m;
      same = λ e. ap (λ (x : E.Lent). x.tables)
          (refused_only _ (λ x. refl) (λ r. E.Steps t ks ks t' ks' vs' v r → E.with t' ks' vs' ≡ E.with t ks ks) (U.step_unchanged t ks ks t' ks' vs' v) (stepping_of t v k).answer e (outcome S m));
    })

kept : (t : Tables) → Sound t → (c : Call) → Typed c → Kept t (turn_tables t c) (meant room c)
unfolding turn_tables
kept t S (Lookup k) f = reads (lookup_meets t S k f)
kept t S (Insert k v coin) f =
    let t' = insert_tables t k v coin in
    changes S (insert_meets t S k v coin f.0) (refused_only _ (λ x. refl) (λ r. E.Inserts t t' k v coin r → t' ≡ t) (U.insert_unchanged t t' k v coin))
kept t S (Remove k) f =
    let t' = remove_tables t k in
    changes S (remove_meets t S k f) (refused_only _ (λ x. refl) (λ r. E.Removes t t' k r → t' ≡ t) (U.remove_unchanged t t' k))
kept t S (HandOver n) f =
    let t' = handed_tables (handing_of t n.0) t n.0 in
    changes S (hand_meets t S n.0) (refused_only _ (elim [ Freed ↦ refl | Held ↦ refl ]) (λ r. E.HandsOver t t' n.0 r → t' ≡ t) (U.hand_over_unchanged t t' n.0))
kept t S (Ceil k) f = reads (nearest_meets t S k f 0 (omega arith) true)
kept t S (Floor k) f = reads (nearest_meets t S k f 1 (omega arith) true)
kept t S (Succ k) f = reads (nearest_meets t S k f 0 (omega arith) false)
kept t S (Pred k) f = reads (nearest_meets t S k f 1 (omega arith) false)
kept t S (Fast l h) f = fast_kept t S l h f
kept t S (Open l h) f =
    let t' = opened_tables t l h in
    changes S (open_meets t S l h f.0 f.1) (refused_only _ (λ x. refl) (λ r. E.Opens t t' l h r → t' ≡ t) (U.open_unchanged t t' l h))
kept t S (Step v n) f = step_kept t S v.0 (min n room)
kept t S (Close v) f =
    let t' = closed_tables t v.0 in
    changes S (close_meets t S v.0) (refused_only _ (λ x. refl) (λ r. E.Closes t t' v.0 r → t' ≡ t) (U.close_unchanged t t' v.0))
kept t S Sweep f =
    let t' = swept_tables t.coordinator.due t in
    changes S (sweep_meets t S) (refused_only _ (λ x. refl) (λ r. E.Sweeps t t' r → t' ≡ t) (U.sweep_unchanged t t'))
kept t S Tally f = reads (tally_meets t S)

module _ (t : Tables) (S : Sound t) (c : Call) (f : Typed c) where
  is_answer : (kept t S c f).answer ≡ answer_of t c
  unfolding answer_of
  is_answer = sym (ap (λ (o : M.Outcome). o.1) (kept t S c f).met.model)

  -- LAW: every call meets the model
  pub turn_meets : Met t (turn_tables t c) (meant room c) (answer_of t c)
  turn_meets = subst (Met t (turn_tables t c) (meant room c)) is_answer (kept t S c f).met

  -- LAW: a refused call leaves the tables as they were
  pub turn_unchanged : C.accepted (answer_of t c) ≡ false → turn_tables t c ≡ t
  turn_unchanged e = (kept t S c f).same (ap C.accepted is_answer ∙ e)

-- LAW: a refused call hands out no pair
pub no_pairs : (a : C.Answer) → C.accepted a ≡ false → C.pairs_in a ≡ []
no_pairs (C.refused n) e = refl
no_pairs (C.answered xs ps) e = absurd (true≢false e)

-- LAW: a refused call of a list: the tables, the number of pairs and both pair buffers are as they were
pub laid_unchanged : {t t' : Tables} {c : Call} {calls pairs count : ℕ} {answers ks vs answers' ks' vs' : List ℤ} → Sound t → Typed c → C.accepted (answer_of t c) ≡ false
    → Laid t t' c calls pairs answers ks vs answers' ks' vs' count → (t' ≡ t) × (count ≡ 0) × (ks' ≡ ks) × (vs' ≡ vs)
laid_unchanged {t} {c = c} {pairs = pairs} {ks = ks} {vs = vs} S f e l =
    let n : pairs_of t c ≡ [] = no_pairs (answer_of t c) e in (
      l.tables ∙ turn_unchanged t S c f e,
      l.counts ∙ ap length n,
      l.keys_out ∙ (ap (λ ps. written ks pairs (keys_in ps)) n ∙ written_none ks pairs),
      l.values_out ∙ (ap (λ ps. written vs pairs (values_in ps)) n ∙ written_none vs pairs),
    )

-- ---- a list

-- the calls that are made are of their types
made_typed : (i : Input) (before cs : List Call) → Made i before cs → All Typed cs
made_typed i before [] m = tt
made_typed i before (c ∷ cs) m = (call_typed c m.0.1.written.within, made_typed i (before ++ (c ∷ [])) cs m.1)

-- after them the tables are sound, and show the model's state
after_calls : (t : Tables) (cs : List Call) → Sound t → All Typed cs → Sound (tables_after t cs) × (view (tables_after t cs) ≡ M.after (view t) (map (meant room) cs))
unfolding M.after
after_calls t [] S f = (S, refl)
after_calls t (c ∷ cs) S f =
    let m = turn_meets t S c f.0 in
    let r = after_calls (turn_tables t c) cs m.sound f.1 in
    (r.0, r.1 ∙ ap (λ s. M.after s (map (meant room) cs)) (sym (ap (λ (o : M.Outcome). o.0) m.model)))

-- LAW: a refused call within a list: the calls up to it leave what those before it leave
pub refused_call : {i : Input} {o : Output} → Sound i.tables → (l : Listed i o) (before : List Call) (c : Call) (behind : List Call) → l.made ≡ before ++ (c ∷ behind)
    → C.accepted (answer_of (tables_after i.tables before) c) ≡ false → (end : End) → Unchanged (leaves i before end) (leaves i (before ++ (c ∷ [])) end)
unfolding leaves
refused_call {i} S l before c behind w e end =
    let f = subst (All Typed) w (made_typed i [] l.made l.in_turn) in
    let s = after_calls i.tables before S (all_left Typed before (c ∷ behind) f) in
    let t = tables_after i.tables before in
    let hs = made_on i.tables before in
    let p : pairs_in (made_on i.tables (before ++ (c ∷ []))) ≡ pairs_in hs =
    ap pairs_in (made_more i.tables t before c s.1)
    ∙ (pairs_snoc hs (meant room c, answer_of t c) ∙ (ap (λ ps. pairs_in hs ++ ps) (no_pairs (answer_of t c) e) ∙ append-nil (pairs_in hs))) in
    record {
      tables = tables_snoc i.tables before c ∙ turn_unchanged t s.0 c (all_at Typed before c behind f) e;
      pairs = ap length p;
      keys = ap (λ ps. written i.keys 0 (keys_in ps)) p;
      values = ap (λ ps. written i.values 0 (values_in ps)) p;
    }

-- LAW: a refused list leaves all that is lent, and its number is 1
pub ran_unchanged : {i : Input} {o : Output} (n : Refusal) → Ran i o → o.end ≡ Refused n → o ≡ untouched i
ran_unchanged {i} {o} n r e = go r.tested refl
  where
    go : (b : Bool) → r.tested ≡ b → o ≡ untouched i
    go false f = r.refuses f
    go true f = absurd (subst (λ (x : End). Follows i (r.lists f).made (Err x)) e (r.lists f).ends)
