-- A refusal changes nothing: tables and pair buffers stay as they were, cell by cell.
-- Assumes nothing.
use Rattle.std.specs.Prelude.{Result, Ok, Err}
use Rattle.sizes.specs.declared.Version.{Version}
use Rattle.model.specs.declared.Refusal.{Refusal}
use Rattle.model.specs.declared.Refusal.TheVariants.{BoundsReversed, AllTicketsOpen, LastVersion}
use mathlib.Core.Path.{◌≡◌, refl, sym, ap, ◌∙◌}
use mathlib.Core.Bool.{Bool, true, false, cond}
use mathlib.Core.List.{List}
use Prim.Native.Nat.{ℕ, zero, suc}
use lib.IntN.{ℤ}
use lib.Signed.{lt_z}
use lib.Dec.{ltb, leb}
use Rattle.lists.specs.Buffers.{written}
use Rattle.lists.proofs.Answers.{never}
use Rattle.model.specs.Calls.{Call, Answer, accepted}
use Rattle.model.specs.Model.{last_version}
use Rattle.model.specs.declared.Handed.{Handed}
use Rattle.model.specs.declared.Swept.{Swept}
use Rattle.model.specs.declared.Stepped.{Stepped}
use Rattle.model.specs.Answers.{of_swept, of_closed, of_opened, of_stepped}
use Rattle.tables.specs.Tables.{Tables}
use Rattle.changes.specs.Insert.{insert_to}
use Rattle.changes.specs.Remove.{remove_to}
use Rattle.returns.specs.HandOver.{handed_tables}
use Rattle.returns.specs.Sweep.{sweeping, swept_tables}
use Rattle.ranges.specs.Tickets.{index_of, with_tickets}
use Rattle.ranges.specs.Close.{close_at, closing}
use Rattle.ranges.specs.Open.{Open, open_refused, opened, opening}
use Rattle.ranges.specs.Step.{Case, refuse, at, stepping, step_nodes, step_end, room_of}
use Rattle.ranges.specs.Fast.{given, fast_nodes}
use Rattle.calls.specs.Outcome.{Outcome}
use Rattle.calls.specs.Entries.{Inserts, Removes, HandsOver, Sweeps, Closes, Opens, Steps, Ranges, with, keys_laid, values_laid}

module _ {X E : Type 0} {tables : X → Tables} {of : E → Answer} {c : Call} {before exit after : X} {answer given refuse : E} where
  -- LAW: an answer leaves what is lent as it was, where the call that gives this answer on sound tables does
  pub unchanged : (given ≡ answer → after ≡ before) → Outcome tables of c before exit after answer given refuse → exit ≡ before
  unchanged k o = go o.tested o.lent o.answers
    where
      go : (t : Bool) → exit ≡ cond t after before → answer ≡ cond t given refuse → exit ≡ before
      go true l a = l ∙ k (sym a)
      go false l a = l

-- LAW: lookup, ceil, floor, succ, pred and tally change nothing, refused or not
pub kept : {X E : Type 0} {tables : X → Tables} {of : E → Answer} {c : Call} {before exit : X} {answer given refuse : E} → Outcome tables of c before exit before answer given refuse → exit ≡ before
kept = unchanged (λ e. refl)

-- ---- what each call leaves where it answers a refusal

sweep_kept : (t : Tables) (due : ℕ) (n : Refusal) → ◌≡◌ {A = Result Swept Refusal} (Ok (sweeping due)) (Err n) → swept_tables due t ≡ t
sweep_kept t zero n e = never (sym (ap (λ (r : Result Swept Refusal). accepted (of_swept r)) e))
sweep_kept t (suc due) n e = never (sym (ap (λ (r : Result Swept Refusal). accepted (of_swept r)) e))

close_kept : (t : Tables) (b : Bool) (j : ℕ) (n : Refusal) → (close_at b j t.tickets t.coordinator).answer ≡ Err n
    → with_tickets t (close_at b j t.tickets t.coordinator).tickets (close_at b j t.tickets t.coordinator).coordinator ≡ t
close_kept t false j n e = refl
close_kept t true zero n e = never (sym (ap (λ (r : Result ℕ Refusal). accepted (of_closed r)) e))
close_kept t true (suc i) n e = never (sym (ap (λ (r : Result ℕ Refusal). accepted (of_closed r)) e))

open_kept : (t : Tables) (l h : ℤ) (a b c : Bool) (n : Refusal)
    → (let refuse : Refusal → Open = λ k. open_refused k t.tickets t.coordinator in
    let r : Open = cond a (refuse BoundsReversed) (cond b (refuse AllTicketsOpen) (cond c (refuse LastVersion) (opened t.keys t.rows t.tickets t.coordinator l h))) in
    r.answer ≡ Err n → with_tickets t r.tickets r.coordinator ≡ t)
open_kept t l h true b c n e = refl
open_kept t l h false true c n e = refl
open_kept t l h false false true n e = refl
open_kept t l h false false false n e = never (sym (ap (λ (r : Result Version Refusal). accepted (of_opened r)) e))

step_kept : (t : Tables) (ks vs : List ℤ) (room : ℕ) (s : Case) (n : Refusal) → (step_end s t.keys t.rows t.tickets room).answer ≡ Err n
    → with (with_tickets t (step_end s t.keys t.rows t.tickets room).tickets t.coordinator) (keys_laid t (step_nodes s t.keys t.rows t.tickets room) ks) (values_laid t (step_nodes s t.keys t.rows t.tickets room) vs) ≡ with t ks vs
unfolding written
step_kept t ks vs room (refuse k) n e = refl
step_kept t ks vs room (at j) n e = never (sym (ap (λ (r : Result Stepped Refusal). accepted (of_stepped ks vs r)) e))

fast_kept : (t : Tables) (ks vs : List ℤ) (nodes : List ℕ) (r : Result ℕ Refusal) (n : Refusal) → r ≡ Err n → with t (keys_laid t (given r nodes) ks) (values_laid t (given r nodes) vs) ≡ with t ks vs
unfolding written
fast_kept t ks vs nodes r n e = ap (λ (r : Result ℕ Refusal). with t (keys_laid t (given r nodes) ks) (values_laid t (given r nodes) vs)) e

-- ---- LAWS: a refused call leaves all that is lent as it was

pub insert_unchanged : (t t' : Tables) (k v : ℤ) (coin : ℕ) (n : Refusal) → Inserts t t' k v coin (Err n) → t' ≡ t
insert_unchanged t t' k v coin n = unchanged (ap (insert_to t k v coin))

pub remove_unchanged : (t t' : Tables) (k : ℤ) (n : Refusal) → Removes t t' k (Err n) → t' ≡ t
remove_unchanged t t' k n = unchanged (ap (remove_to t k))

pub hand_over_unchanged : (t t' : Tables) (i : ℕ) (n : Refusal) → HandsOver t t' i (Err n) → t' ≡ t
hand_over_unchanged t t' i n = unchanged (ap (λ (r : Result Handed Refusal). handed_tables r t i))

pub sweep_unchanged : (t t' : Tables) (n : Refusal) → Sweeps t t' (Err n) → t' ≡ t
sweep_unchanged t t' n = unchanged (sweep_kept t t.coordinator.due n)

pub close_unchanged : (t t' : Tables) (v : ℕ) (n : Refusal) → Closes t t' v (Err n) → t' ≡ t
unfolding closing
close_unchanged t t' v n =
    unchanged (close_kept t (ltb (index_of v t.coordinator.ranges t.tickets) t.coordinator.ranges) (index_of v t.coordinator.ranges t.tickets) n)

pub open_unchanged : (t t' : Tables) (l h : ℤ) (n : Refusal) → Opens t t' l h (Err n) → t' ≡ t
unfolding opening
open_unchanged t t' l h n = unchanged (open_kept t l h (lt_z h l) (leb 16 t.coordinator.ranges) (leb last_version t.coordinator.counter.0) n)

pub step_unchanged : (t : Tables) (ks vs : List ℤ) (t' : Tables) (ks' vs' : List ℤ) (v : ℕ) (n : Refusal) → Steps t ks vs t' ks' vs' v (Err n) → with t' ks' vs' ≡ with t ks vs
step_unchanged t ks vs t' ks' vs' v n = unchanged (step_kept t ks vs (room_of ks vs) (stepping t.tickets t.coordinator.ranges v (room_of ks vs)) n)

pub fast_unchanged : (t : Tables) (ks vs ks' vs' : List ℤ) (l h : ℤ) (n : Refusal) → Ranges t ks vs ks' vs' l h (Err n) → with t ks' vs' ≡ with t ks vs
fast_unchanged t ks vs ks' vs' l h n = unchanged (fast_kept t ks vs (fast_nodes t.keys t.rows t.coordinator.counter.0 l h) _ n)
