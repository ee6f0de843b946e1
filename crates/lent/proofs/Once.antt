-- A lent form is determined by the input: two outcomes are equal, since two outcomes on sixteen tickets are.
-- Assumes nothing.
use mathlib.Core.Path.{◌≡◌, refl, sym, ap, ◌∙◌, subst}
use mathlib.Core.Bool.{Bool, true, false, true≢false}
use mathlib.Core.List.{List}
use Prim.Native.Nat.{ℕ}
use lib.Dec.{T as Holds, eqb, eqb→eq}
use lib.IntN.{ℤ}
use borrow.Author.Tests.{eq-eqb}
use Rattle.sizes.specs.declared.Version.{Version}
use Rattle.model.specs.Calls.{Call, Answer}
use Rattle.tables.specs.Tables.{Tables}
use Rattle.soundness.proofs.Never.{one_set_up}
use Rattle.calls.specs.Entries as E
use Rattle.calls.specs.Outcome.{Outcome}
use Rattle.calls.proofs.Once.{outcome_once}
use Rattle.batch.specs.Lists.{Output}
use Rattle.batch.proofs.Once.{ran_once}
use Rattle.batch.specs.declared.Batch.{Batch}
use Rattle.lent.specs.Lends.{Lends}
use Rattle.lent.specs.Forms.{SetsUp, Ranges, Runs, Rooms, rooms, input_from, output_from}

-- what is left and answered is the same
abbrev pub Determined : {X Y : Type 0} → (X → Y → Type 0) → Type 0
Determined {X} {Y} Out = (x y : X) (a b : Y) → Out x a → Out y b → (x ≡ y) × (a ≡ b)

-- LAW: a lent form is determined where the call on sixteen tickets is
pub lends_once : {X Y : Type 0} {n : ℕ} {OnSixteen : X → X → Y → Type 0} {refuse : Y} {before : X} → Determined (OnSixteen before) → Determined (Lends n OnSixteen refuse before)
lends_once {X} {Y} {n = n} once x y a b l m = go (eqb n 16) refl
  where
    go : (t : Bool) → eqb n 16 ≡ t → (x ≡ y) × (a ≡ b)
    go true e = let s : n ≡ 16 = eqb→eq n 16 (subst Holds (sym e) tt) in once x y a b (l.sixteen s) (m.sixteen s)
    go false e =
        let o : n ≡ 16 → ⊥ = λ s. true≢false (sym (eq-eqb n 16 s) ∙ e) in
        ((l.others o).0 ∙ sym (m.others o).0, (l.others o).1 ∙ sym (m.others o).1)

-- LAW: so every call whose outcome on sixteen tickets is an `Outcome` is determined: lookup, ceil, floor, succ, pred, tally, insert, remove, hand over, sweep, open, close and step
pub call_once : {X Y : Type 0} {n : ℕ} {refuse' : Y} (tables : X → Tables) (of : X → Y → Answer) (c : X → Call) (after : X → X) (given refuse : X → Y) (before : X)
    → Determined (Lends n (λ x y a. Outcome tables (of x) (c x) x y (after x) a (given x) (refuse x)) refuse' before)
call_once tables of c after given refuse before = lends_once (outcome_once tables (of before) (c before) before (after before) (given before) (refuse before))

-- LAW: set-up is determined
pub set_up_once : {n capacity : ℕ} {start : Version} (t : Tables) → Determined (SetsUp n capacity start t)
set_up_once {capacity = capacity} {start = start} t = lends_once (λ x y a b. one_set_up t x y capacity start a b)

-- LAW: a fast range is determined
pub fast_once : {n : ℕ} {l h : ℤ} (before : E.Lent) → Determined (Ranges n l h before)
fast_once {l = l} {h = h} before = lends_once (λ x y a b o p.
    let same = outcome_once (λ (z : E.Lent). z.tables) _ _ before _ _ _ (E.with before.tables x.keys_out x.values_out) (E.with before.tables y.keys_out y.values_out) a b o.1 p.1 in
    (ap (λ (t : Tables). E.with t x.keys_out x.values_out) o.0 ∙ (same.0 ∙ sym (ap (λ (t : Tables). E.with t y.keys_out y.values_out) p.0)), same.1))

-- LAW: a list of calls is determined
pub list_once : {n : ℕ} {bytes : List ℕ} {more : Bool} (before : Rooms) → Determined (Runs n bytes more before)
list_once {bytes = bytes} {more = more} before = lends_once (λ x y a b o p.
    let same = ran_once (input_from before bytes more) (output_from x a) (output_from y b) o p in
    (ap (λ (z : Output). rooms z.tables z.answers z.keys z.values) same, ap run_in same))
  where
    run_in : Output → Batch
    run_in z = record { end = z.end; used = z.used; calls = z.calls; pairs = z.pairs }
