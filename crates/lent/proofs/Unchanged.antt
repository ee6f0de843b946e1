-- A refused lent form leaves all that is lent as it was, cell by cell: the tables with tickets and coordinator, the pair buffers, the room for answers.
-- Assumes nothing.
use Rattle.std.specs.Prelude.{Result, Err}
use Rattle.model.specs.declared.Refusal.{Refusal}
use mathlib.Core.Path.{◌≡◌, ap, ◌∙◌}
use mathlib.Core.Bool.{Bool}
use mathlib.Core.List.{List}
use Prim.Native.Nat.{ℕ}
use native.Mathlib.Decide.{ℕ_discrete}
use lib.IntN.{ℤ}
use Rattle.sizes.specs.declared.Version.{Version}
use Rattle.model.specs.declared.Tallied.{Tallied}
use Rattle.tables.specs.Tables.{Tables}
use Rattle.soundness.proofs.Fresh as F
use Rattle.calls.specs.Entries as E
use Rattle.calls.proofs.Unchanged as U
use Rattle.batch.specs.declared.End.{End}
use Rattle.batch.specs.Lists.{Output}
use Rattle.batch.proofs.Unchanged.{ran_unchanged}
use Rattle.batch.specs.declared.Batch.{Batch}
use Rattle.lent.specs.Lends.{Lends}
use Rattle.lent.specs.Forms.{SetsUp, Looks, Nears, Tallies, Inserts, Removes, HandsOver, Sweeps, Opens, Closes, Steps, Ranges, Rooms, rooms, Runs}

module _ {X Y : Type 0} {n : ℕ} {OnSixteen : X → X → Y → Type 0} {refuse : Y} {before exit : X} {answer : Y} where
  -- LAW: where the call on sixteen tickets leaves what is lent, so does the lent form, whatever the number of tickets
  pub lends_unchanged : (OnSixteen before exit answer → exit ≡ before) → Lends n OnSixteen refuse before exit answer → exit ≡ before
  lends_unchanged same l = go (ℕ_discrete n 16)
    where
      go : Dec (n ≡ 16) → exit ≡ before
      go (yes e) = same (l.sixteen e)
      go (no e) = (l.others e).0

-- ---- LAWS: with so many tickets, each lent form; m is the refusal

pub set_up_unchanged : (n capacity : ℕ) (start : Version) (t t' : Tables) (m : Refusal) → SetsUp n capacity start t t' (Err m) → t' ≡ t
set_up_unchanged n capacity start t t' m = lends_unchanged (F.set_up_unchanged t t' capacity start m)

-- lookup, ceil, floor, succ, pred and tally leave it whatever they answer
pub lookup_unchanged : (n : ℕ) (k : ℤ) (t t' : Tables) (a : Result ℤ Refusal) → Looks n k t t' a → t' ≡ t
lookup_unchanged n k t t' a = lends_unchanged U.kept

pub nearest_unchanged : (n : ℕ) (k : ℤ) (d : ℕ) (at : Bool) (t t' : Tables) (a : Result ℤ Refusal) → Nears n k d at t t' a → t' ≡ t
nearest_unchanged n k d at t t' a = lends_unchanged U.kept

pub tally_unchanged : (n : ℕ) (t t' : Tables) (a : Result Tallied Refusal) → Tallies n t t' a → t' ≡ t
tally_unchanged n t t' a = lends_unchanged U.kept

pub insert_unchanged : (n : ℕ) (k v : ℤ) (coin : ℕ) (t t' : Tables) (m : Refusal) → Inserts n k v coin t t' (Err m) → t' ≡ t
insert_unchanged n k v coin t t' m = lends_unchanged (U.insert_unchanged t t' k v coin m)

pub remove_unchanged : (n : ℕ) (k : ℤ) (t t' : Tables) (m : Refusal) → Removes n k t t' (Err m) → t' ≡ t
remove_unchanged n k t t' m = lends_unchanged (U.remove_unchanged t t' k m)

pub hand_over_unchanged : (n i : ℕ) (t t' : Tables) (m : Refusal) → HandsOver n i t t' (Err m) → t' ≡ t
hand_over_unchanged n i t t' m = lends_unchanged (U.hand_over_unchanged t t' i m)

pub sweep_unchanged : (n : ℕ) (t t' : Tables) (m : Refusal) → Sweeps n t t' (Err m) → t' ≡ t
sweep_unchanged n t t' m = lends_unchanged (U.sweep_unchanged t t' m)

pub open_unchanged : (n : ℕ) (l h : ℤ) (t t' : Tables) (m : Refusal) → Opens n l h t t' (Err m) → t' ≡ t
open_unchanged n l h t t' m = lends_unchanged (U.open_unchanged t t' l h m)

pub close_unchanged : (n v : ℕ) (t t' : Tables) (m : Refusal) → Closes n v t t' (Err m) → t' ≡ t
close_unchanged n v t t' m = lends_unchanged (U.close_unchanged t t' v m)

pub step_unchanged : (n v : ℕ) (x y : E.Lent) (m : Refusal) → Steps n v x y (Err m) → y ≡ x
step_unchanged n v x y m = lends_unchanged (U.step_unchanged x.tables x.keys_out x.values_out y.tables y.keys_out y.values_out v m)

pub fast_unchanged : (n : ℕ) (l h : ℤ) (x y : E.Lent) (m : Refusal) → Ranges n l h x y (Err m) → y ≡ x
fast_unchanged n l h x y m =
    lends_unchanged (λ o. ap (λ (t : Tables). E.with t y.keys_out y.values_out) o.0 ∙ U.fast_unchanged x.tables x.keys_out x.values_out y.keys_out y.values_out l h m o.1)

-- a list that ended as refused
pub list_unchanged : (n : ℕ) (bytes : List ℕ) (more : Bool) (x y : Rooms) (r : Batch) (m : Refusal) → r.end ≡ End.Refused m → Runs n bytes more x y r → y ≡ x
list_unchanged n bytes more x y r m e = lends_unchanged (λ o. ap (λ (z : Output). rooms z.tables z.answers z.keys z.values) (ran_unchanged m o e))
