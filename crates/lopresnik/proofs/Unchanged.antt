-- An exported function whose number tells a refusal leaves all that is lent as it was, cell by cell.
-- Assumes nothing.
use Rattle.std.specs.Prelude.{Result, Ok, Err, ⊤}
use Rattle.model.specs.declared.Refusal.{Refusal}
use mathlib.Core.Path.{◌≡◌, refl, subst}
use mathlib.Core.Logic.{◌≢◌}
use mathlib.Core.Bool.{Bool, true, false, cond}
use mathlib.Core.List.{List, [], ◌∷◌}
use Prim.Native.Nat.{ℕ}
use native.Mathlib.Omega.{arith}
use lib.IntN.{ℤ, pos}
use Rattle.sizes.specs.declared.Version.{Version}
use Rattle.model.specs.declared.Handed.{Handed}
use Rattle.model.specs.declared.Handed.TheVariants.{Freed, Held}
use Rattle.model.specs.declared.Stepped.{Stepped}
use Rattle.model.specs.declared.Swept.{Swept}
use Rattle.sizes.specs.declared.Node.{Node}
use Rattle.model.specs.Calls.{Answer, refused, answered, accepted, node, opened, made_due, swept}
use Rattle.model.specs.Answers.{told_handed, paired, of_found, of_inserted, of_removed, of_handed, of_nearest, of_ranged, of_opened, of_stepped, of_closed, of_swept, of_tallied}
use Rattle.tables.specs.Tables.{Tables}
use Rattle.calls.specs.Entries as E
use Rattle.batch.specs.declared.End.{End}
use Rattle.batch.specs.Cells.{cells_of}
use Rattle.batch.proofs.Refusals.{refused_only}
use Rattle.batch.specs.declared.Batch.{Batch}
use Rattle.lent.specs.Forms.{SetsUp, Looks, Nears, Tallies, Inserts, Removes, HandsOver, Sweeps, Opens, Closes, Steps, Ranges, Rooms, Runs}
use Rattle.lent.proofs.Unchanged as L
use Rattle.lopresnik.specs.declared.Ran.{Ran}
use Rattle.lopresnik.specs.Exports.{Gives, refusal_in, refusal, ending, ran}

-- a hand-over that is not refused is accepted
handed_accepted : (h : Handed) → accepted (told_handed h) ≡ true
handed_accepted Freed = refl
handed_accepted Held = refl

-- LAW: where the lent form leaves what is lent at each answer whose numbers tell a refusal, so does the exported function
pub gives_unchanged : {X E R : Type 0} {Form : E → Type 0} {numbers : E → R} {r : R} {before exit : X} (Told : R → Type 0)
    → ((a : E) → Told (numbers a) → Form a → exit ≡ before) → Told r → Gives Form numbers r → exit ≡ before
gives_unchanged Told same e g = same g.made (subst Told g.is e) g.form

-- the cells tell whether the call was refused
cells_tell : (code : ℕ) (a : Answer) → refusal_in (cells_of code a) ≢ pos 0 → accepted a ≡ false
cells_tell code (refused n) e = refl
cells_tell code (answered xs ps) e = absurd (e refl)

-- LAW: so of a call, by the cell of its refusal
pub cells_unchanged : {X E : Type 0} {Form : E → Type 0} {before exit : X} {cells : List ℤ} (code : ℕ) (of : E → Answer)
    → ((a : E) → accepted (of a) ≡ false → Form a → exit ≡ before) → refusal_in cells ≢ pos 0 → Gives Form (λ a. cells_of code (of a)) cells → exit ≡ before
cells_unchanged code of same = gives_unchanged (λ cells. refusal_in cells ≢ pos 0) (λ a e. same a (cells_tell code (of a) e))

-- ---- LAWS: each exported function, with so many tickets

set_up_tells : (P : Result ⊤ Refusal → Type 0) → ((m : Refusal) → P (Err m)) → (a : Result ⊤ Refusal) → refusal a ≢ 0 → P a
set_up_tells P p (Ok tt) e = absurd (e refl)
set_up_tells P p (Err m) e = p m

pub set_up_unchanged : (n capacity : ℕ) (start : Version) (t t' : Tables) (r : ℕ) → r ≢ 0 → Gives (SetsUp n capacity start t t') refusal r → t' ≡ t
set_up_unchanged n capacity start t t' r =
    gives_unchanged (λ k. k ≢ 0) (set_up_tells (λ a. SetsUp n capacity start t t' a → t' ≡ t) (L.set_up_unchanged n capacity start t t'))

module _ (n : ℕ) (t t' : Tables) (cells : List ℤ) (e : refusal_in cells ≢ pos 0) where
  pub lookup_unchanged : (k : ℤ) → Gives (Looks n k t t') (λ a. cells_of 0 (of_found a)) cells → t' ≡ t
  lookup_unchanged k = cells_unchanged 0 of_found (λ a _. L.lookup_unchanged n k t t' a) e

  -- ceil, floor, succ and pred
  pub nearest_unchanged : (code : ℕ) (k : ℤ) (d : ℕ) (at : Bool) → Gives (Nears n k d at t t') (λ a. cells_of code (of_nearest a)) cells → t' ≡ t
  nearest_unchanged code k d at = cells_unchanged code of_nearest (λ a _. L.nearest_unchanged n k d at t t' a) e

  pub tally_unchanged : Gives (Tallies n t t') (λ a. cells_of 13 (of_tallied a)) cells → t' ≡ t
  tally_unchanged = cells_unchanged 13 of_tallied (λ a _. L.tally_unchanged n t t' a) e

  pub insert_unchanged : (k v : ℤ) (coin : ℕ) → Gives (Inserts n k v coin t t') (λ a. cells_of 1 (of_inserted a)) cells → t' ≡ t
  insert_unchanged k v coin = cells_unchanged 1 of_inserted (refused_only (λ (i : Node). node i.0) (λ x. refl) (λ a. Inserts n k v coin t t' a → t' ≡ t) (L.insert_unchanged n k v coin t t')) e

  pub remove_unchanged : (k : ℤ) → Gives (Removes n k t t') (λ a. cells_of 2 (of_removed a)) cells → t' ≡ t
  remove_unchanged k = cells_unchanged 2 of_removed (refused_only (λ (i : Node). node i.0) (λ x. refl) (λ a. Removes n k t t' a → t' ≡ t) (L.remove_unchanged n k t t')) e

  pub hand_over_unchanged : (i : ℕ) → Gives (HandsOver n i t t') (λ a. cells_of 3 (of_handed a)) cells → t' ≡ t
  hand_over_unchanged i = cells_unchanged 3 of_handed (refused_only told_handed handed_accepted (λ a. HandsOver n i t t' a → t' ≡ t) (L.hand_over_unchanged n i t t')) e

  pub open_unchanged : (l h : ℤ) → Gives (Opens n l h t t') (λ a. cells_of 9 (of_opened a)) cells → t' ≡ t
  open_unchanged l h = cells_unchanged 9 of_opened (refused_only (λ (v : Version). opened v.0) (λ x. refl) (λ a. Opens n l h t t' a → t' ≡ t) (L.open_unchanged n l h t t')) e

  pub close_unchanged : (v : ℕ) → Gives (Closes n v t t') (λ a. cells_of 11 (of_closed a)) cells → t' ≡ t
  close_unchanged v = cells_unchanged 11 of_closed (refused_only made_due (λ x. refl) (λ a. Closes n v t t' a → t' ≡ t) (L.close_unchanged n v t t')) e

  pub sweep_unchanged : Gives (Sweeps n t t') (λ a. cells_of 12 (of_swept a)) cells → t' ≡ t
  sweep_unchanged = cells_unchanged 12 of_swept (refused_only (λ (s : Swept). swept s.freed s.due) (λ x. refl) (λ a. Sweeps n t t' a → t' ≡ t) (L.sweep_unchanged n t t')) e

-- the pair buffers are lent too
module _ (n : ℕ) (x y : E.Lent) (cells : List ℤ) (e : refusal_in cells ≢ pos 0) where
  pub fast_unchanged : (l h : ℤ) → Gives (Ranges n l h x y) (λ a. cells_of 8 (of_ranged [] [] a)) cells → y ≡ x
  fast_unchanged l h = cells_unchanged 8 (of_ranged [] []) (refused_only (λ n. answered (pos n ∷ []) (paired n [] [])) (λ x. refl) (λ a. Ranges n l h x y a → y ≡ x) (L.fast_unchanged n l h x y)) e

  pub step_unchanged : (v : ℕ) → Gives (Steps n v x y) (λ a. cells_of 10 (of_stepped [] [] a)) cells → y ≡ x
  step_unchanged v = cells_unchanged 10 (of_stepped [] []) (refused_only (λ (s : Stepped). answered (pos s.pairs ∷ pos (cond s.finished 1 0) ∷ []) (paired s.pairs [] [])) (λ x. refl) (λ a. Steps n v x y a → y ≡ x) (L.step_unchanged n v x y)) e

-- a list that ended as refused: with 4
end_tells : (P : Type 0) (end : End) → ((m : Refusal) → end ≡ End.Refused m → P) → (ending end).0 ≡ 4 → P
end_tells P End.Ended p e = absurd (omega arith)
end_tells P (End.Stop place) p e = absurd (omega arith)
end_tells P End.More p e = absurd (omega arith)
end_tells P End.Full p e = absurd (omega arith)
end_tells P (End.Refused m) p e = p m refl

pub list_unchanged : (n : ℕ) (bytes : List ℕ) (more : Bool) (x y : Rooms) (r : Ran) → r.end ≡ 4 → Gives (Runs n bytes more x y) ran r → y ≡ x
list_unchanged n bytes more x y r =
    gives_unchanged (λ (z : Ran). z.end ≡ 4) (λ (a : Batch) e. end_tells (Runs n bytes more x y a → y ≡ x) a.end (L.list_unchanged n bytes more x y a) e)
