-- What holds of every refusal of a call holds of each answer that is not accepted.
-- Assumes nothing.
use Rattle.std.specs.Prelude.{Result, Ok, Err}
use mathlib.Core.Path.{◌≡◌, sym, ◌∙◌}
use mathlib.Core.Bool.{true, false}
use Rattle.lists.proofs.Answers.{never}
use Rattle.model.specs.declared.Refusal.{Refusal}
use Rattle.model.specs.Calls.{Answer, accepted}
use Rattle.model.specs.Answers.{of_result}

pub refused_only : {A : Type 0} (f : A → Answer) → ((x : A) → accepted (f x) ≡ true) → (P : Result A Refusal → Type 0) → ((n : Refusal) → P (Err n)) → (r : Result A Refusal) → accepted (of_result f r) ≡ false → P r
refused_only f all P p (Err n) e = p n
refused_only f all P p (Ok x) e = never (sym e ∙ all x)
