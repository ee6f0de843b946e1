-- What an exported function says, by the lent form that it calls.
-- Assumes nothing.
use Rattle.std.specs.Prelude.{Result, Ok, Err, ⊤}
use Rattle.model.specs.declared.Refusal.{Refusal}
use Rattle.std.specs.Prelude.{◌≡◌, List, ℕ, get_or, ℤ, pos}
use Rattle.model.specs.Answers.{refusal_number}
use Rattle.batch.specs.declared.End.{End}
use Rattle.batch.specs.declared.Batch.{Batch}
use Rattle.lopresnik.specs.declared.Ran.{Ran}

-- the lent form gave some answer, as `Form` says, and `r` is that answer in numbers
pub record Gives {E R : Type 0} (Form : E → Type 0) (numbers : E → R) (r : R) : Type 0 where
  pub made : E
  pub form : Form made
  pub is : r ≡ numbers made

-- 0, or the refusal of a call: its second cell
abbrev pub refusal_in : List ℤ → ℤ
refusal_in cells = get_or cells 1 (pos 0)

-- 0, or the refusal of a set-up
abbrev pub refusal : Result ⊤ Refusal → ℕ
refusal (Ok done) = 0
refusal (Err r) = refusal_number r

-- why a list ended, and beside it the offset of a stop or the number of a refusal
abbrev pub ending : End → ℕ × ℕ
ending End.Ended = (0, 0)
ending (End.Stop place) = (1, place)
ending End.More = (2, 0)
ending End.Full = (3, 0)
ending (End.Refused r) = (4, refusal_number r)

-- a run in numbers
abbrev pub ran : Batch → Ran
ran run =
    record { end = (ending run.end).0; at = (ending run.end).1; used = run.used; calls = run.calls; pairs = run.pairs }
