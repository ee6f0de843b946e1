-- A part of a schedule file, run as one batch, and its lines.
-- Assumes nothing.
use Rattle.std.specs.Prelude.{◌≡◌, true, false, List, [], ℕ, length}
use Rattle.listing.specs.Puts.{Put}
use Rattle.batch.specs.Lists.{Input, Output, made_on, Ran}
use Rattle.lines.specs.Lines.{lines_behind, most_for}

-- so many bytes of lines at the front of `out`, which becomes `last`: those of the calls that were made, behind so many transactions; none where the tables are refused
pub record Printed (i : Input) (before : ℕ) (out : List ℕ) (o : Output) (last : List ℕ) (len : ℕ) : Type 0 where
  pub ran : Ran i o
  pub silent : ran.tested ≡ false → Put out 0 (most_for (length i.answers) (length i.keys)) [] last len
  pub lines :
      (e : ran.tested ≡ true)
      → Put out 0 (most_for (length i.answers) (length i.keys)) (lines_behind before (made_on i.tables (ran.lists e).made)) last len
