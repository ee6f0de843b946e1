-- What an entry point does on any tables whatever.
-- Assumes nothing.
use Rattle.std.specs.Prelude.{◌≡◌, Bool, true, false, cond}
use Rattle.lists.specs.Tests.{Says}
use Rattle.model.specs.Calls.{Call, Answer, refused}
use Rattle.tables.specs.Tables.{Tables, Sound, Met}

-- `before` is what is lent (the tables and, for some calls, the pair buffers), `exit` the same afterwards, `tables` its tables.
-- Sound tables: what is lent becomes `after` and the answer is `given`, which meet the model's call. Other tables: nothing changes, and the answer is `refuse`.
pub record Outcome {X E : Type 0} (tables : X → Tables) (of : E → Answer) (c : Call) (before exit after : X) (answer given refuse : E) : Type 0 where
  pub tested : Bool
  pub says : Says tested (Sound (tables before))
  pub lent : exit ≡ cond tested after before
  pub answers : answer ≡ cond tested given refuse
  pub met : tested ≡ true → Met (tables before) (tables after) c (of given)

-- one call on any tables, with its answer: refused with 1 and nothing changed, or as the model
pub record Called (t : Tables) (c : Call) (a : Answer) (t' : Tables) : Type 0 where
  pub tested : Bool
  pub says : Says tested (Sound t)
  pub refuses : tested ≡ false → (t' ≡ t) × (a ≡ refused 1)
  pub met : tested ≡ true → Met t t' c a
