-- A list of calls as schedule bytes: which of its calls are made, what they leave, and why the list ended.
-- Assumes nothing.
use Rattle.std.specs.Prelude.{◌≡◌, Bool, true, false, List, [], ◌∷◌, ◌++◌, map, ℕ, ◌+◌, ◌*◌, ◌<◌, ◌≤◌, length, drop, ℤ, Result, Ok, Err}
use Rattle.lists.specs.Tests.{Says}
use Rattle.lists.specs.Buffers.{written}
use Rattle.transactions.specs.declared.Call.{Call}
use Rattle.transactions.specs.declared.Halt.{Halt}
use Rattle.transactions.specs.Sequences.{bytes_of}
use Rattle.transactions.specs.Calls.{numbers_of}
use Rattle.transactions.specs.Readings.{CallRead}
use Rattle.model.specs.Plain.{Pair}
use Rattle.model.specs.Calls as C
use Rattle.model.specs.Model as M
use Rattle.tables.specs.Tables.{Tables, Sound, Met, view}
use Rattle.calls.specs.Histories.{Calls}
use Rattle.batch.specs.declared.Batch.{Batch}
use Rattle.batch.specs.declared.End.{End}
use Rattle.batch.specs.declared.End.TheVariants.{Ended, Stop, More, Full, Refused}
use Rattle.model.specs.declared.Refusal.TheVariants.{NotSound}
use Rattle.batch.specs.Cells.{cells_of}
use Rattle.batch.specs.Turns.{room, meant, turn_tables, answer_of, pairs_of, keys_in, values_in}

-- the input: the tables, the bytes and whether more may follow them, the room for answers, and the pair buffers
pub record Input : Type 0 where
  pub tables : Tables
  pub bytes : List ℕ
  pub more : Bool
  pub answers : List ℤ
  pub keys : List ℤ
  pub values : List ℤ

-- the output: why the list ended, how many bytes, calls and pairs were used, and what is lent, afterwards
pub record Output : Type 0 where
  pub end : End
  pub used : ℕ
  pub calls : ℕ
  pub pairs : ℕ
  pub tables : Tables
  pub answers : List ℤ
  pub keys : List ℤ
  pub values : List ℤ

-- the second leaves the tables, the pairs and both pair buffers as the first does
pub record Unchanged (first second : Output) : Type 0 where
  pub tables : second.tables ≡ first.tables
  pub pairs : second.pairs ≡ first.pairs
  pub keys : second.keys ≡ first.keys
  pub values : second.values ≡ first.values

-- what is lent, as input and as output
abbrev pub input_of : Tables → List ℕ → Bool → List ℤ → List ℤ → List ℤ → Input
input_of tables bytes more answers keys values =
    record { tables = tables; bytes = bytes; more = more; answers = answers; keys = keys; values = values }

abbrev pub output_of : Tables → List ℤ → List ℤ → List ℤ → Batch → Output
output_of tables answers out_keys out_values r =
    record {
      end = r.end;
      used = r.used;
      calls = r.calls;
      pairs = r.pairs;
      tables = tables;
      answers = answers;
      keys = out_keys;
      values = out_values;
    }

-- ---- calls one after another

-- their written forms
abbrev pub bytes_in : List Call → List ℕ
bytes_in [] = []
bytes_in (c ∷ cs) = bytes_of (numbers_of c) ++ bytes_in cs

-- the tables after them
abbrev pub tables_after : Tables → List Call → Tables
tables_after t [] = t
tables_after t (c ∷ cs) = tables_after (turn_tables t c) cs

-- each call with the model's answer
unfoldable pub made_on : Tables → List Call → List (C.Call × C.Answer)
made_on t cs = M.history (view t) (map (meant room) cs)

-- the cells of the answers, and the pairs handed out
abbrev pub cells_in : List (C.Call × C.Answer) → List ℤ
cells_in [] = []
cells_in (h ∷ hs) = cells_of (C.code h.0) h.1 ++ cells_in hs

abbrev pub pairs_in : List (C.Call × C.Answer) → List Pair
pairs_in [] = []
pairs_in (h ∷ hs) = C.pairs_in h.1 ++ pairs_in hs

-- ---- which calls are made, and why the list ends

-- in so many cells for answers and places of both pair buffers there is room for any answer behind those of so many calls with so many pairs
pub record Room (answers keys values calls pairs : ℕ) : Type 0 where
  pub cells : calls * 5 + 5 ≤ answers
  pub for_keys : pairs + room ≤ keys
  pub for_values : pairs + room ≤ values

-- bytes are left, and there is room
pub record Goes (bytes : List ℕ) (answers keys values used calls pairs : ℕ) : Type 0 where
  pub left : used < length bytes
  pub has_room : Room answers keys values calls pairs

-- where reading goes no further, why a list ends
abbrev pub ended_by : Halt → End
ended_by (Halt.Stop place) = Stop place
ended_by Halt.More = More

-- what comes next: the call that is read; or the end, where no byte is left, the bytes stop making sense, more bytes are needed to tell, or there is no room
abbrev pub Comes : List ℕ → Bool → ℕ → ℕ → ℕ → ℕ → ℕ → ℕ → Result (Call × ℕ) End → Type 0
Comes bytes more answers keys values used calls pairs (Ok next) =
    Goes bytes answers keys values used calls pairs × CallRead (drop used bytes) used more (Ok next)
Comes bytes more answers keys values used calls pairs (Err Ended) = length bytes ≤ used
Comes bytes more answers keys values used calls pairs (Err (Stop place)) =
    Goes bytes answers keys values used calls pairs × CallRead (drop used bytes) used more (Err (Halt.Stop place))
Comes bytes more answers keys values used calls pairs (Err More) =
    Goes bytes answers keys values used calls pairs × CallRead (drop used bytes) used more (Err Halt.More)
Comes bytes more answers keys values used calls pairs (Err Full) =
    (used < length bytes) × (Room answers keys values calls pairs → ⊥)
Comes bytes more answers keys values used calls pairs (Err (Refused n)) = ⊥

-- a call made on t behind so many calls and pairs: a turn, its cells at their place, and its pairs behind the others
pub record Laid (t t' : Tables) (c : Call) (calls pairs : ℕ) (answers ks vs answers' ks' vs' : List ℤ) (count : ℕ) : Type 0 where
  pub tables : t' ≡ turn_tables t c
  pub met : Met t t' (meant room c) (answer_of t c)
  pub counts : count ≡ length (pairs_of t c)
  pub few : count ≤ room
  pub cells : answers' ≡ written answers (calls * 5) (cells_of (C.code (meant room c)) (answer_of t c))
  pub keys_out : ks' ≡ written ks pairs (keys_in (pairs_of t c))
  pub values_out : vs' ≡ written vs pairs (values_in (pairs_of t c))

module _ (i : Input) where
  -- what comes behind these calls
  abbrev pub Follows : List Call → Result (Call × ℕ) End → Type 0
  Follows cs next =
      Comes i.bytes i.more (length i.answers) (length i.keys) (length i.values) (length (bytes_in cs)) (length cs)
      (length (pairs_in (made_on i.tables cs)))
      next

  -- each of these calls comes behind those before it
  abbrev pub Made : List Call → List Call → Type 0
  Made before [] = Unit {0}
  Made before (c ∷ cs) = Follows before (Ok (c, length (bytes_of (numbers_of c)))) × Made (before ++ (c ∷ [])) cs

  -- what these calls leave
  unfoldable pub leaves : List Call → End → Output
  leaves cs end =
      record {
        end = end;
        used = length (bytes_in cs);
        calls = length cs;
        pairs = length (pairs_in (made_on i.tables cs));
        tables = tables_after i.tables cs;
        answers = written i.answers 0 (cells_in (made_on i.tables cs));
        keys = written i.keys 0 (keys_in (pairs_in (made_on i.tables cs)));
        values = written i.values 0 (values_in (pairs_in (made_on i.tables cs)));
      }

  -- nothing changed
  abbrev pub untouched : Output
  untouched =
      record {
        end = Refused NotSound;
        used = 0;
        calls = 0;
        pairs = 0;
        tables = i.tables;
        answers = i.answers;
        keys = i.keys;
        values = i.values;
      }

  -- on sound tables: the calls that were made, why there was no other, and that they came to what they come to one after another
  pub record Listed (o : Output) : Type 0 where
    pub made : List Call
    pub in_turn : Made [] made
    pub ends : Follows made (Err o.end)
    pub is : o ≡ leaves made o.end
    pub met : Calls i.tables (made_on i.tables made) o.tables

  -- on any tables: those that are not sound are refused with 1, and nothing changes
  pub record Ran (o : Output) : Type 0 where
    pub tested : Bool
    pub says : Says tested (Sound i.tables)
    pub refuses : tested ≡ false → o ≡ untouched
    pub lists : tested ≡ true → Listed o
