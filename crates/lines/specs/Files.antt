-- What `schedule` prints of the transactions of a file; and the same file run in parts, as it is read.
-- Assumes nothing.
use Rattle.std.specs.Prelude.{◌≡◌, Bool, false, List, [], ◌∷◌, ◌++◌, map, ℕ, ◌+◌, ◌<◌, length, drop, ℤ, pos}
use Rattle.lists.specs.Holds.{All}
use Rattle.transactions.specs.declared.Call.{Call}
use Rattle.transactions.specs.Sequences.{bytes_of}
use Rattle.transactions.specs.Calls.{numbers_of, call_limit, WrittenCall}
use Rattle.transactions.specs.Readings.{StopsAt}
use Rattle.listing.specs.Lines.{line_after}
use Rattle.model.specs.Model.{State, history}
use Rattle.tables.specs.Tables.{Tables}
use Rattle.batch.specs.declared.End.{End}
use Rattle.batch.specs.Turns.{room, meant}
use Rattle.batch.specs.Lists.{Output, input_of, bytes_in, made_on, Listed}
use Rattle.lines.specs.Lines.{lines_behind}

-- `end`, and `stop` with its offset
abbrev pub end_line : List ℕ
end_line = line_after (101 ∷ 110 ∷ 100 ∷ []) []

abbrev pub stop_line : ℕ → List ℕ
stop_line offset = line_after (115 ∷ 116 ∷ 111 ∷ 112 ∷ []) (pos offset ∷ [])

-- the last line, by the bytes left, which begin at this place of the file: none are left where a transaction would begin, or a number or code there is malformed, cut off or out of range
pub data Last (rest : List ℕ) (place : ℕ) : List ℕ → Type 0 where
  ended : rest ≡ [] → Last rest place end_line
  stopped : (offset : ℕ) → 0 < length rest → StopsAt call_limit rest place false offset → Last rest place (stop_line offset)

-- what is printed of the transactions in these bytes, which begin at this place of the file, behind so many transactions and on a map in this state
pub record Prints (s : State) (before place : ℕ) (bytes out : List ℕ) : Type 0 where
  pub calls : List Call
  pub rest : List ℕ
  pub last : List ℕ
  pub written : All (λ (c : Call). WrittenCall c (bytes_of (numbers_of c))) calls
  pub whole : bytes ≡ bytes_in calls ++ rest
  pub ends : Last rest (place + length (bytes_in calls)) last
  pub is : out ≡ lines_behind before (history s (map (meant room) calls)) ++ last

-- ---- in parts

-- a batch on these tables and bytes, behind which more may follow, with some room for answers and pairs
pub record Part (t : Tables) (bytes : List ℕ) (more : Bool) : Type 0 where
  pub answers : List ℤ
  pub keys : List ℤ
  pub values : List ℤ
  pub output : Output
  pub listed : Listed (input_of t bytes more answers keys values) output

-- its lines, behind so many transactions
abbrev pub part_lines : {t : Tables} {bytes : List ℕ} {more : Bool} → ℕ → Part t bytes more → List ℕ
part_lines {t} before p = lines_behind before (made_on t p.listed.made)

-- part after part: the tables, how many transactions and bytes came before, the bytes held, those still to be read, and what is printed
pub data InParts : Tables → ℕ → ℕ → List ℕ → List ℕ → List ℕ → Type 0 where
  -- some bytes are read behind those that the part did not use, and the next part follows
  on : {t : Tables} {before place : ℕ} {held later out : List ℕ} {more : Bool} (p : Part t held more) (read : List ℕ)
      → InParts p.output.tables (before + p.output.calls) (place + p.output.used) (drop p.output.used held ++ read) later out
      → InParts t before place held (read ++ later) (part_lines before p ++ out)
  -- no byte is left
  ended : {t : Tables} {before place : ℕ} {held : List ℕ} (p : Part t held false) → p.output.end ≡ End.Ended → InParts t before place held [] (part_lines before p ++ end_line)
  -- the part stops
  stopped : {t : Tables} {before place : ℕ} {held later : List ℕ} {more : Bool} (p : Part t held more) (offset : ℕ) → p.output.end ≡ End.Stop offset → (more ≡ false → later ≡ [])
      → InParts t before place held later (part_lines before p ++ stop_line (place + offset))
