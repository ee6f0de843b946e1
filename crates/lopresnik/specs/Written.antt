-- Calls and headers as a host gives them, in plain numbers, and what writing them leaves.
-- Assumes nothing.
use Rattle.std.specs.Prelude.{ℕ, ◌≡◌, cond, List, [], ◌∷◌, leb, ℤ, pos, negsuc, length, take, get_or, Option, Some, None, Result, Ok, Err}
use Rattle.groups.specs.Buffers.{Writes}
use Rattle.tables.specs.Tables.{version, node}
use Rattle.transactions.specs.declared.Header.{Header}
use Rattle.transactions.specs.declared.Call.TheVariants.{Lookup, Insert, Remove, HandOver, Ceil, Floor, Succ, Pred, Fast, Open, Step, Close, Sweep, Tally}
use Rattle.transactions.specs.Sequences.{bytes_of}
use Rattle.transactions.specs.Calls.{numbers_of, operands_of, small}
use Rattle.batch.specs.Turns.{signed_behind, filed}
use Rattle.transactions.specs.declared.Call.{Call}
use Rattle.groups.specs.declared.TooShort.{TooShort}
use Rattle.lopresnik.specs.Exports.{Gives}

-- the version of the interface: it rises when a function, a struct or the layout of the tables changes
abbrev pub interface : ℕ
interface = 1

-- the number where it is below 2 ^ 32
abbrev pub narrowed : ℤ → Option ℕ
narrowed (pos n) = cond (leb n small) (Some n) None
narrowed (negsuc n) = None

-- the calls whose numbers must be below 2 ^ 32
abbrev pub hands_over : Option ℕ → Option Call
hands_over (Some n) = Some (HandOver (node n))
hands_over None = None

abbrev pub steps : Option ℕ → Option ℕ → Option Call
steps (Some v) (Some room) = Some (Step (version v) room)
steps (Some v) None = None
steps None room = None

abbrev pub closes : Option ℕ → Option Call
closes (Some v) = Some (Close (version v))
closes None = None

-- the calls of these numbers, by their codes; the numbers that a call does not have are not looked at
abbrev pub calls_of : ℤ → ℤ → ℕ → List (Option Call)
calls_of first second third =
    Some (Lookup first)
    ∷ Some (Insert first second third)
    ∷ Some (Remove first)
    ∷ hands_over (narrowed first)
    ∷ Some (Ceil first)
    ∷ Some (Floor first)
    ∷ Some (Succ first)
    ∷ Some (Pred first)
    ∷ Some (Fast first second)
    ∷ Some (Open first second)
    ∷ steps (narrowed first) (narrowed second)
    ∷ closes (narrowed first)
    ∷ Some Sweep
    ∷ Some Tally
    ∷ []

-- the call of this code
abbrev pub asked : ℕ → ℤ → ℤ → ℕ → Option Call
asked code first second third = get_or (calls_of first second third) code None

-- the call is written with this code and these numbers, as many as its code has
abbrev pub WrittenAs : ℕ → ℤ → ℤ → ℕ → Option Call → Type 0
WrittenAs code first second third (Some call) =
    numbers_of call ≡ code ∷ take (length (operands_of code)) (filed (signed_behind code) (first ∷ second ∷ pos third ∷ []))
WrittenAs code first second third None = Unit {0}

-- the length of what was written, 0 where it was refused
abbrev pub written : Result ℕ TooShort → ℕ
written (Ok n) = n
written (Err e) = 0

-- the call is written by the rules and the answer is its length, 0 where it did not fit; where there is no such call, the answer is 0 and nothing changes
abbrev pub AskedWritten : Option Call → List ℕ → List ℕ → ℕ → Type 0
AskedWritten (Some call) before after r = Gives (Writes (bytes_of (numbers_of call)) before after) written r
AskedWritten None before after r = (after ≡ before) × (r ≡ 0)

-- the header of these numbers
abbrev pub headed : ℕ → ℕ → Header
headed capacity start = record { capacity = capacity; start = version start }
