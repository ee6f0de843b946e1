-- The header and the calls as numbers: a call is its code and its numbers.
-- Assumes nothing.
use Rattle.std.specs.Prelude.{ℕ, ◌-◌, ◌^◌, List, [], ◌∷◌, get_or}
use Rattle.std.proofs.Math.Option.{Option, some}
use Rattle.std.specs.Int.{w32, w64}
use Rattle.std.proofs.Common.{Fits, SFits}
use Rattle.groups.specs.Signs.{turned}
use Rattle.transactions.specs.declared.Header.{Header}
use Rattle.transactions.specs.declared.Call.{Call}
use Rattle.transactions.specs.declared.Call.TheVariants.{Lookup, Insert, Remove, HandOver, Ceil, Floor, Succ, Pred, Fast, Open, Step, Close, Sweep, Tally}
use Rattle.transactions.specs.Sequences.{Sequence, Within, listed}

-- a coin, or a key or value as it is written: all 64 bits
abbrev pub any : ℕ
any = 2 ^ 64 - 1

-- a capacity, version, node or room: below 2 ^ 32
abbrev pub small : ℕ
small = 2 ^ 32 - 1

-- the limits of the numbers behind each code
abbrev pub operands : List (List ℕ)
operands =
    (any ∷ [])
    ∷ (any ∷ any ∷ any ∷ [])
    ∷ (any ∷ [])
    ∷ (small ∷ [])
    ∷ (any ∷ [])
    ∷ (any ∷ [])
    ∷ (any ∷ [])
    ∷ (any ∷ [])
    ∷ (any ∷ any ∷ [])
    ∷ (any ∷ any ∷ [])
    ∷ (small ∷ small ∷ [])
    ∷ (small ∷ [])
    ∷ []
    ∷ []
    ∷ []

abbrev pub operands_of : ℕ → List ℕ
operands_of code = get_or operands code []

-- the limit of the next number of a call: of its code, and then by its code
abbrev pub call_limit : List ℕ → Option ℕ
call_limit [] = some 13
call_limit (code ∷ ns) = listed (operands_of code) ns

-- the limit of the next number of a header
abbrev pub header_limit : List ℕ → Option ℕ
header_limit = listed (small ∷ small ∷ [])

abbrev pub numbers_of : Call → List ℕ
numbers_of (Lookup k) = 0 ∷ turned k ∷ []
numbers_of (Insert k v coin) = 1 ∷ turned k ∷ turned v ∷ coin ∷ []
numbers_of (Remove k) = 2 ∷ turned k ∷ []
numbers_of (HandOver node) = 3 ∷ node.0 ∷ []
numbers_of (Ceil k) = 4 ∷ turned k ∷ []
numbers_of (Floor k) = 5 ∷ turned k ∷ []
numbers_of (Succ k) = 6 ∷ turned k ∷ []
numbers_of (Pred k) = 7 ∷ turned k ∷ []
numbers_of (Fast l r) = 8 ∷ turned l ∷ turned r ∷ []
numbers_of (Open l r) = 9 ∷ turned l ∷ turned r ∷ []
numbers_of (Step version room) = 10 ∷ version.0 ∷ room ∷ []
numbers_of (Close version) = 11 ∷ version.0 ∷ []
numbers_of Sweep = 12 ∷ []
numbers_of Tally = 13 ∷ []

abbrev pub header_of : Header → List ℕ
header_of h = h.capacity ∷ h.start.0 ∷ []

-- the fields of a call, of a header, are of their types: signed 64 bits, 64 bits, 32 bits
abbrev pub Typed : Call → Type 0
Typed (Lookup k) = SFits w64 k
Typed (Insert k v coin) = SFits w64 k × SFits w64 v × Fits w64 coin
Typed (Remove k) = SFits w64 k
Typed (HandOver node) = Fits w32 node.0
Typed (Ceil k) = SFits w64 k
Typed (Floor k) = SFits w64 k
Typed (Succ k) = SFits w64 k
Typed (Pred k) = SFits w64 k
Typed (Fast l r) = SFits w64 l × SFits w64 r
Typed (Open l r) = SFits w64 l × SFits w64 r
Typed (Step version room) = Fits w32 version.0 × Fits w32 room
Typed (Close version) = Fits w32 version.0
Typed Sweep = Unit {0}
Typed Tally = Unit {0}

abbrev pub TypedHeader : Header → Type 0
TypedHeader h = Fits w32 h.capacity × Fits w32 h.start.0

-- the bytes are the written form of a call, of a header
pub record WrittenCall (call : Call) (bytes : List ℕ) : Type 0 where
  pub sequence : Sequence (numbers_of call) bytes
  pub within : Within call_limit (numbers_of call)

pub record WrittenHeader (header : Header) (bytes : List ℕ) : Type 0 where
  pub sequence : Sequence (header_of header) bytes
  pub within : Within header_limit (header_of header)
