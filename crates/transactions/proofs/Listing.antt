-- The document's 32 bytes are the written form of its header and its eleven calls, computed.
-- Assumes nothing.
use Prim.Native.Nat.{ℕ}
use mathlib.Core.Path.{◌≡◌, refl}
use mathlib.Core.List.{List, [], ◌∷◌, ◌++◌}
use lib.IntN.{pos, negsuc}
use Rattle.groups.specs.Groups.{groups_of}
use Rattle.transactions.specs.declared.Header.{Header}
use Rattle.transactions.specs.declared.Call.{Call}
use Rattle.transactions.specs.declared.Call.TheVariants.{Lookup, Insert, Remove, HandOver, Fast, Open, Step, Close, Sweep}
use Rattle.transactions.specs.Sequences.{bytes_of}
use Rattle.transactions.specs.Calls.{numbers_of, header_of}

-- capacity 64, start version 0
abbrev header : Header
header = record { capacity = 64; start = record { 0 = 0 } }

-- the calls of lines 1 to 11; −7 is negsuc 6
abbrev calls : List Call
calls =
    Insert (pos 10) (pos 1) 0
    ∷ Insert (pos 20) (pos 2) 0
    ∷ Open (pos 10) (pos 20)
    ∷ Remove (pos 20)
    ∷ HandOver (record { 0 = 1 })
    ∷ Insert (pos 20) (negsuc 6) 0
    ∷ Step (record { 0 = 1 }) 8
    ∷ Fast (pos 10) (pos 20)
    ∷ Close (record { 0 = 1 })
    ∷ Sweep
    ∷ Lookup (pos 21)
    ∷ []

abbrev written : List Call → List ℕ
written [] = []
written (c ∷ cs) = bytes_of (numbers_of c) ++ written cs

abbrev bytes : List ℕ
bytes =
    0x40 ∷ 0x00 ∷ 0x01 ∷ 0x14 ∷ 0x02 ∷ 0x00 ∷ 0x01 ∷ 0x28 ∷ 0x04 ∷ 0x00 ∷ 0x09 ∷ 0x14 ∷ 0x28 ∷ 0x02 ∷ 0x28 ∷ 0x03
    ∷ 0x01 ∷ 0x01 ∷ 0x28 ∷ 0x0D ∷ 0x00 ∷ 0x0A ∷ 0x01 ∷ 0x08 ∷ 0x08 ∷ 0x14 ∷ 0x28 ∷ 0x0B ∷ 0x01 ∷ 0x0C ∷ 0x00 ∷ 0x2A ∷ []

-- LAW: the listing
pub listing : bytes_of (header_of header) ++ written calls ≡ bytes
unfolding groups_of
listing = refl
