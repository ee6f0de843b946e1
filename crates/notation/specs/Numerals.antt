-- Decimal numbers of words, as the schedule file has them: 48 to 57 are the digits 0 to 9, 45 is `-`.
-- Assumes nothing.
use Rattle.std.specs.Prelude.{Bool, true, false, cond, ◌&&◌, List, [], ◌∷◌, ℕ, zero, suc, ◌^◌, eqb, leb, ltb, ℤ, pos, negsuc, Option, Some, None, Result, Ok, Err}
use Rattle.std.specs.Int.Signed.{mag}
use Rattle.groups.specs.Signs.{turned}
use Rattle.listing.specs.Decimals.{worth_from}
use Rattle.transactions.specs.Calls.{any, small}
use Rattle.notation.specs.declared.Fault.{Fault}
use Rattle.notation.specs.declared.Fault.TheVariants.{NotANumber, OutOfRange}
use Rattle.notation.specs.declared.Kind.{Kind}
use Rattle.notation.specs.declared.Kind.TheVariants.{Key, Coin}

abbrev pub all_digits : List ℕ → Bool
all_digits [] = true
all_digits (b ∷ bs) = (leb 48 b && leb b 57) && all_digits bs

-- what digits are worth, where that is below 2 ^ 64
abbrev pub worth_of : ℕ → Option ℕ
worth_of n = cond (leb n any) (Some n) None

-- the integer of this sign, where `true` is `-`, and magnitude
abbrev pub integer_of : Bool → ℕ → ℤ
integer_of false n = pos n
integer_of true zero = pos 0
integer_of true (suc n) = negsuc n

-- a number where it is in the range of its kind
abbrev pub allowed : Kind → Bool → ℕ → Result ℕ Fault
allowed kind in_range n = cond in_range (Ok n) (Err (OutOfRange kind))

-- a key or value: of 64 bits, as the schedule file turns it
abbrev pub key_value : Kind → ℤ → Result ℕ Fault
key_value kind z = allowed kind (ltb (mag z) (2 ^ 63)) (turned z)

-- a number from 0 to the greatest
abbrev pub plain_value : Kind → ℕ → ℤ → Result ℕ Fault
plain_value kind most (pos n) = allowed kind (leb n most) n
plain_value kind most (negsuc n) = Err (OutOfRange kind)

-- an integer where a word of this kind must stand: a key or value, a coin, else a capacity, version, node or room
abbrev pub value_as : Kind → ℤ → Result ℕ Fault
value_as Key z = key_value Key z
value_as Coin z = plain_value Coin any z
value_as kind z = plain_value kind small z

-- digits behind a sign or none: at least one, and zeros in front are allowed
abbrev pub digits_value : Bool → Kind → List ℕ → Result ℕ Fault
digits_value negative kind [] = Err NotANumber
digits_value negative kind (b ∷ bs) = cond (all_digits (b ∷ bs)) (value_as kind (integer_of negative (worth_from 0 (b ∷ bs)))) (Err NotANumber)

-- a word: digits, with `-` in front of a negative number; no `+`
unfoldable pub number : Kind → List ℕ → Result ℕ Fault
number kind [] = Err NotANumber
number kind (b ∷ bs) = cond (eqb b 45) (digits_value true kind bs) (digits_value false kind (b ∷ bs))
