-- Lines as people write them, computed: what the definitions make of them.
-- Assumes nothing.
use mathlib.Core.Path.{◌≡◌, refl}
use mathlib.Core.List.{List, [], ◌∷◌}
use Prim.Native.Nat.{ℕ}
use Rattle.notation.specs.declared.Fault.TheVariants.{UnknownWord, NumberMissing, TooManyWords, NotANumber, OutOfRange, StartMissing}
use Rattle.notation.specs.declared.Kind.TheVariants.{Key, Small}
use Rattle.notation.specs.Words.{words}
use Rattle.notation.specs.Numerals.{number}
use Rattle.notation.specs.Forms.{names, start, kinds, Sense, nothing, numbers, wrong, sense}

abbrev says : List ℕ → Sense
says line = sense (words line)

-- a line of document 01's listing, as a person may write it: `\t insert  20 -7 000\r`
document_line : says (9 ∷ 32 ∷ 105 ∷ 110 ∷ 115 ∷ 101 ∷ 114 ∷ 116 ∷ 32 ∷ 32 ∷ 50 ∷ 48 ∷ 32 ∷ 45 ∷ 55 ∷ 32 ∷ 48 ∷ 48 ∷ 48 ∷ 13 ∷ []) ≡ numbers (1 ∷ 40 ∷ 13 ∷ 0 ∷ [])
unfolding words number names start kinds sense
document_line = refl

-- `capacity 64 start 0`
header_line_lem : says (99 ∷ 97 ∷ 112 ∷ 97 ∷ 99 ∷ 105 ∷ 116 ∷ 121 ∷ 32 ∷ 54 ∷ 52 ∷ 32 ∷ 115 ∷ 116 ∷ 97 ∷ 114 ∷ 116 ∷ 32 ∷ 48 ∷ []) ≡ numbers (14 ∷ 64 ∷ 0 ∷ 0 ∷ [])
unfolding words number names start kinds sense
header_line_lem = refl

-- `insert -1 0 18446744073709551615`: the greatest coin
greatest_coin : says (105 ∷ 110 ∷ 115 ∷ 101 ∷ 114 ∷ 116 ∷ 32 ∷ 45 ∷ 49 ∷ 32 ∷ 48 ∷ 32 ∷ 49 ∷ 56 ∷ 52 ∷ 52 ∷ 54 ∷ 55 ∷ 52 ∷ 52 ∷ 48 ∷ 55 ∷ 51 ∷ 55 ∷ 48 ∷ 57 ∷ 53 ∷ 53 ∷ 49 ∷ 54 ∷ 49 ∷ 53 ∷ []) ≡ numbers (1 ∷ 1 ∷ 0 ∷ 18446744073709551615 ∷ [])
unfolding words number names start kinds sense
greatest_coin = refl

-- `lookup -9223372036854775808`: the least key
least_key : says (108 ∷ 111 ∷ 111 ∷ 107 ∷ 117 ∷ 112 ∷ 32 ∷ 45 ∷ 57 ∷ 50 ∷ 50 ∷ 51 ∷ 51 ∷ 55 ∷ 50 ∷ 48 ∷ 51 ∷ 54 ∷ 56 ∷ 53 ∷ 52 ∷ 55 ∷ 55 ∷ 53 ∷ 56 ∷ 48 ∷ 56 ∷ []) ≡ numbers (0 ∷ 18446744073709551615 ∷ [])
unfolding words number names start kinds sense
least_key = refl

-- `lookup -9223372036854775809`
below_least : says (108 ∷ 111 ∷ 111 ∷ 107 ∷ 117 ∷ 112 ∷ 32 ∷ 45 ∷ 57 ∷ 50 ∷ 50 ∷ 51 ∷ 51 ∷ 55 ∷ 50 ∷ 48 ∷ 51 ∷ 54 ∷ 56 ∷ 53 ∷ 52 ∷ 55 ∷ 55 ∷ 53 ∷ 56 ∷ 48 ∷ 57 ∷ []) ≡ wrong (OutOfRange Key) 1
unfolding words number names start kinds sense
below_least = refl

-- `hand-over -1`
negative_node : says (104 ∷ 97 ∷ 110 ∷ 100 ∷ 45 ∷ 111 ∷ 118 ∷ 101 ∷ 114 ∷ 32 ∷ 45 ∷ 49 ∷ []) ≡ wrong (OutOfRange Small) 1
unfolding words number names start kinds sense
negative_node = refl

-- `step 1 4294967296`
great_room : says (115 ∷ 116 ∷ 101 ∷ 112 ∷ 32 ∷ 49 ∷ 32 ∷ 52 ∷ 50 ∷ 57 ∷ 52 ∷ 57 ∷ 54 ∷ 55 ∷ 50 ∷ 57 ∷ 54 ∷ []) ≡ wrong (OutOfRange Small) 2
unfolding words number names start kinds sense
great_room = refl

-- ` # a remark`
remark_line : says (32 ∷ 35 ∷ 32 ∷ 97 ∷ 32 ∷ 114 ∷ 101 ∷ 109 ∷ 97 ∷ 114 ∷ 107 ∷ []) ≡ nothing
unfolding words number names start kinds sense
remark_line = refl

-- spaces alone
empty_line : says (32 ∷ 32 ∷ []) ≡ nothing
unfolding words number names start kinds sense
empty_line = refl

-- `inset 1 2 3`
unknown_word : says (105 ∷ 110 ∷ 115 ∷ 101 ∷ 116 ∷ 32 ∷ 49 ∷ 32 ∷ 50 ∷ 32 ∷ 51 ∷ []) ≡ wrong UnknownWord 0
unfolding words number names start kinds sense
unknown_word = refl

-- `insert 1 2`
missing : says (105 ∷ 110 ∷ 115 ∷ 101 ∷ 114 ∷ 116 ∷ 32 ∷ 49 ∷ 32 ∷ 50 ∷ []) ≡ wrong NumberMissing 3
unfolding words number names start kinds sense
missing = refl

-- `lookup +1`
plus : says (108 ∷ 111 ∷ 111 ∷ 107 ∷ 117 ∷ 112 ∷ 32 ∷ 43 ∷ 49 ∷ []) ≡ wrong NotANumber 1
unfolding words number names start kinds sense
plus = refl

-- `lookup -`
minus_alone : says (108 ∷ 111 ∷ 111 ∷ 107 ∷ 117 ∷ 112 ∷ 32 ∷ 45 ∷ []) ≡ wrong NotANumber 1
unfolding words number names start kinds sense
minus_alone = refl

-- `sweep 1`
too_many : says (115 ∷ 119 ∷ 101 ∷ 101 ∷ 112 ∷ 32 ∷ 49 ∷ []) ≡ wrong TooManyWords 1
unfolding words number names start kinds sense
too_many = refl

-- `capacity 64 from 0`
no_start : says (99 ∷ 97 ∷ 112 ∷ 97 ∷ 99 ∷ 105 ∷ 116 ∷ 121 ∷ 32 ∷ 54 ∷ 52 ∷ 32 ∷ 102 ∷ 114 ∷ 111 ∷ 109 ∷ 32 ∷ 48 ∷ []) ≡ wrong StartMissing 2
unfolding words number names start kinds sense
no_start = refl

-- `hand-over 1 # why`: a remark behind a call
remark_behind : says (104 ∷ 97 ∷ 110 ∷ 100 ∷ 45 ∷ 111 ∷ 118 ∷ 101 ∷ 114 ∷ 32 ∷ 49 ∷ 32 ∷ 35 ∷ 32 ∷ 119 ∷ 104 ∷ 121 ∷ []) ≡ numbers (3 ∷ 1 ∷ [])
unfolding words number names start kinds sense
remark_behind = refl

-- `step 1 #2`: the room is in the remark
remark_early : says (115 ∷ 116 ∷ 101 ∷ 112 ∷ 32 ∷ 49 ∷ 32 ∷ 35 ∷ 50 ∷ []) ≡ wrong NumberMissing 2
unfolding words number names start kinds sense
remark_early = refl

-- `close 1#`: no remark, since the word begins with a digit
no_remark : says (99 ∷ 108 ∷ 111 ∷ 115 ∷ 101 ∷ 32 ∷ 49 ∷ 35 ∷ []) ≡ wrong NotANumber 1
unfolding words number names start kinds sense
no_remark = refl

-- `insert 1 x y`: the first word at fault, from the left
first_fault : says (105 ∷ 110 ∷ 115 ∷ 101 ∷ 114 ∷ 116 ∷ 32 ∷ 49 ∷ 32 ∷ 120 ∷ 32 ∷ 121 ∷ []) ≡ wrong NotANumber 2
unfolding words number names start kinds sense
first_fault = refl

-- `capacity 64`: the word `start` is missing at the end
start_left_out : says (99 ∷ 97 ∷ 112 ∷ 97 ∷ 99 ∷ 105 ∷ 116 ∷ 121 ∷ 32 ∷ 54 ∷ 52 ∷ []) ≡ wrong StartMissing 2
unfolding words number names start kinds sense
start_left_out = refl
