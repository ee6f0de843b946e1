-- The forms of a line: a name, and what must stand behind it.
-- Assumes nothing.
use Rattle.std.specs.Prelude.{Bool, true, false, cond, ◌&&◌, List, [], ◌∷◌, ◌++◌, ℕ, suc, eqb, get_or, Result, Ok, Err}
use Rattle.transactions.specs.Calls.{numbers_of}
use Rattle.notation.specs.declared.Fault.{Fault}
use Rattle.notation.specs.declared.Fault.TheVariants.{UnknownWord, NumberMissing, TooManyWords, StartMissing}
use Rattle.notation.specs.declared.Kind.{Kind}
use Rattle.notation.specs.declared.Kind.TheVariants.{Key, Coin, Small, Start}
use Rattle.notation.specs.declared.Line.{Line}
use Rattle.notation.specs.declared.Misread.{Misread}
use Rattle.notation.specs.Numerals.{number}

-- the names by code, then that of the header:
-- lookup, insert, remove, hand-over, ceil, floor, succ, pred, fast, open, step, close, sweep, tally, capacity
unfoldable pub names : List (List ℕ)
names =
    (108 ∷ 111 ∷ 111 ∷ 107 ∷ 117 ∷ 112 ∷ [])
    ∷ (105 ∷ 110 ∷ 115 ∷ 101 ∷ 114 ∷ 116 ∷ [])
    ∷ (114 ∷ 101 ∷ 109 ∷ 111 ∷ 118 ∷ 101 ∷ [])
    ∷ (104 ∷ 97 ∷ 110 ∷ 100 ∷ 45 ∷ 111 ∷ 118 ∷ 101 ∷ 114 ∷ [])
    ∷ (99 ∷ 101 ∷ 105 ∷ 108 ∷ [])
    ∷ (102 ∷ 108 ∷ 111 ∷ 111 ∷ 114 ∷ [])
    ∷ (115 ∷ 117 ∷ 99 ∷ 99 ∷ [])
    ∷ (112 ∷ 114 ∷ 101 ∷ 100 ∷ [])
    ∷ (102 ∷ 97 ∷ 115 ∷ 116 ∷ [])
    ∷ (111 ∷ 112 ∷ 101 ∷ 110 ∷ [])
    ∷ (115 ∷ 116 ∷ 101 ∷ 112 ∷ [])
    ∷ (99 ∷ 108 ∷ 111 ∷ 115 ∷ 101 ∷ [])
    ∷ (115 ∷ 119 ∷ 101 ∷ 101 ∷ 112 ∷ [])
    ∷ (116 ∷ 97 ∷ 108 ∷ 108 ∷ 121 ∷ [])
    ∷ (99 ∷ 97 ∷ 112 ∷ 97 ∷ 99 ∷ 105 ∷ 116 ∷ 121 ∷ [])
    ∷ []

-- `start`
unfoldable pub start : List ℕ
start = 115 ∷ 116 ∷ 97 ∷ 114 ∷ 116 ∷ []

-- the names, with `start` behind them
unfoldable pub name_of : ℕ → List ℕ
name_of number = get_or (names ++ (start ∷ [])) number []

-- what must stand behind each name
unfoldable pub kinds : List (List Kind)
kinds =
    (Key ∷ [])
    ∷ (Key ∷ Key ∷ Coin ∷ [])
    ∷ (Key ∷ [])
    ∷ (Small ∷ [])
    ∷ (Key ∷ [])
    ∷ (Key ∷ [])
    ∷ (Key ∷ [])
    ∷ (Key ∷ [])
    ∷ (Key ∷ Key ∷ [])
    ∷ (Key ∷ Key ∷ [])
    ∷ (Small ∷ Small ∷ [])
    ∷ (Small ∷ [])
    ∷ []
    ∷ []
    ∷ (Small ∷ Start ∷ Small ∷ [])
    ∷ []

-- two words are the same
abbrev pub same : List ℕ → List ℕ → Bool
same [] [] = true
same [] (c ∷ cs) = false
same (b ∷ bs) [] = false
same (b ∷ bs) (c ∷ cs) = eqb b c && same bs cs

-- the number of a name: the first that is the word, or how many there are where none is
abbrev pub find : List (List ℕ) → List ℕ → ℕ
find [] word = 0
find (name ∷ rest) word = cond (same word name) 0 (suc (find rest word))

-- a word where one of this kind must stand; the word `start` counts as 0
abbrev pub operand : Kind → List ℕ → Result ℕ Fault
operand Start word = cond (same word start) (Ok 0) (Err StartMissing)
operand kind word = number kind word

-- what a line says: nothing, numbers as the schedule file has them, or why it is none and how many words stand in front of the first at fault
pub data Sense : Type 0 where
  nothing : Sense
  numbers : List ℕ → Sense
  wrong : Fault → ℕ → Sense

-- a number, which is one word, in front
abbrev pub with : ℕ → Sense → Sense
with n nothing = nothing
with n (numbers ns) = numbers (n ∷ ns)
with n (wrong fault words) = wrong fault (suc words)

abbrev pub next : Result ℕ Fault → Sense → Sense
next (Ok n) rest = with n rest
next (Err fault) rest = wrong fault 0

-- no word of this kind is left
abbrev pub missing : Kind → Fault
missing Start = StartMissing
missing kind = NumberMissing

-- words that must be of these kinds, tested from the left
abbrev pub operands : List Kind → List (List ℕ) → Sense
operands [] [] = numbers []
operands [] (word ∷ words) = wrong TooManyWords 0
operands (kind ∷ rest) [] = wrong (missing kind) 0
operands (kind ∷ rest) (word ∷ words) = next (operand kind word) (operands rest words)

-- a line whose first word has this number
abbrev pub formed : ℕ → List (List ℕ) → Sense
formed code words = cond (eqb code 15) (wrong UnknownWord 0) (with code (operands (get_or kinds code []) words))

-- what a line of these words says
unfoldable pub sense : List (List ℕ) → Sense
sense [] = nothing
sense (word ∷ words) = formed (find names word) words

-- what an answer says: a call's numbers, its code first; a header is a form of its own, with 0 for the word `start`
abbrev pub sense_of : Result Line Misread → Sense
sense_of (Ok Line.Nothing) = nothing
sense_of (Ok (Line.Header header)) = numbers (14 ∷ header.capacity ∷ 0 ∷ header.start.0 ∷ [])
sense_of (Ok (Line.Call call)) = numbers (numbers_of call)
sense_of (Err misread) = wrong misread.fault misread.word
