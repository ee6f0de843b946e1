-- What a writer does to a lent buffer.
-- Assumes nothing.
use Rattle.std.specs.Prelude.{ℕ, ◌≡◌, cond, List, ◌++◌, length, drop, leb, Result, Ok, Err}
use Rattle.groups.specs.declared.TooShort.{TooShort}

-- the only value of its type
abbrev pub too_short : TooShort
too_short = record {}

-- the number of this refusal
abbrev pub short_number : TooShort → ℕ
short_number r = 1

-- where they fit, the bytes stand at the front, what lies behind stays, and the answer is their length; else the answer is that it is too short and nothing changes
pub record Writes (bytes before after : List ℕ) (r : Result ℕ TooShort) : Type 0 where
  pub answer : r ≡ cond (leb (length bytes) (length before)) (Ok (length bytes)) (Err too_short)
  pub buffer : after ≡ cond (leb (length bytes) (length before)) (bytes ++ drop (length bytes) before) before
