-- What it is to put a text into a lent buffer.
-- Assumes nothing.
use Rattle.std.specs.Prelude.{◌≡◌, List, ℕ, ◌+◌, ◌*◌, ◌≤◌, length}
use Rattle.lists.specs.Buffers.{written}

-- the buffer has this many bytes from the place `at` on
abbrev pub Room : List ℕ → ℕ → ℕ → Type 0
Room out at most = at + most ≤ length out

-- the most bytes that k integers of 64 bits take, each with a separator
abbrev pub longest : ℕ → ℕ
longest k = 21 * k

-- the buffer `out` came to hold the text at the place `at`, in at most `most` bytes; `next` is the place behind it
pub record Put (out : List ℕ) (at most : ℕ) (text last : List ℕ) (next : ℕ) : Type 0 where
  pub cells : last ≡ written out at text
  pub behind : next ≡ at + length text
  pub within : next ≤ at + most
