-- What a program holds of its input: a part of a buffer.
-- Assumes nothing.
use Rattle.std.specs.Prelude.{◌≡◌, true, false, cond, List, ◌++◌, ℕ, ◌+◌, ◌-◌, ◌*◌, ◌^◌, ◌≤◌, ◌<◌, min, ltb, length, take, drop, Option, Result, Ok, Err}
use Rattle.std.specs.Io.KnownBytes.{Keeps, Consumes, IsAtEnd}
use Rattle.windows.specs.declared.Window.{Window}
use Rattle.windows.specs.declared.FetchError.{FetchError}

-- nothing was read yet
abbrev pub unread : Window
unread = record { from = 0; to = 0; read = 0; more = true }

-- the window lies in a buffer of so many bytes, and its bytes were read
pub record Held (w : Window) (n : ℕ) : Type 0 where
  pub order : w.from ≤ w.to
  pub inside : w.to ≤ n
  pub counted : w.to ≤ w.read
  pub known : w.read < 2 ^ 64

-- how many bytes are held, and which
abbrev pub count_of : Window → ℕ
count_of w = w.to - w.from

abbrev pub held_in : Window → List ℕ → List ℕ
held_in w buffer = take (count_of w) (drop w.from buffer)

-- the offset in standard input of the first byte held
abbrev pub place_of : Window → ℕ
place_of w = w.read - count_of w

-- the window behind so many of its bytes
abbrev pub behind : Window → ℕ → Window
behind w k = record { from = min (w.from + k) w.to; to = w.to; read = w.read; more = w.more }

-- there is room for another byte
pub record Readable (w : Window) (n : ℕ) : Type 0 where
  pub held : Held w n
  pub room : count_of w < n

-- reading once, into some room: the bytes held, and those read behind them; where none were read, the input has ended
pub record Fetches (w : Window) (buffer : List ℕ) (w' : Window) (buffer' : List ℕ) : Type 0 where
  pub got : List ℕ
  pub room : count_of w < length buffer
  pub held : Held w' (length buffer)
  pub place : place_of w' ≡ place_of w
  pub bytes : held_in w' buffer' ≡ held_in w buffer ++ got
  pub read : w'.read ≡ w.read + length got
  pub more : w'.more ≡ ltb 0 (length got)

-- or it failed
abbrev pub FetchedBy : Window → List ℕ → List ℕ → Result Window FetchError → Type 0
FetchedBy w buffer buffer' (Ok w') = Fetches w buffer w' buffer'
FetchedBy w buffer buffer' (Err _) = Unit {0}

-- of a reader whose bytes are known: those read are its first, and where none were it has no more; where it failed or was not asked, it has them all. Where the input is too long to count, nothing is said
abbrev pub CameBy : Window → Option (List ℕ) → Option (List ℕ) → List ℕ → Result Window FetchError → Type 0
CameBy w known known' buffer' (Ok w') = Consumes known known' (drop (count_of w) (held_in w' buffer')) × (w'.more ≡ false → IsAtEnd known')
CameBy w known known' buffer' (Err FetchError.TooLong) = Unit {0}
CameBy w known known' buffer' (Err _) = Keeps known known'

-- a number that falls with each byte used, with each read, and once more where the input has ended: bytes that may still be read count twice
abbrev pub left_of : Window → ℕ
left_of w = (2 ^ 64 - w.read) * 2 + (count_of w + cond w.more 1 0)
