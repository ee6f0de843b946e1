-- A schedule file run turn by turn: what is carried from turn to turn, what a turn lays down to be printed, and what comes next.
-- Assumes nothing.
use Rattle.std.specs.Prelude.{◌≡◌, true, false, cond, List, [], ◌∷◌, ◌++◌, ℕ, ◌+◌, ◌^◌, ◌≤◌, ◌<◌, eqb, length, take, pos, Option, Some, None, Result, Ok, Err}
use Rattle.sizes.specs.Sizes.{size_of}
use Rattle.transactions.specs.declared.Header.{Header}
use Rattle.transactions.specs.declared.Halt.{Halt}
use Rattle.transactions.specs.Readings.{HeaderRead}
use Rattle.listing.specs.Lines.{line_after}
use Rattle.tables.specs.Tables.{Tables}
use Rattle.calls.specs.Histories.{Fresh}
use Rattle.batch.specs.declared.End.{End}
use Rattle.batch.specs.Lists.{Input, Output, input_of, made_on, Ran}
use Rattle.lines.specs.Lines.{lines_behind, most_for}
use Rattle.lines.specs.Files.{end_line, stop_line}
use Rattle.windows.specs.declared.Window.{Window}
use Rattle.windows.specs.Windows.{unread, Held, held_in, place_of, behind, left_of, Fetches}
use Rattle.schedule.specs.declared.Memory.{Memory}
use Rattle.schedule.specs.declared.Session.{Session}
use Rattle.schedule.specs.declared.Buffers.{Buffers}
use Rattle.schedule.specs.declared.Next.{Next}
use Rattle.schedule.specs.declared.Next.TheVariants.{On, Read, Over, Unsound}
use Rattle.schedule.specs.declared.Turned.{Turned}
use Rattle.schedule.specs.SetUps.{set_up_result, lengths_of, cut}

-- the bytes of standard input that are held at a time
abbrev pub input_size : ℕ
input_size = 65536

-- the tables, of the memory and what the session carries
abbrev pub tables_of : Memory → Session → Tables
tables_of m s = cut m s.lengths s.tickets s.coordinator

-- before the first turn: no byte was read
pub record Starts (s : Session) : Type 0 where
  pub waits : s.begun ≡ false
  pub window : s.window ≡ unread
  pub calls : s.calls ≡ 0
  pub nodes : s.lengths.nodes ≡ 0
  pub rows : s.lengths.rows ≡ 0
  pub buckets : s.lengths.buckets ≡ 0

-- what a turn asks for: the window is held, each call made so far used a byte, and the parts are parts of the memory
pub record Ready (s : Session) : Type 0 where
  pub held : Held s.window input_size
  pub few : s.calls ≤ place_of s.window
  pub nodes : s.lengths.nodes ≤ 256
  pub rows : s.lengths.rows ≤ 8256
  pub buckets : s.lengths.buckets ≤ 367

-- the most bytes that the last line takes
abbrev pub last_most : ℕ
last_most = 26

-- the lengths of the input, of the room for answers, of both pair buffers and of the output: room for a call, for its line and for the last line
pub record Rooms (input answers keys values out : ℕ) : Type 0 where
  pub holds : input ≡ input_size
  pub cells : 5 ≤ answers
  pub for_keys : 64 ≤ keys
  pub for_values : 64 ≤ values
  pub lines : most_for answers keys + last_most ≤ out

-- the first bytes of the output are this text
pub record Laid (text out : List ℕ) (len : ℕ) : Type 0 where
  pub inside : len ≤ length out
  pub is : take len out ≡ text

-- ---- the turn at the header, by what reading it answers

-- `set-up` and its result
abbrev pub set_up_line : ℕ → List ℕ
set_up_line result = line_after (115 ∷ 101 ∷ 116 ∷ 45 ∷ 117 ∷ 112 ∷ []) (pos result ∷ [])

-- what comes behind it: the transactions, where it is done
abbrev pub next_after : ℕ → Next
next_after result = cond (eqb result 0) On Over

-- the header was read: set-up's line; where its result is 0, the transactions follow, on fresh tables
pub record Begins (m : Memory) (s : Session) (m' : Memory) (s' : Session) (out : List ℕ) (r : Turned) (h : Header) (len : ℕ) : Type 0 where
  pub line : Laid (set_up_line (set_up_result h.capacity)) out r.length
  pub next : r.next ≡ next_after (set_up_result h.capacity)
  pub begun : s'.begun ≡ true
  pub lengths : s'.lengths ≡ lengths_of (size_of h.capacity)
  pub window : s'.window ≡ behind s.window len
  pub calls : s'.calls ≡ 0
  pub fresh : set_up_result h.capacity ≡ 0 → Fresh h.capacity h.start.0 (tables_of m' s')
  pub same : (set_up_result h.capacity ≡ 0 → ⊥) → m' ≡ m

-- nothing but this line, if any, and this is next
pub record Only (text : List ℕ) (after : Next) (m : Memory) (s : Session) (m' : Memory) (s' : Session) (out : List ℕ) (r : Turned) : Type 0 where
  pub line : Laid text out r.length
  pub next : r.next ≡ after
  pub session : s' ≡ s
  pub memory : m' ≡ m

-- by what reading the header answers
abbrev pub HeaderTurn : Memory → Session → Memory → Session → List ℕ → Turned → Result (Header × ℕ) Halt → Type 0
HeaderTurn m s m' s' out r (Ok (h, len)) = Begins m s m' s' out r h len
HeaderTurn m s m' s' out r (Err (Halt.Stop place)) = Only (stop_line (place_of s.window + place)) Over m s m' s' out r
HeaderTurn m s m' s' out r (Err Halt.More) = Only [] Read m s m' s' out r

-- the turn at the header
pub record HeaderBy (m : Memory) (s : Session) (input : List ℕ) (m' : Memory) (s' : Session) (out : List ℕ) (r : Turned) : Type 0 where
  pub reading : Result (Header × ℕ) Halt
  pub reads : HeaderRead (held_in s.window input) s.window.more reading
  pub comes : HeaderTurn m s m' s' out r reading

-- ---- a turn behind it: a part of the file

-- the last line, by why the part ended; none where the file goes on
abbrev pub last_of : Window → End → List ℕ
last_of w End.Ended = cond w.more [] end_line
last_of w (End.Stop place) = stop_line (place_of w + place)
last_of w End.More = []
last_of w End.Full = []
last_of w (End.Refused n) = []

-- an offset at which a part stops can be counted
abbrev pub Within : Window → End → Type 0
Within w end = (place : ℕ) → end ≡ End.Stop place → place_of w + place < 2 ^ 64

-- and what comes next
abbrev pub next_of : Window → End → Next
next_of w End.Ended = cond w.more Read Over
next_of w (End.Stop place) = Over
next_of w End.More = Read
next_of w End.Full = On
next_of w (End.Refused n) = Unsound

-- what a batch takes: the tables, what is held, and the buffers
abbrev pub taken : Memory → Session → List ℕ → Buffers → Input
taken m s input b = input_of (tables_of m s) (held_in s.window input) s.window.more b.answers b.out_keys b.out_values

-- a batch of what is held, on the tables: the lines of its calls, numbered on, and the last line; it goes on behind the bytes that the batch used, on the tables that it left
pub record PartBy (m : Memory) (s : Session) (input : List ℕ) (b : Buffers) (m' : Memory) (s' : Session) (b' : Buffers) (r : Turned) : Type 0 where
  pub output : Output
  pub ran : Ran (taken m s input b) output
  pub lines : (e : ran.tested ≡ true) → Laid (lines_behind s.calls (made_on (tables_of m s) (ran.lists e).made) ++ last_of s.window output.end) b'.out r.length
  pub silent : ran.tested ≡ false → Laid [] b'.out r.length
  pub next : r.next ≡ next_of s.window output.end
  pub begun : s'.begun ≡ true
  pub tables : tables_of m' s' ≡ output.tables
  pub window : s'.window ≡ behind s.window output.used
  pub calls : s'.calls ≡ s.calls + output.calls

-- ---- any turn

-- the next turn may be made, and it has less left
pub record Goes (s s' : Session) (r : Turned) : Type 0 where
  pub ready : Ready s'
  pub on : r.next ≡ On → left_of s'.window < left_of s.window
  pub read : r.next ≡ Read → (s'.window.more ≡ true) × (left_of s'.window ≤ left_of s.window)

-- it is the turn at the header, or one behind it
pub record TurnBy (m : Memory) (s : Session) (input : List ℕ) (b : Buffers) (m' : Memory) (s' : Session) (b' : Buffers) (r : Turned) : Type 0 where
  pub header : s.begun ≡ false → HeaderBy m s input m' s' b'.out r
  pub part : s.begun ≡ true → PartBy m s input b m' s' b' r
  pub goes : Goes s s' r

-- ---- between two turns

-- the session with what is held now
abbrev pub holding : Session → Window → Session
holding s w = record s { window = w }

-- what is held then: the same, or what was read behind it
abbrev pub HeldThen : Window → List ℕ → Next → Window → List ℕ → Type 0
HeldThen w input On w' input' = (w' ≡ w) × (input' ≡ input)
HeldThen w input Read w' input' = Fetches w input w' input'
HeldThen w input Over w' input' = ⊥
HeldThen w input Unsound w' input' = ⊥

-- or the run is over
abbrev pub ReadOnBy : Window → List ℕ → Next → Option Window → List ℕ → Type 0
ReadOnBy w input next (Some w') input' = HeldThen w input next w' input'
ReadOnBy w input next None input' = Unit {0}
