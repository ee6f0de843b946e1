-- What reading answers, of the bytes left from the place `at` on.
-- Assumes nothing.
use Rattle.std.specs.Prelude.{ℕ, ◌+◌, ◌≤◌, ◌≡◌, Bool, List, length, take, Result, Ok, Err}
use Rattle.std.proofs.Math.Option.{Option}
use Rattle.transactions.specs.declared.Header.{Header}
use Rattle.transactions.specs.declared.Call.{Call}
use Rattle.transactions.specs.declared.Halt.{Halt}
use Rattle.transactions.specs.declared.Halt.TheVariants.{Stop, More}
use Rattle.transactions.specs.Sequences.{Stopped, Waits}
use Rattle.transactions.specs.Calls.{call_limit, header_limit, WrittenCall, WrittenHeader}

-- the place at which reading stops: an offset behind `at`
pub record StopsAt (limit : List ℕ → Option ℕ) (rest : List ℕ) (at : ℕ) (more : Bool) (place : ℕ) : Type 0 where
  pub offset : ℕ
  pub is : place ≡ at + offset
  pub stopped : Stopped limit rest more offset

-- why reading goes no further: the place at which it stops, or that more bytes are to come first
abbrev pub Halts : (List ℕ → Option ℕ) → List ℕ → ℕ → Bool → Halt → Type 0
Halts limit rest at more (Stop place) = StopsAt limit rest at more place
Halts limit rest at more More = Waits limit rest more

-- the bytes left begin with a call: its written form, and its length
pub record WholeCall (rest : List ℕ) (call : Call) (len : ℕ) : Type 0 where
  pub inside : len ≤ length rest
  pub written : WrittenCall call (take len rest)

-- a call and its length, or the place at which it stops, or that more bytes are to come first
abbrev pub CallRead : List ℕ → ℕ → Bool → Result (Call × ℕ) Halt → Type 0
CallRead rest at more (Ok (call, len)) = WholeCall rest call len
CallRead rest at more (Err halt) = Halts call_limit rest at more halt

-- the same of a header
pub record WholeHeader (rest : List ℕ) (header : Header) (len : ℕ) : Type 0 where
  pub inside : len ≤ length rest
  pub written : WrittenHeader header (take len rest)

-- a header and its length, or why it is not read
abbrev pub HeaderRead : List ℕ → Bool → Result (Header × ℕ) Halt → Type 0
HeaderRead rest more (Ok (header, len)) = WholeHeader rest header len
HeaderRead rest more (Err halt) = Halts header_limit rest 0 more halt
