-- How long a call and a header are: for a caller that reads a file part by part.
-- Assumes nothing.
use Prim.Native.Nat.{ℕ, zero, suc, ◌+◌, ◌*◌, ◌^◌, ◌≤◌, ◌<◌}
use mathlib.Core.Path.{◌≡◌, refl}
use mathlib.Core.Bool.{Bool}
use mathlib.Core.List.{List, [], ◌∷◌, ◌++◌}
use mathlib.Core.Option.{none, some}
use native.Mathlib.Omega.{arith}
use lib.Dec.{leb}
use lib.ListN.{length, take, get_elem?, length-append, length-drop}
use borrow.Author.Tests.{leb-true}
use Rattle.lists.specs.Holds.{All}
use Rattle.lists.proofs.Entries.{tested_get_d}
use Rattle.groups.specs.Groups.{groups_of}
use Rattle.groups.proofs.Grouping.{groups_some, groups_short, length_low}
use Rattle.transactions.specs.declared.Header.{Header}
use Rattle.transactions.specs.declared.Call.{Call}
use Rattle.transactions.specs.Sequences.{bytes_of, Within, listed, Reached, Waits}
use Rattle.transactions.specs.Calls.{small, operands, operands_of, call_limit, header_limit, numbers_of}
use Rattle.transactions.specs.Readings.{WholeCall, WholeHeader}
use Rattle.transactions.proofs.Sequencing.{sequence_fits, reached_length}
use Rattle.transactions.proofs.Calling.{call_complete}
use Rattle.transactions.proofs.Trips.{call_reached, header_reached}

-- at most ten bytes a number
bytes_short : (ns : List ℕ) → All (λ n. n < 2 ^ 64) ns → length (bytes_of ns) ≤ 10 * length ns
bytes_short [] f = omega arith
bytes_short (n ∷ ns) f = omega (arith, bytes_short ns f.1, groups_short n f.0, length-append (groups_of n) (bytes_of ns))

-- no more numbers than limits
within_few : (limits ns : List ℕ) → Within (listed limits) ns → length ns ≤ length limits
within_few limits [] w = omega arith
within_few [] (n ∷ ns) w = absurd w.0
within_few (l ∷ limits) (n ∷ ns) w = omega (arith, within_few limits ns w.1)

due_few : (limits : List ℕ) (i m : ℕ) → get_elem? limits i ≡ some m → i < length limits
due_few [] i m e = absurd (let z : ◌≡◌ {A = ℕ} 0 1 = cc in omega arith)
due_few (l ∷ limits) zero m e = omega arith
due_few (l ∷ limits) (suc i) m e = omega (arith, due_few limits i m e)

-- at most three behind a code
operands_few : (code : ℕ) → length (operands_of code) ≤ 3
operands_few code = leb-true _ 3 (tested_get_d (λ (l : List ℕ). leb (length l) 3) [] operands refl refl code)

-- a code is one byte
after_code : {rest : List ℕ} {code o : ℕ} {ns : List ℕ} → Reached call_limit rest (code ∷ ns) o → (1 ≤ o) × (o ≤ 1 + 10 * length ns)
after_code {rest} {code} {o} {ns} r =
    let f = sequence_fits (code ∷ ns) (take o rest) r.before in
    let h : code < 128 = omega (arith, r.within.0) in
    let l = length_low code h in
    let b = bytes_short ns f.1 in
    let a = length-append (groups_of code) (bytes_of ns) in
    omega (arith, reached_length r)

few_behind : {rest : List ℕ} {code o : ℕ} {ns : List ℕ} → Reached call_limit rest (code ∷ ns) o → length ns ≤ 3
few_behind {rest} {code} {o} {ns} r = omega (arith, within_few (operands_of code) ns r.within.1, operands_few code)

-- LAW: a call takes 1 to 31 bytes
pub call_length : {rest : List ℕ} {call : Call} {len : ℕ} → WholeCall rest call len → (1 ≤ len) × (len ≤ 31)
call_length {rest} {call} {len} w = go (numbers_of call) (call_complete call) (call_reached w)
  where
    go : (ns : List ℕ) → call_limit ns ≡ none → Reached call_limit rest ns len → (1 ≤ len) × (len ≤ 31)
    go [] e r = absurd (let z : ◌≡◌ {A = ℕ} 0 1 = cc in omega arith)
    go (code ∷ ns) e r = let a = after_code r in omega (arith, few_behind r)

-- LAW: with 31 bytes or more left, reading a call never waits for more
pub waits_short : {rest : List ℕ} {more : Bool} → Waits call_limit rest more → length rest ≤ 30
waits_short {rest} {more} w = go w.stops.numbers w.stops.reached w.stops.due
  where
    left : length rest ≤ w.offset + 9
    left = omega (arith, w.begun.short, length-drop w.offset rest)

    go : (ns : List ℕ) → Reached call_limit rest ns w.offset → call_limit ns ≡ some w.stops.most → length rest ≤ 30
    go [] r d = omega (arith, left, reached_length r)
    go (code ∷ ns) r d = let a = after_code r in omega (arith, left, due_few (operands_of code) (length ns) w.stops.most d, operands_few code)

-- LAW: a header takes 2 to 20 bytes, and with 20 or more left reading it never waits
pub header_length : {rest : List ℕ} {header : Header} {len : ℕ} → WholeHeader rest header len → (2 ≤ len) × (len ≤ 20)
header_length {rest} {header} {len} w =
    let r = header_reached w in
    let a = header.capacity in
    let b = header.start.0 in
    let f = sequence_fits (a ∷ b ∷ []) (take len rest) r.before in
    let s = bytes_short (a ∷ b ∷ []) f in
    omega (arith, reached_length r, groups_some a, groups_some b, length-append (groups_of a) (groups_of b ++ []), length-append (groups_of b) [])

pub header_waits_short : {rest : List ℕ} {more : Bool} → Waits header_limit rest more → length rest ≤ 19
header_waits_short {rest} {more} w =
    let s = w.stops in
    let r = s.reached in
    omega (arith, w.begun.short, length-drop w.offset rest, reached_length r, bytes_short s.numbers (sequence_fits s.numbers (take w.offset rest) r.before), due_few (small ∷ small ∷ []) (length s.numbers) s.most s.due)
