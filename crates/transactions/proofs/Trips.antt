-- Laws of reading and writing: two answers are equal, and each undoes the other.
-- Assumes nothing.
use Prim.Native.Nat.{ℕ, ◌+◌}
use mathlib.Core.Path.{◌≡◌, refl, sym, ap, ap₂, ◌∙◌}
use mathlib.Core.Bool.{Bool, false, true≢false}
use mathlib.Core.List.{List, ◌++◌}
use mathlib.Core.Option.{Option, none}
use lib.ListN.{length, take, drop}
use lib.Seq.{take_at}
use Rattle.std.specs.Prelude.{Result, Ok, Err}
use Rattle.groups.specs.Buffers.{Writes}
use Rattle.groups.proofs.Writing.{writes_length}
use Rattle.transactions.specs.declared.Header.{Header}
use Rattle.transactions.specs.declared.Call.{Call}
use Rattle.transactions.specs.declared.Halt.{Halt}
use Rattle.transactions.specs.declared.Halt.TheVariants.{Stop, More}
use Rattle.transactions.specs.Sequences.{bytes_of, Reached}
use Rattle.transactions.specs.Calls.{call_limit, header_limit, numbers_of, header_of, Typed, TypedHeader, WrittenCall, WrittenHeader}
use Rattle.transactions.specs.Readings.{Halts, WholeCall, WholeHeader, CallRead, HeaderRead}
use Rattle.transactions.proofs.Sequencing.{sequence_bytes, bytes_sequence, reached_of, reached_bytes, reached_length}
use Rattle.transactions.proofs.Comparing.{reached_same, whole_ends, whole_stops, stops_same, stopped_waits}
use Rattle.transactions.proofs.Calling.{numbers_same, header_same, call_complete, call_ready, header_ready}

-- a whole call, a whole header, as numbers that were reached
pub call_reached : {rest : List ℕ} {call : Call} {len : ℕ} → WholeCall rest call len → Reached call_limit rest (numbers_of call) len
call_reached w = record { inside = w.inside; before = w.written.sequence; within = w.written.within }

pub header_reached : {rest : List ℕ} {header : Header} {len : ℕ} → WholeHeader rest header len → Reached header_limit rest (header_of header) len
header_reached w = record { inside = w.inside; before = w.written.sequence; within = w.written.within }

-- the answers that are no whole, for a header and a call alike
halts_same : (limit : List ℕ → Option ℕ) (rest : List ℕ) (at : ℕ) (more : Bool) (a b : Halt) → Halts limit rest at more a → Halts limit rest at more b → a ≡ b
halts_same limit rest at more (Stop p) (Stop q) v w = ap Stop (v.is ∙ ap (λ k. at + k) (stops_same v.stopped.stops w.stopped.stops) ∙ sym w.is)
halts_same limit rest at more (Stop p) More v w = absurd (stopped_waits v.stopped w)
halts_same limit rest at more More (Stop q) v w = absurd (stopped_waits w.stopped v)
halts_same limit rest at more More More v w = refl

whole_halts : {limit : List ℕ → Option ℕ} {rest ns : List ℕ} {o : ℕ} (at : ℕ) (more : Bool) (h : Halt) → Reached limit rest ns o → limit ns ≡ none → Halts limit rest at more h → ⊥
whole_halts at more (Stop p) r e h = whole_stops r e h.stopped.stops
whole_halts at more More r e h = whole_stops r e h.stops

-- LAW: two answers that reading a call may give are equal
pub call_read_same : (rest : List ℕ) (at : ℕ) (more : Bool) (a b : Result (Call × ℕ) Halt) → CallRead rest at more a → CallRead rest at more b → a ≡ b
call_read_same rest at more (Ok (a, l)) (Ok (b, m)) v w =
    let e = reached_same (call_reached v) (call_reached w) (whole_ends (call_complete a)) (whole_ends (call_complete b)) in
    ap₂ {C = Result (Call × ℕ) Halt} (λ c k. Ok (c, k)) (numbers_same a b e.0) e.1
call_read_same rest at more (Ok (a, l)) (Err h) v w = absurd (whole_halts at more h (call_reached v) (call_complete a) w)
call_read_same rest at more (Err g) (Ok (b, m)) v w = absurd (whole_halts at more g (call_reached w) (call_complete b) v)
call_read_same rest at more (Err g) (Err h) v w = ap Err (halts_same call_limit rest at more g h v w)

-- LAW: two answers that reading a header may give are equal
pub header_read_same : (rest : List ℕ) (more : Bool) (a b : Result (Header × ℕ) Halt) → HeaderRead rest more a → HeaderRead rest more b → a ≡ b
header_read_same rest more (Ok (a, l)) (Ok (b, m)) v w =
    let e = reached_same (header_reached v) (header_reached w) (whole_ends refl) (whole_ends refl) in
    ap₂ {C = Result (Header × ℕ) Halt} (λ c k. Ok (c, k)) (header_same a b e.0) e.1
header_read_same rest more (Ok (a, l)) (Err h) v w = absurd (whole_halts 0 more h (header_reached v) refl w)
header_read_same rest more (Err g) (Ok (b, m)) v w = absurd (whole_halts 0 more g (header_reached w) refl v)
header_read_same rest more (Err g) (Err h) v w = ap Err (halts_same header_limit rest 0 more g h v w)

-- LAW: More is never answered where no more bytes follow
pub call_no_more : (rest : List ℕ) (at : ℕ) → CallRead rest at false (Err More) → ⊥
call_no_more rest at w = true≢false (sym w.follows)

pub header_no_more : (rest : List ℕ) → HeaderRead rest false (Err More) → ⊥
header_no_more rest w = true≢false (sym w.follows)

-- LAW: the bytes that are written are the written form of the call, and the only one
pub call_written : (call : Call) → Typed call → WrittenCall call (bytes_of (numbers_of call))
call_written call t = let r = call_ready call t in record { sequence = bytes_sequence (numbers_of call) r.fits; within = r.within }

pub written_call : {call : Call} {bytes : List ℕ} → WrittenCall call bytes → bytes ≡ bytes_of (numbers_of call)
written_call {call} {bytes} w = sequence_bytes (numbers_of call) bytes w.sequence

pub header_written : (header : Header) → TypedHeader header → WrittenHeader header (bytes_of (header_of header))
header_written header t = let r = header_ready header t in record { sequence = bytes_sequence (header_of header) r.fits; within = r.within }

pub written_header : {header : Header} {bytes : List ℕ} → WrittenHeader header bytes → bytes ≡ bytes_of (header_of header)
written_header {header} {bytes} w = sequence_bytes (header_of header) bytes w.sequence

-- the bytes with any behind them are read whole
call_whole : (call : Call) (behind : List ℕ) → Typed call → WholeCall (bytes_of (numbers_of call) ++ behind) call (length (bytes_of (numbers_of call)))
call_whole call behind t = let r = call_ready call t in let w = reached_of call_limit (numbers_of call) behind r.fits r.within in record { inside = w.inside; written = record { sequence = w.before; within = w.within } }

header_whole : (header : Header) (behind : List ℕ) → TypedHeader header → WholeHeader (bytes_of (header_of header) ++ behind) header (length (bytes_of (header_of header)))
header_whole header behind t = let r = header_ready header t in let w = reached_of header_limit (header_of header) behind r.fits r.within in record { inside = w.inside; written = record { sequence = w.before; within = w.within } }

-- the bytes that were read are written again
same_bytes : {limit : List ℕ → Option ℕ} {rest ns : List ℕ} {len : ℕ} → Reached limit rest ns len → {before after : List ℕ} {m : ℕ} → Writes (bytes_of ns) before after (Ok m) → (m ≡ len) × (take m after ≡ take len rest)
same_bytes {limit} {rest} {ns} {len} r {before} {after} {m} w =
    let v = writes_length w in (
      v.answer ∙ sym (reached_length r),
      ap (take m) v.buffer ∙ take_at (bytes_of ns) (drop (length (bytes_of ns)) before) m (sym v.answer) ∙ sym (reached_bytes r),
    )

-- LAW: what write_call wrote, with any bytes behind it, read_call reads: the same call and length
pub read_write_call : (call : Call) → Typed call → {before after : List ℕ} {len : ℕ} → Writes (bytes_of (numbers_of call)) before after (Ok len) → (at : ℕ) (more : Bool) (r : Result (Call × ℕ) Halt) → CallRead after at more r → r ≡ Ok (call, len)
read_write_call call t {before} {after} {len} w at more r c =
    let v = writes_length w in
    let q : WholeCall after call len = rw (v.answer, v.buffer) (call_whole call (drop (length (bytes_of (numbers_of call))) before) t) in
    call_read_same after at more r (Ok (call, len)) c q

-- LAW: what read_call read, write_call writes: the same bytes
pub write_read_call : {rest : List ℕ} (at : ℕ) (more : Bool) {call : Call} {len : ℕ} → CallRead rest at more (Ok (call, len)) → {before after : List ℕ} {m : ℕ} → Writes (bytes_of (numbers_of call)) before after (Ok m) → (m ≡ len) × (take m after ≡ take len rest)
write_read_call at more c w = same_bytes (call_reached c) w

-- LAW: the same of a header
pub read_write_header : (header : Header) → TypedHeader header → {before after : List ℕ} {len : ℕ} → Writes (bytes_of (header_of header)) before after (Ok len) → (more : Bool) (r : Result (Header × ℕ) Halt) → HeaderRead after more r → r ≡ Ok (header, len)
read_write_header header t {before} {after} {len} w more r c =
    let v = writes_length w in
    let q : WholeHeader after header len = rw (v.answer, v.buffer) (header_whole header (drop (length (bytes_of (header_of header))) before) t) in
    header_read_same after more r (Ok (header, len)) c q

pub write_read_header : {rest : List ℕ} (more : Bool) {header : Header} {len : ℕ} → HeaderRead rest more (Ok (header, len)) → {before after : List ℕ} {m : ℕ} → Writes (bytes_of (header_of header)) before after (Ok m) → (m ≡ len) × (take m after ≡ take len rest)
write_read_header more c w = same_bytes (header_reached c) w
