-- The program prints what it prints of the whole input, however the input comes in pieces.
-- Assumes nothing.
use Rattle.std.specs.Prelude.{Result, Ok, Err}
use mathlib.Core.Path.{◌≡◌, refl, sym, ap, ◌∙◌, subst}
use mathlib.Core.Bool.{Bool, true, false, true≢false}
use mathlib.Core.List.{List, [], ◌++◌, append_assoc, append-nil}
use Prim.Native.Nat.{ℕ, ◌+◌, ◌≤◌}
use native.Mathlib.Omega.{arith}
use lib.ListN.{length, take, drop, length-take, length-append}
use lib.Seq.{take-append-le, drop-append-le}
use Rattle.transactions.specs.declared.Header.{Header}
use Rattle.transactions.specs.declared.Halt.{Halt}
use Rattle.transactions.specs.Readings.{HeaderRead, WholeHeader}
use Rattle.tables.specs.Tables.{Tables, Sound, view}
use Rattle.model.specs.declared.Refusal.{Refusal}
use Rattle.batch.specs.declared.End.{End}
use Rattle.batch.specs.Lists.{Follows, Listed}
use Rattle.batch.proofs.Listing.{listed_bytes, listed_model}
use Rattle.lines.specs.Files.{end_line, stop_line, Part, part_lines, InParts}
use Rattle.lines.specs.Files as F
use Rattle.lines.proofs.Parting.{used_is}
use Rattle.lines.proofs.Filing.{in_parts}
use Rattle.lines.proofs.Cutting.{stopped_later}
use Rattle.windows.specs.declared.Window.{Window}
use Rattle.windows.specs.Windows.{Held, count_of, held_in, place_of}
use Rattle.windows.proofs.Going.{behind_place, behind_bytes}
use Rattle.schedule.specs.declared.Memory.{Memory}
use Rattle.schedule.specs.declared.Session.{Session}
use Rattle.schedule.specs.declared.Buffers.{Buffers}
use Rattle.schedule.specs.declared.Next.{Next}
use Rattle.schedule.specs.declared.Turned.{Turned}
use Rattle.schedule.specs.SetUps.{set_up_result}
use Rattle.schedule.specs.Turns.{input_size, tables_of, Starts, Ready, HeaderTurn, last_of, next_of, taken, PartBy}
use Rattle.schedule.specs.Files.{PrintsFile, Runs}
use Rattle.schedule.specs.Files as W
use Rattle.schedule.proofs.Turning.{starts_ready, bytes_held, after_on, after_over, after_read, next_none, read_none}

-- ---- a part

-- only tables that are not sound end a run so
unsound_refused : (w : Window) (end : End) → next_of w end ≡ Next.Unsound → (n : Refusal) × (end ≡ End.Refused n)
unsound_refused w end e = grind arith

-- the file ends only where no more may follow, with a line of its own
ended_over : (w : Window) → next_of w End.Ended ≡ Next.Over → w.more ≡ false
ended_over w e = grind arith

ended_last : (w : Window) → w.more ≡ false → last_of w End.Ended ≡ end_line
ended_last w m = rw m

module _ {m m' : Memory} {s s' : Session} {input : List ℕ} {b b' : Buffers} {r : Turned} (S : Sound (tables_of m s)) (p : PartBy m s input b m' s' b' r) where
  -- on sound tables the calls are made
  abbrev listed : Listed (taken m s input b) p.output
  listed = p.ran.lists (p.ran.says.told S)

  abbrev part : Part (tables_of m s) (held_in s.window input) s.window.more
  part = record { answers = b.answers; keys = b.out_keys; values = b.out_values; output = p.output; listed = listed }

  -- LAW: which leaves sound tables
  pub sound_after : Sound (tables_of m' s')
  sound_after = rw p.tables (listed_model S listed).sound

  -- LAW: so no turn ever finds tables that are not sound
  pub never_unsound : r.next ≡ Next.Unsound → ⊥
  never_unsound e =
      let q = unsound_refused s.window p.output.end (sym p.next ∙ e) in
      subst (λ (x : End). Follows (taken m s input b) listed.made (Err x)) q.1 listed.ends

  printed : take r.length b'.out ≡ part_lines s.calls part ++ last_of s.window p.output.end
  printed = (p.lines (p.ran.says.told S)).is

  -- where the file goes on, no last line follows
  printed_on : last_of s.window p.output.end ≡ [] → take r.length b'.out ≡ part_lines s.calls part
  printed_on e = printed ∙ (ap (λ (x : List ℕ). part_lines s.calls part ++ x) e ∙ append-nil (part_lines s.calls part))

  module _ (y : Ready s) (l : length input ≡ input_size) where
    used_held : p.output.used ≤ count_of s.window
    used_held =
        let a = ap length (listed_bytes listed) in
        let b = length-take p.output.used (held_in s.window input) in
        omega (arith, bytes_held y input l, used_is listed)

    -- it goes on with the bytes left
    left_held : held_in s'.window input ≡ drop p.output.used (held_in s.window input)
    left_held = ap (λ (w : Window). held_in w input) p.window ∙ behind_bytes y.held used_held input

    left_place : place_of s'.window ≡ place_of s.window + p.output.used
    left_place = ap place_of p.window ∙ behind_place y.held used_held

  more_same : s'.window.more ≡ s.window.more
  more_same = ap (λ (w : Window). w.more) p.window

-- ---- the transactions

-- the same tables, counts and bytes
moved : {t t' : Tables} {b b' k k' : ℕ} {h h' later out : List ℕ} → t ≡ t' → b ≡ b' → k ≡ k' → h ≡ h' → InParts t b k h later out → InParts t' b' k' h' later out
moved {t} {t'} {b} {b'} {k} {k'} {h} {h'} {later} {out} e f g i x =
    subst (λ (z : Tables). InParts z b' k' h' later out) e
    (subst (λ (z : ℕ). InParts t z k' h' later out) f (subst (λ (z : ℕ). InParts t b z h' later out) g (subst (λ (z : List ℕ). InParts t b k z later out) i x)))

-- the end, where no more may follow
ended_part : {t : Tables} {b k : ℕ} {h : List ℕ} (more : Bool) → more ≡ false → (p : Part t h more) → p.output.end ≡ End.Ended → InParts t b k h [] (part_lines b p ++ end_line)
ended_part true e p f = absurd (true≢false e)
ended_part false e p f = F.ended p f

module _ {m m' : Memory} {s s' : Session} {input later : List ℕ} {b b' : Buffers} {r : Turned} (S : Sound (tables_of m s)) (p : PartBy m s input b m' s' b' r) (f : s.window.more ≡ false → later ≡ []) where
  abbrev Here : List ℕ → Type 0
  Here x = InParts (tables_of m s) s.calls (place_of s.window) (held_in s.window input) later x

  finished : (end : End) → p.output.end ≡ end → next_of s.window end ≡ Next.Over → Here (take r.length b'.out)
  finished End.Ended e q =
      let n = ended_over s.window q in
      subst Here (sym (printed S p ∙ ap (λ (x : List ℕ). part_lines s.calls (part S p) ++ x) (ap (last_of s.window) e ∙ ended_last s.window n)))
      (subst (λ (z : List ℕ). InParts (tables_of m s) s.calls (place_of s.window) (held_in s.window input) z (part_lines s.calls (part S p) ++ end_line)) (sym (f n)) (ended_part s.window.more n (part S p) e))
  finished (End.Stop place) e q =
      subst Here (sym (printed S p ∙ ap (λ (x : End). part_lines s.calls (part S p) ++ last_of s.window x) e)) (F.stopped (part S p) place e f)
  finished End.More e q = cc
  finished End.Full e q = cc
  finished (End.Refused n) e q = cc

parts : {m : Memory} {s : Session} {input later out : List ℕ} → s.begun ≡ true → Ready s → length input ≡ input_size → Sound (tables_of m s) → (s.window.more ≡ false → later ≡ [])
    → Runs m s input later out → InParts (tables_of m s) s.calls (place_of s.window) (held_in s.window input) later out
parts {m} {s} {input} {later} b y l S f (W.over t e) =
    let p = t.part b in
    finished S p f p.output.end refl (sym p.next ∙ e)
parts {m} {s} {input} {later} b y l S f (W.on {rest = rest} t e x) =
    let p = t.part b in
    let q = parts p.begun t.goes.ready l (sound_after S p) (λ z. f (sym (more_same S p) ∙ z)) x in
    subst (λ (z : List ℕ). InParts (tables_of m s) s.calls (place_of s.window) (held_in s.window input) later (z ++ rest))
    (sym (printed_on S p (next_none s.window p.output.end (sym p.next ∙ e))))
    (F.on (part S p) [] (moved p.tables p.calls (left_place S p y l) (left_held S p y l ∙ sym (append-nil (drop p.output.used (held_in s.window input)))) q))
parts {m} {s} {input} b y l S f (W.read {input' = input'} {later = later} {rest = rest} {w = w} t e g k z x) =
    let p = t.part b in
    let v = t.goes.ready in
    let h : Held w input_size = subst (λ (n : ℕ). Held w n) l g.held in
    let q = parts p.begun (record { held = h; few = omega (arith, v.few, g.place); nodes = v.nodes; rows = v.rows; buckets = v.buckets }) (k ∙ l) (sound_after S p) z x in
    subst (λ (z : List ℕ). InParts (tables_of m s) s.calls (place_of s.window) (held_in s.window input) (g.got ++ later) (z ++ rest))
    (sym (printed_on S p (read_none s.window p.output.end (sym p.next ∙ e))))
    (F.on (part S p) g.got (moved p.tables p.calls (g.place ∙ left_place S p y l) (g.bytes ∙ ap (λ (z : List ℕ). z ++ g.got) (left_held S p y l)) q))

-- ---- the header

-- a header is one whatever bytes follow
whole_later : {rest : List ℕ} (later : List ℕ) {h : Header} {len : ℕ} → WholeHeader rest h len → WholeHeader (rest ++ later) h len
whole_later {rest} later {h} {len} w =
    record { inside = omega (arith, length-append rest later, w.inside); written = rw (take-append-le len rest later w.inside) w.written }

stop_later : {rest : List ℕ} (later : List ℕ) {more : Bool} {place : ℕ} → (more ≡ false → later ≡ []) → HeaderRead rest more (Err (Halt.Stop place)) → HeaderRead (rest ++ later) false (Err (Halt.Stop place))
stop_later later {more} f s = record { offset = s.offset; is = s.is; stopped = stopped_later later more f s.stopped }

none_before : (n : ℕ) → 0 + n ≡ n
none_before n = omega arith

module _ (m m' : Memory) {s : Session} (s' : Session) (input out : List ℕ) {later : List ℕ} (r : Turned) (y : Ready s) (l : length input ≡ input_size) (o : place_of s.window ≡ 0) (f : s.window.more ≡ false → later ≡ []) where
  header_over : (x : Result (Header × ℕ) Halt) → HeaderRead (held_in s.window input) s.window.more x → HeaderTurn m s m' s' out r x → r.next ≡ Next.Over → PrintsFile (held_in s.window input ++ later) (take r.length out)
  header_over (Ok (h, len)) w t e =
      subst (PrintsFile (held_in s.window input ++ later)) (sym t.line.is) (W.refused h len (whole_later later w) (λ z. after_over z (sym t.next ∙ e)))
  header_over (Err (Halt.Stop place)) w t e =
      subst (PrintsFile (held_in s.window input ++ later)) (sym (t.line.is ∙ (ap (λ (k : ℕ). stop_line (k + place)) o ∙ ap stop_line (none_before place)))) (W.stopped place (stop_later later f w))
  header_over (Err Halt.More) w t e = cc

  header_on : {rest : List ℕ} (x : Result (Header × ℕ) Halt) → HeaderRead (held_in s.window input) s.window.more x → HeaderTurn m s m' s' out r x → r.next ≡ Next.On → Ready s' → Runs m' s' input later rest
      → PrintsFile (held_in s.window input ++ later) (take r.length out ++ rest)
  header_on {rest} (Ok (h, len)) w t e v x =
      let z = after_on (set_up_result h.capacity) (sym t.next ∙ e) in
      let q = t.fresh z in
      let i : len ≤ count_of s.window = omega (arith, bytes_held y input l, w.inside) in
      let n : place_of s'.window ≡ len = ap place_of t.window ∙ (behind_place y.held i ∙ omega arith) in
      let b : held_in s'.window input ≡ drop len (held_in s.window input) = ap (λ (x : Window). held_in x input) t.window ∙ behind_bytes y.held i input in
      let u = in_parts q.sound (moved refl t.calls n b (parts t.begun v l q.sound (λ a. f (sym (ap (λ (x : Window). x.more) t.window) ∙ a)) x)) in
      subst (λ (k : List ℕ). PrintsFile (held_in s.window input ++ later) (k ++ rest)) (sym t.line.is)
      (W.ran h len (view (tables_of m' s')) rest (whole_later later w) z q.shows (rw (drop-append-le len (held_in s.window input) later w.inside) u))
  header_on (Err (Halt.Stop place)) w t e v x = cc
  header_on (Err Halt.More) w t e v x = cc

-- a read comes first only where the header waits
header_read : (m m' : Memory) (s s' : Session) (out : List ℕ) (r : Turned) (x : Result (Header × ℕ) Halt) → HeaderTurn m s m' s' out r x → r.next ≡ Next.Read → (s' ≡ s) × (take r.length out ≡ [])
header_read m m' s s' out r (Ok (h, len)) t e = absurd (after_read (set_up_result h.capacity) (sym t.next ∙ e))
header_read m m' s s' out r (Err (Halt.Stop place)) t e = let z : Next.Over ≡ Next.Read = sym t.next ∙ e in absurd (cc)
header_read m m' s s' out r (Err Halt.More) t e = (t.session, t.line.is)

headers : {m : Memory} {s : Session} {input later out : List ℕ} → s.begun ≡ false → Ready s → length input ≡ input_size → place_of s.window ≡ 0 → (s.window.more ≡ false → later ≡ [])
    → Runs m s input later out → PrintsFile (held_in s.window input ++ later) out
headers {m} {s} {input} b y l o f (W.over {m' = m'} {s' = s'} {b' = b'} {r = r} t e) = let h = t.header b in header_over m m' s' input b'.out r y l o f h.reading h.reads h.comes e
headers {m} {s} {input} b y l o f (W.on {m' = m'} {s' = s'} {b' = b'} {r = r} t e x) = let h = t.header b in header_on m m' s' input b'.out r y l o f h.reading h.reads h.comes e t.goes.ready x
headers {m} {s} {input} b y l o f (W.read {m' = m'} {s' = s'} {input' = input'} {later = later} {rest = rest} {b' = b'} {r = r} {w = w} t e g k z x) =
    let h = t.header b in
    let v = t.goes.ready in
    let a = header_read m m' s s' b'.out r h.reading h.comes e in
    let q =
    headers (ap (λ (x : Session). x.begun) a.0 ∙ b)
    (record { held = subst (λ (n : ℕ). Held w n) l g.held; few = omega (arith, v.few, g.place); nodes = v.nodes; rows = v.rows; buckets = v.buckets }) (k ∙ l)
    (g.place ∙ (ap (λ (x : Session). place_of x.window) a.0 ∙ o)) z x in
    let c : held_in w input' ++ later ≡ held_in s.window input ++ (g.got ++ later) =
    ap (λ (x : List ℕ). x ++ later) (g.bytes ∙ ap (λ (x : Session). held_in x.window input ++ g.got) a.0) ∙ append_assoc (held_in s.window input) g.got later in
    subst (λ (x : List ℕ). PrintsFile (held_in s.window input ++ (g.got ++ later)) (x ++ rest)) (sym a.1) (subst (λ (x : List ℕ). PrintsFile x rest) c q)

-- LAW: turn after turn, the program prints what is printed of the whole input, however it comes in pieces
pub file_printed : {m : Memory} {s : Session} {input bytes out : List ℕ} → Starts s → length input ≡ input_size → Runs m s input bytes out → PrintsFile bytes out
file_printed {m} {s} {input} {bytes} {out} a l x =
    let o : place_of s.window ≡ 0 = ap place_of a.window in
    let n : held_in s.window input ≡ [] = ap (λ (w : Window). held_in w input) a.window in
    subst (λ (h : List ℕ). PrintsFile (h ++ bytes) out) n
    (headers a.waits (starts_ready a) l o (λ z. absurd (true≢false (sym (ap (λ (w : Window). w.more) a.window) ∙ z))) x)
