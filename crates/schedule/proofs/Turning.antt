-- A turn: what it lays down, and that the next one may be made with less left.
-- Assumes nothing.
use Rattle.std.specs.Prelude.{Result, Ok, Err}
use mathlib.Core.Path.{◌≡◌, refl, sym, ap, ◌∙◌, subst}
use mathlib.Core.Bool.{Bool, true, false}
use mathlib.Core.List.{List, [], ◌++◌}
use Prim.Native.Nat.{ℕ, ◌+◌, ◌-◌, ◌^◌, ◌≤◌, ◌<◌, min}
use native.Mathlib.Omega.{arith}
use lib.ListN.{length, drop}
use lib.Seq.{take_at}
use lib.IntN.{ℤ}
use Rattle.std.proofs.lemmas.Bool.Decides.{nat_tests}
use Rattle.sizes.specs.Sizes.{size_of}
use Rattle.transactions.specs.declared.Header.{Header}
use Rattle.transactions.specs.declared.Halt.{Halt}
use Rattle.transactions.specs.Readings.{HeaderRead, WholeHeader}
use Rattle.transactions.proofs.Lengths.{header_length}
use Rattle.listing.specs.Puts.{Room, Put}
use Rattle.listing.proofs.Putting.{put_none_lem, put_wider, put_then, put_shown_lem}
use Rattle.tables.specs.Tables.{Tables}
use Rattle.tables.specs.declared.Ticket.{Ticket}
use Rattle.tables.specs.declared.Coordinator.{Coordinator}
use Rattle.soundness.specs.Tested.{lent}
use Rattle.batch.specs.declared.Batch.{Batch}
use Rattle.batch.specs.declared.End.{End}
use Rattle.batch.specs.Lists.{Input, Output, input_of, output_of, Follows, Ran}
use Rattle.lines.specs.Lines.{most_for}
use Rattle.lines.specs.Parts.{Printed}
use Rattle.lines.specs.Files.{stop_line}
use Rattle.lines.proofs.Parting.{ran_within, ran_full, ran_stop}
use Rattle.windows.specs.declared.Window.{Window}
use Rattle.windows.specs.Windows.{count_of, held_in, place_of, behind}
use Rattle.windows.proofs.Going.{held_length, behind_held, behind_place, behind_left}
use Rattle.schedule.specs.declared.Session.{Session}
use Rattle.schedule.specs.declared.Memory.{Memory}
use Rattle.schedule.specs.declared.Buffers.{Buffers}
use Rattle.schedule.specs.declared.Next.{Next}
use Rattle.schedule.specs.declared.Turned.{Turned}
use Rattle.schedule.specs.SetUps.{set_up_result, PreparedBy}
use Rattle.schedule.specs.Turns.{input_size, last_most, Starts, Ready, Rooms, Laid, set_up_line, next_after, Begins, Only, HeaderTurn, HeaderBy, last_of, Within, next_of, taken, PartBy, Goes, TurnBy}
use Rattle.schedule.proofs.Preparing.{lengths_fit}

-- ---- the text laid down

-- LAW: what is put at the front is laid down
pub put_laid : {out last text : List ℕ} {most len : ℕ} → Room out 0 most → length last ≡ length out → Put out 0 most text last len → Laid text last len
put_laid r l p = record { inside = omega (arith, p.within); is = put_shown_lem r p }

-- LAW: where nothing is put, there is no last line
pub put_nothing : (w : Window) (end : End) (out : List ℕ) (at : ℕ) → last_of w end ≡ [] → Put out at last_most (last_of w end) out at
put_nothing w end out at e = rw e (put_wider (omega arith) (put_none_lem out at))

-- LAW: set-up's line is laid down, and what set-up left is carried on
pub begins : {m m' : Memory} {s t : Session} {h : Header} {len laid a b : ℕ} {last : List ℕ} {w : Window} {n : Next} → PreparedBy m s m' t h.capacity h.start a → b ≡ a
    → Laid (set_up_line b) last laid → w ≡ behind t.window len → n ≡ next_after b
    → Begins m s m' (record t { begun = true; window = w; calls = 0 }) last (record { length = laid; next = n }) h len
begins {len = len} {laid = laid} {last = last} p f t w n =
    let e = f ∙ p.result in
    record {
      line = subst (λ k. Laid (set_up_line k) last laid) e t;
      next = n ∙ ap next_after e;
      begun = refl;
      lengths = p.lengths;
      window = w ∙ ap (λ x. behind x len) p.window;
      calls = refl;
      fresh = λ z. p.fresh (p.result ∙ z);
      same = λ z. p.same (λ y. z (sym p.result ∙ y));
    }

-- ---- what comes next

-- LAW: the transactions follow exactly where the result is 0
pub after_on : (n : ℕ) → next_after n ≡ Next.On → n ≡ 0
after_on n e = grind (arith, nat_tests)

pub after_over : {n : ℕ} → n ≡ 0 → next_after n ≡ Next.Over → ⊥
after_over z e = grind (arith, nat_tests)

pub after_read : (n : ℕ) → next_after n ≡ Next.Read → ⊥
after_read n e = grind (arith, nat_tests)

-- LAW: where the file goes on, there is no last line
pub next_none : (w : Window) (end : End) → next_of w end ≡ Next.On → last_of w end ≡ []
next_none w end e = grind arith

pub read_none : (w : Window) (end : End) → next_of w end ≡ Next.Read → last_of w end ≡ []
read_none w end e = grind arith

-- LAW: another turn at once only for want of room
pub next_on : (w : Window) (end : End) → next_of w end ≡ Next.On → end ≡ End.Full
next_on w end e = grind arith

-- LAW: a read comes first only where more may follow
pub next_read : (w : Window) (end : End) → (end ≡ End.More → w.more ≡ true) → next_of w end ≡ Next.Read → w.more ≡ true
next_read w end f e = grind arith

-- ---- the turn at the header

-- LAW: as many bytes are held as the window says
pub bytes_held : {s : Session} → Ready s → (input : List ℕ) → length input ≡ input_size → length (held_in s.window input) ≡ count_of s.window
bytes_held {s} y input l = held_length s.window input (rw l y.held)

-- LAW: before the first turn it is ready
pub starts_ready : {s : Session} → Starts s → Ready s
starts_ready a =
    record {
      held = rw a.window (record { order = omega arith; inside = omega arith; counted = omega arith; known = omega arith });
      few = rw a.calls (omega arith);
      nodes = omega (arith, a.nodes);
      rows = omega (arith, a.rows);
      buckets = omega (arith, a.buckets);
    }

-- LAW: what the turn at the header comes to, by what reading it answers
module _ (m : Memory) {s : Session} (y : Ready s) (input : List ℕ) (l : length input ≡ input_size) where
  -- behind the header less is left
  begins_goes : {m' : Memory} {s' : Session} {out : List ℕ} {r : Turned} {h : Header} {len : ℕ} → WholeHeader (held_in s.window input) h len → Begins m s m' s' out r h len → Goes s s' r
  begins_goes {h = h} {len = len} w b =
      let n = bytes_held y input l in
      let i : len ≤ count_of s.window = omega (arith, w.inside) in
      let f = lengths_fit (size_of h.capacity) in
      record {
        ready =
            record {
              held = rw b.window (behind_held y.held i);
              few = rw b.calls (omega arith);
              nodes = rw b.lengths f.0;
              rows = rw b.lengths f.1;
              buckets = rw b.lengths f.2;
            };
        on = λ e. rw b.window (omega (arith, behind_left y.held i, (header_length w).0));
        read = λ e. absurd (after_read (set_up_result h.capacity) (sym b.next ∙ e));
      }

  pub header_begins : {m' : Memory} {s' : Session} {out : List ℕ} {r : Turned} {h : Header} {len : ℕ} → HeaderRead (held_in s.window input) s.window.more (Ok (h, len)) → Begins m s m' s' out r h len
      → HeaderBy m s input m' s' out r × Goes s s' r
  header_begins {h = h} {len = len} w b = (record { reading = Ok (h, len); reads = w; comes = b }, begins_goes w b)

  pub header_stops : {out : List ℕ} {len k : ℕ} (place : ℕ) → HeaderRead (held_in s.window input) s.window.more (Err (Halt.Stop place))
      → k ≡ min (place_of s.window + place) (2 ^ 64 - 1) → Laid (stop_line k) out len
      → HeaderBy m s input m s out (record { length = len; next = Next.Over }) × Goes s s (record { length = len; next = Next.Over })
  header_stops {out} {len} {k} place w f t =
      let a = w.stopped.stops.reached.inside in
      let d = y.held in
      let z : k ≡ place_of s.window + place = omega (arith, w.is, bytes_held y input l, d.order, d.counted, d.known) in
      let o : Only (stop_line (place_of s.window + place)) Next.Over m s m s out (record { length = len; next = Next.Over }) =
      record { line = subst (λ n. Laid (stop_line n) out len) z t; next = refl; session = refl; memory = refl } in
      (record { reading = Err (Halt.Stop place); reads = w; comes = o }, record { ready = y; on = λ e. cc; read = λ e. cc })

-- ---- a part

module _ {i : Input} {o : Output} (r : Ran i o) where
  -- LAW: a batch that waits for more bytes may get them
  pub ran_more : o.end ≡ End.More → i.more ≡ true
  ran_more e = go r.tested refl
    where
      go : (b : Bool) → r.tested ≡ b → i.more ≡ true
      go true t = let l = r.lists t in (subst (λ (x : End). Follows i l.made (Err x)) e l.ends).1.follows
      go false t = let x = ap (λ (x : Output). x.end) (r.refuses t) in cc

module _ {i : Input} {before len n : ℕ} {out mid : List ℕ} {o : Output} (p : Printed i before out o mid len)
    (r : Rooms n (length i.answers) (length i.keys) (length i.values) (length out)) where
  most : len ≤ most_for (length i.answers) (length i.keys)
  most = go p.ran.tested refl
    where
      go : (b : Bool) → p.ran.tested ≡ b → len ≤ most_for (length i.answers) (length i.keys)
      go true e = omega (arith, (p.lines e).within)
      go false e = omega (arith, (p.silent e).within)

  -- LAW: the last line comes behind the lines
  pub last_laid : {last text rest : List ℕ} {next : ℕ} → length last ≡ length out → Put out 0 (most_for (length i.answers) (length i.keys)) text mid len → Put mid len last_most rest last next → Laid (text ++ rest) last next
  last_laid l q t = put_laid (omega (arith, r.lines)) l (put_then (omega (arith, r.lines)) q t)

-- what a part leaves room for: the last line, the offset at which it stops, the count of calls, and the next turn with less left
pub record Leaves (s : Session) (b : Batch) (mid : List ℕ) (len : ℕ) : Type 0 where
  pub room : Room mid len last_most
  pub within : Within s.window b.end
  pub counted : s.calls + b.calls < 2 ^ 64
  pub goes : {s' : Session} {t : Turned} → s'.lengths ≡ s.lengths → s'.window ≡ behind s.window b.used → s'.calls ≡ s.calls + b.calls → t.next ≡ next_of s.window b.end → Goes s s' t

-- LAW: as far as there is room
pub part_leaves : {t t' : Tables} {s : Session} (input : List ℕ) {out mid : List ℕ} {answers ks vs answers' ks' vs' : List ℤ} {b : Batch} {len : ℕ} → Printed (input_of t (held_in s.window input) s.window.more answers ks vs) s.calls out (output_of t' answers' ks' vs' b) mid len
    → Ready s → Rooms (length input) (length answers) (length ks) (length vs) (length out) → length answers' ≡ length answers → length ks' ≡ length ks → length vs' ≡ length vs → length mid ≡ length out → Leaves s b mid len
part_leaves {s = s} input {b = b} p y r ka kk kv km =
    let x = ran_within p.ran (record { answers = ka; keys = kk; values = kv }) in
    let h = y.held in
    let n = bytes_held y input r.holds in
    let u : b.used ≤ count_of s.window = omega (arith, x.bytes) in
    let z = behind_left h u in
    record {
      room = omega (arith, most p r, r.lines);
      within = λ place e. omega (arith, ran_stop p.ran place e, h.order, h.counted, h.known);
      counted = omega (arith, x.few, y.few, h.order, h.counted, h.known);
      goes =
          λ l w a e.
          record {
            ready =
                record {
                  held = rw w (behind_held h u);
                  few = rw (w, a) (omega (arith, behind_place h u, x.few, y.few));
                  nodes = rw l y.nodes;
                  rows = rw l y.rows;
                  buckets = rw l y.buckets;
                };
            on = λ g. rw w (omega (arith, z, ran_full p.ran r.cells r.for_keys r.for_values (next_on s.window b.end (sym e ∙ g))));
            read = λ g. rw w (next_read s.window b.end (λ q. ran_more p.ran q) (sym e ∙ g), omega (arith, z));
          };
    }

-- LAW: where the tables are not sound, no line follows
pub silent_last : {i : Input} {o : Output} (r : Ran i o) (w : Window) → r.tested ≡ false → last_of w o.end ≡ []
silent_last r w e = ap (last_of w) (ap (λ (x : Output). x.end) (r.refuses e))

-- LAW: a part is what it is said to be
module _ {m : Memory} {s : Session} {input : List ℕ} {b : Buffers} {answers' ks' vs' : List ℤ} {mid last : List ℕ} {n plen len : ℕ} {keys' : List ℕ} {values' : List ℤ} {rows' buckets' : List ℕ}
    {tickets' : List Ticket} {co' : Coordinator} {x : Batch} (r : Rooms n (length b.answers) (length b.out_keys) (length b.out_values) (length b.out))
    (p : Printed (taken m s input b) s.calls b.out (output_of (lent keys' values' rows' buckets' tickets' co') answers' ks' vs' x) mid plen)
    (q : Put mid plen last_most (last_of s.window x.end) last len) (l : length last ≡ length b.out) (kk : length keys' ≡ s.lengths.nodes) (kv : length values' ≡ s.lengths.nodes)
    (kr : length rows' ≡ s.lengths.rows) (kb : length buckets' ≡ s.lengths.buckets) where
  pub part_by : PartBy m s input b
      (record { keys = keys' ++ drop s.lengths.nodes m.keys; values = values' ++ drop s.lengths.nodes m.values; rows = rows' ++ drop s.lengths.rows m.rows; buckets = buckets' ++ drop s.lengths.buckets m.buckets })
      (record { begun = true; lengths = s.lengths; tickets = tickets'; coordinator = co'; window = behind s.window x.used; calls = s.calls + x.calls })
      (record { answers = answers'; out_keys = ks'; out_values = vs'; out = last })
      (record { length = len; next = next_of s.window x.end })
  part_by =
      record {
        output = output_of (lent keys' values' rows' buckets' tickets' co') answers' ks' vs' x;
        ran = p.ran;
        lines = λ t. last_laid p r l (p.lines t) q;
        silent = λ t. subst (λ z. Laid z last len) (silent_last p.ran s.window t) (last_laid p r l (p.silent t) q);
        next = refl;
        begun = refl;
        tables =
            rw
            (take_at keys' (drop s.lengths.nodes m.keys) s.lengths.nodes kk, take_at values' (drop s.lengths.nodes m.values) s.lengths.nodes kv, take_at rows' (drop s.lengths.rows m.rows) s.lengths.rows kr, take_at buckets' (drop s.lengths.buckets m.buckets) s.lengths.buckets kb);
        window = refl;
        calls = refl;
      }

-- ---- any turn

header_inside : {m m' : Memory} {s s' : Session} {input out : List ℕ} {r : Turned} → HeaderBy m s input m' s' out r → r.length ≤ length out
header_inside {m} {m'} {s} {s'} {input} {out} {r} h = go h.reading h.comes
  where
    go : (x : Result (Header × ℕ) Halt) → HeaderTurn m s m' s' out r x → r.length ≤ length out
    go (Ok (t, len)) c = c.line.inside
    go (Err (Halt.Stop place)) c = c.line.inside
    go (Err Halt.More) c = c.line.inside

module _ {m m' : Memory} {s s' : Session} {input : List ℕ} {b b' : Buffers} {r : Turned} where
  part_inside : PartBy m s input b m' s' b' r → r.length ≤ length b'.out
  part_inside p = go p.ran.tested refl
    where
      go : (x : Bool) → p.ran.tested ≡ x → r.length ≤ length b'.out
      go true e = (p.lines e).inside
      go false e = (p.silent e).inside

  -- LAW: what is printed is in the output
  pub turn_inside : TurnBy m s input b m' s' b' r → r.length ≤ length b'.out
  turn_inside t = go s.begun refl
    where
      go : (x : Bool) → s.begun ≡ x → r.length ≤ length b'.out
      go true e = part_inside (t.part e)
      go false e = header_inside (t.header e)
