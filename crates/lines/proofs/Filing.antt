-- A file run in parts, however it is cut, prints what it prints.
-- Assumes nothing.
use Rattle.std.specs.Prelude.{Err}
use mathlib.Core.Path.{◌≡◌, refl, sym, ap, ap₂, ◌∙◌, subst}
use mathlib.Core.Bool.{false}
use mathlib.Core.List.{List, [], ◌∷◌, ◌++◌, map, append_assoc, append-nil, map-append}
use Prim.Native.Nat.{ℕ, ◌+◌, ◌≤◌}
use native.Mathlib.Omega.{arith}
use lib.ListN.{length, drop, take-append-drop, length-append, length-drop, length-map, drop_of_length-le}
use Rattle.lists.specs.Holds.{All}
use Rattle.lists.proofs.Holding.{all_append}
use Rattle.transactions.specs.declared.Call.{Call}
use Rattle.transactions.specs.Sequences.{bytes_of, Stopped}
use Rattle.transactions.specs.Calls.{numbers_of, call_limit, WrittenCall}
use Rattle.transactions.proofs.Trips.{written_call}
use Rattle.model.specs.Calls as C
use Rattle.model.specs.Model as M
use Rattle.tables.specs.Tables.{Tables, Sound, view}
use Rattle.batch.specs.declared.End.{End}
use Rattle.batch.specs.Turns.{room, meant}
use Rattle.batch.specs.Lists.{Input, Output, bytes_in, made_on, Made, Follows, leaves, Listed}
use Rattle.batch.proofs.Listing.{listed_bytes, listed_model}
use Rattle.lines.specs.Lines.{lines_behind}
use Rattle.lines.specs.Files.{end_line, stop_line, Last, Prints, Part, part_lines, InParts}
use Rattle.lines.specs.Files as F
use Rattle.lines.proofs.Sofar.{lines_append}
use Rattle.lines.proofs.Parting.{used_is, history_length}
use Rattle.lines.proofs.Cutting.{stopped_later}

-- ---- calls one behind another

bytes_append : (xs ys : List Call) → bytes_in (xs ++ ys) ≡ bytes_in xs ++ bytes_in ys
bytes_append [] ys = refl
bytes_append (x ∷ xs) ys = rw (bytes_append xs ys) (sym (append_assoc (bytes_of (numbers_of x)) (bytes_in xs) (bytes_in ys)))

history_append : (s : M.State) (xs ys : List C.Call) → M.history s (xs ++ ys) ≡ M.history s xs ++ M.history (M.after s xs) ys
unfolding M.history M.after
history_append s [] ys = refl
history_append s (x ∷ xs) ys = ap {B = List (C.Call × C.Answer)} (λ l. (x, M.answer s x) ∷ l) (history_append (M.next s x) xs ys)

history_calls : (s : M.State) (cs : List C.Call) → map (λ (h : C.Call × C.Answer). h.0) (M.history s cs) ≡ cs
unfolding M.history
history_calls s [] = refl
history_calls s (c ∷ cs) = ap {B = List C.Call} (λ l. c ∷ l) (history_calls (M.next s c) cs)

-- their lines, on a state
abbrev lines : ℕ → M.State → List Call → List ℕ
lines before s cs = lines_behind before (M.history s (map (meant room) cs))

lines_join : (before : ℕ) (s : M.State) (xs ys : List Call) → lines before s (xs ++ ys) ≡ lines before s xs ++ lines (before + length xs) (M.after s (map (meant room) xs)) ys
lines_join before s xs ys =
    let n : length (M.history s (map (meant room) xs)) ≡ length xs = history_length s (map (meant room) xs) ∙ length-map xs (meant room) in
    ap (λ l. lines_behind before (M.history s l)) (map-append (meant room) xs ys)
    ∙ (ap (lines_behind before) (history_append s (map (meant room) xs) (map (meant room) ys))
    ∙ (lines_append before (M.history s (map (meant room) xs)) (M.history (M.after s (map (meant room) xs)) (map (meant room) ys))
    ∙ ap (λ k. lines before s xs ++ lines_behind (before + k) (M.history (M.after s (map (meant room) xs)) (map (meant room) ys))) n))

-- ---- a batch

made_written : (i : Input) (before cs : List Call) → Made i before cs → All (λ (c : Call). WrittenCall c (bytes_of (numbers_of c))) cs
made_written i before [] m = tt
made_written i before (c ∷ cs) m =
    (subst (WrittenCall c) (written_call m.0.1.written) m.0.1.written, made_written i (before ++ (c ∷ [])) cs m.1)

module _ {i : Input} {o : Output} (l : Listed i o) where
  abbrev cs : List Call
  cs = l.made

  -- the bytes are those of its calls, and the rest
  listed_whole : i.bytes ≡ bytes_in cs ++ drop o.used i.bytes
  listed_whole = sym (take-append-drop o.used i.bytes) ∙ ap (λ x. x ++ drop o.used i.bytes) (listed_bytes l)

  listed_written : All (λ (c : Call). WrittenCall c (bytes_of (numbers_of c))) cs
  listed_written = made_written i [] cs l.in_turn

  listed_calls : o.calls ≡ length cs
  unfolding leaves
  listed_calls = ap (λ (x : Output). x.calls) l.is

  -- the tables show the state after its calls
  listed_state : Sound i.tables → view o.tables ≡ M.after (view i.tables) (map (meant room) cs)
  unfolding made_on
  listed_state S = (listed_model S l).state ∙ ap (M.after (view i.tables)) (history_calls (view i.tables) (map (meant room) cs))

  -- it stops at an offset of the bytes left, whatever follows them
  listed_stop : (later : List ℕ) (place offset : ℕ) → o.end ≡ End.Stop offset → (i.more ≡ false → later ≡ [])
      → Last (drop o.used i.bytes ++ later) (place + length (bytes_in cs)) (stop_line (place + offset))
  listed_stop later place offset e f =
      let s = subst (λ (x : End). Follows i cs (Err x)) e l.ends in
      let u = used_is l in
      let d = length-drop o.used i.bytes in
      F.stopped (place + offset) (omega (arith, length-append (drop o.used i.bytes) later, s.0.left))
      (record {
        offset = s.1.offset;
        is = omega (arith, s.1.is);
        stopped = stopped_later later i.more f (subst (λ k. Stopped call_limit (drop k i.bytes) i.more s.1.offset) (sym u) s.1.stopped);
      })

  listed_end : o.end ≡ End.Ended → drop o.used i.bytes ≡ []
  listed_end e =
      let s = subst (λ (x : End). Follows i cs (Err x)) e l.ends in
      let u = used_is l in
      let n : length i.bytes ≤ o.used = omega arith in
      drop_of_length-le i.bytes n

-- ---- part after part

-- LAW: a file run in parts prints what it prints, however it is cut
pub in_parts : {t : Tables} {before place : ℕ} {held later out : List ℕ} → Sound t → InParts t before place held later out → Prints (view t) before place (held ++ later) out
unfolding made_on
in_parts {t} {before} {place} {held} S (F.on {later = later} {out = out} p read r) =
    let l = p.listed in
    let o = p.output in
    let q = in_parts (listed_model S l).sound r in
    let made = l.made in
    let u = used_is l in
    let n = bytes_append made q.calls in
    let k : place + o.used + length (bytes_in q.calls) ≡ place + length (bytes_in (made ++ q.calls)) = rw n (omega (arith, length-append (bytes_in made) (bytes_in q.calls))) in
    record {
      calls = made ++ q.calls;
      rest = q.rest;
      last = q.last;
      written = all_append (λ (c : Call). WrittenCall c (bytes_of (numbers_of c))) made q.calls (listed_written l) q.written;
      whole =
          ap (λ x. x ++ (read ++ later)) (listed_whole l)
          ∙ (append_assoc (bytes_in made) (drop o.used held) (read ++ later)
          ∙ (ap (λ x. bytes_in made ++ x) (sym (append_assoc (drop o.used held) read later) ∙ q.whole)
          ∙ (sym (append_assoc (bytes_in made) (bytes_in q.calls) q.rest) ∙ ap (λ x. x ++ q.rest) (sym n))));
      ends = subst (λ x. Last q.rest x q.last) k q.ends;
      is =
          ap (λ x. lines before (view t) made ++ x)
          (q.is ∙ ap₂ (λ (x : ℕ) (s : M.State). lines (before + x) s q.calls ++ q.last) (listed_calls l) (listed_state l S))
          ∙ (sym (append_assoc (lines before (view t) made) (lines (before + length made) (M.after (view t) (map (meant room) made)) q.calls) q.last)
          ∙ ap (λ x. x ++ q.last) (sym (lines_join before (view t) made q.calls)));
    }
in_parts {t} {before} {place} {held} S (F.ended p e) =
    let l = p.listed in
    record {
      calls = l.made;
      rest = [];
      last = end_line;
      written = listed_written l;
      whole = append-nil held ∙ (listed_whole l ∙ ap (λ x. bytes_in l.made ++ x) (listed_end l e));
      ends = F.ended refl;
      is = refl;
    }
in_parts {t} {before} {place} {held} S (F.stopped {later = later} p offset e f) =
    let l = p.listed in
    record {
      calls = l.made;
      rest = drop p.output.used held ++ later;
      last = stop_line (place + offset);
      written = listed_written l;
      whole = ap (λ x. x ++ later) (listed_whole l) ∙ append_assoc (bytes_in l.made) (drop p.output.used held) later;
      ends = listed_stop l later place offset e f;
      is = refl;
    }
