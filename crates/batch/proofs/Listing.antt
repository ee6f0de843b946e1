-- The calls of a list that were made so far, one more, and the end.
-- Assumes nothing.
use Rattle.std.specs.Prelude.{Result, Ok, Err}
use mathlib.Core.Path.{◌≡◌, refl, sym, ap, ap₂, ◌∙◌}
use mathlib.Core.Bool.{Bool, true, false, true≢false}
use mathlib.Core.List.{List, [], ◌∷◌, ◌++◌, map, append_assoc, append-nil}
use mathlib.Core.Option.{Option}
use mathlib.Core.Option as O
use Prim.Native.Nat.{ℕ, suc, ◌+◌, ◌-◌, ◌*◌, ◌<◌, ◌≤◌}
use native.Mathlib.Omega.{arith}
use lib.ListN.{length, take, drop, length-append, length-map, length-drop}
use lib.Seq.{take-add}
use lib.IntN.{ℤ}
use Rattle.lists.specs.Buffers.{written}
use Rattle.lists.specs.Tests.{Says}
use Rattle.lists.proofs.Answers.{yes! }
use Rattle.lists.proofs.Writing.{written_none, written_length, written_append}
use Rattle.groups.specs.Groups.{groups_of}
use Rattle.groups.proofs.Grouping.{groups_some}
use Rattle.transactions.specs.declared.Call.{Call}
use Rattle.transactions.specs.Sequences.{bytes_of}
use Rattle.transactions.specs.Calls.{numbers_of, call_limit}
use Rattle.transactions.specs.Readings.{WholeCall}
use Rattle.transactions.proofs.Sequencing.{reached_length}
use Rattle.transactions.proofs.Calling.{call_complete}
use Rattle.transactions.proofs.Trips.{call_reached, written_call}
use Rattle.model.specs.Plain.{Pair}
use Rattle.model.specs.Calls as C
use Rattle.model.specs.Model as M
use Rattle.tables.specs.Tables.{Tables, Sound, Met, view}
use Rattle.calls.specs.Outcome.{Called}
use Rattle.calls.specs.Histories.{Calls, none, then, AsTheModel}
use Rattle.calls.proofs.Histories.{as_the_model}
use Rattle.batch.specs.declared.End.{End}
use Rattle.batch.specs.Cells.{cells_of}
use Rattle.batch.specs.Turns.{room, meant, turn_tables, answer_of, pairs_of, keys_in, values_in}
use Rattle.batch.specs.Lists.{Input, Output, bytes_in, tables_after, made_on, cells_in, pairs_in, Comes, Follows, Made, leaves, untouched, Laid, Listed, Ran}

-- ---- one more call

module _ {A B : Type 0} where
  map-append : (f : A → B) (xs ys : List A) → map f (xs ++ ys) ≡ map f xs ++ map f ys
  map-append f [] ys = refl
  map-append f (x ∷ xs) ys = ap {B = List B} (λ l. f x ∷ l) (map-append f xs ys)

history_snoc : (s : M.State) (cs : List C.Call) (c : C.Call) → M.history s (cs ++ (c ∷ [])) ≡ M.history s cs ++ ((c, M.answer (M.after s cs) c) ∷ [])
unfolding M.history M.after
history_snoc s [] c = refl
history_snoc s (d ∷ cs) c = ap {B = List (C.Call × C.Answer)} (λ l. (d, M.answer s d) ∷ l) (history_snoc (M.next s d) cs c)

history_length : (s : M.State) (cs : List C.Call) → length (M.history s cs) ≡ length cs
unfolding M.history
history_length s [] = refl
history_length s (c ∷ cs) = ap suc (history_length (M.next s c) cs)

after_snoc : (s : M.State) (cs : List C.Call) (c : C.Call) → M.after s (cs ++ (c ∷ [])) ≡ M.next (M.after s cs) c
unfolding M.after
after_snoc s [] c = refl
after_snoc s (d ∷ cs) c = after_snoc (M.next s d) cs c

pub tables_snoc : (t : Tables) (cs : List Call) (c : Call) → tables_after t (cs ++ (c ∷ [])) ≡ turn_tables (tables_after t cs) c
tables_snoc t [] c = refl
tables_snoc t (d ∷ cs) c = tables_snoc (turn_tables t d) cs c

-- what is made call by call, with one more call
module _ {A B : Type 0} (each : A → List B) (all : List A → List B) (no_more : all [] ≡ []) (first : (x : A) (xs : List A) → all (x ∷ xs) ≡ each x ++ all xs) where
  one_more : (xs : List A) (x : A) → all (xs ++ (x ∷ [])) ≡ all xs ++ each x
  one_more [] x = first x [] ∙ (ap (λ l. each x ++ l) no_more ∙ (append-nil (each x) ∙ sym (ap (λ l. l ++ each x) no_more)))
  one_more (y ∷ xs) x =
      first y (xs ++ (x ∷ [])) ∙ (ap (λ l. each y ++ l) (one_more xs x) ∙ (sym (append_assoc (each y) (all xs) (each x)) ∙ sym (ap (λ l. l ++ each x) (first y xs))))

bytes_snoc : (cs : List Call) (c : Call) → bytes_in (cs ++ (c ∷ [])) ≡ bytes_in cs ++ bytes_of (numbers_of c)
bytes_snoc = one_more (λ (c : Call). bytes_of (numbers_of c)) bytes_in refl (λ c cs. refl)

cells_snoc : (hs : List (C.Call × C.Answer)) (h : C.Call × C.Answer) → cells_in (hs ++ (h ∷ [])) ≡ cells_in hs ++ cells_of (C.code h.0) h.1
cells_snoc = one_more (λ (h : C.Call × C.Answer). cells_of (C.code h.0) h.1) cells_in refl (λ h hs. refl)

pub pairs_snoc : (hs : List (C.Call × C.Answer)) (h : C.Call × C.Answer) → pairs_in (hs ++ (h ∷ [])) ≡ pairs_in hs ++ C.pairs_in h.1
pairs_snoc = one_more (λ (h : C.Call × C.Answer). C.pairs_in h.1) pairs_in refl (λ h hs. refl)

-- LAW: an answer has five cells
pub cells_five : (code : ℕ) (a : C.Answer) → length (cells_of code a) ≡ 5
cells_five code (C.refused n) = refl
cells_five code (C.answered xs ps) = refl

cells_length : (hs : List (C.Call × C.Answer)) → length (cells_in hs) ≡ length hs * 5
cells_length [] = refl
cells_length (h ∷ hs) = omega (arith, length-append (cells_of (C.code h.0) h.1) (cells_in hs), cells_five (C.code h.0) h.1, cells_length hs)

calls_snoc : {t t' t'' : Tables} {hs : List (C.Call × C.Answer)} (h : C.Call × C.Answer) → Calls t hs t' → Called t' h.0 h.1 t'' → Calls t (hs ++ (h ∷ [])) t''
calls_snoc h none k = then k none
calls_snoc h (then j js) k = then j (calls_snoc h js k)

called_sound : {t t' : Tables} {c : C.Call} {a : C.Answer} → Sound t → Met t t' c a → Called t c a t'
called_sound S m = record { tested = true; says = yes! S; refuses = λ e. absurd (true≢false e); met = λ e. m }

made_snoc : (i : Input) (before cs : List Call) (c : Call) → Made i before cs → Follows i (before ++ cs) (Ok (c, length (bytes_of (numbers_of c)))) → Made i before (cs ++ (c ∷ []))
made_snoc i before [] c m n = (rw (append-nil before) at n, tt)
made_snoc i before (d ∷ cs) c m n = (m.0, made_snoc i (before ++ (d ∷ [])) cs c m.1 (rw (append_assoc before (d ∷ []) cs) n))

-- ---- what was made so far

-- the calls, what they left, and that there was room for it
pub record Sofar (i : Input) (t : Tables) (out ks vs : List ℤ) (used calls pairs : ℕ) : Type 0 where
  pub made : List Call
  pub in_turn : Made i [] made
  pub sound : Sound t
  pub met : Calls i.tables (made_on i.tables made) t
  pub tables : t ≡ tables_after i.tables made
  pub shown : view t ≡ M.after (view i.tables) (map (meant room) made)
  pub bytes_used : used ≡ length (bytes_in made)
  pub calls_made : calls ≡ length made
  pub pairs_out : pairs ≡ length (pairs_in (made_on i.tables made))
  pub answers : out ≡ written i.answers 0 (cells_in (made_on i.tables made))
  pub keys : ks ≡ written i.keys 0 (keys_in (pairs_in (made_on i.tables made)))
  pub values : vs ≡ written i.values 0 (values_in (pairs_in (made_on i.tables made)))
  pub inside : used ≤ length i.bytes
  pub fit_cells : calls * 5 ≤ length i.answers
  pub fit_keys : pairs ≤ length i.keys
  pub fit_values : pairs ≤ length i.values

-- LAW: nothing yet
pub sofar_none : (i : Input) → Sound i.tables → Sofar i i.tables i.answers i.keys i.values 0 0 0
unfolding made_on M.history M.after
sofar_none i S =
    record {
      made = [];
      in_turn = tt;
      sound = S;
      met = none;
      tables = refl;
      shown = refl;
      bytes_used = refl;
      calls_made = refl;
      pairs_out = refl;
      answers = sym (written_none i.answers 0);
      keys = sym (written_none i.keys 0);
      values = sym (written_none i.values 0);
      inside = omega arith;
      fit_cells = omega arith;
      fit_keys = omega arith;
      fit_values = omega arith;
    }

-- what comes next, told by other names
comes_as : (bytes : List ℕ) (more : Bool) {a a' k k' v v' used used' calls calls' pairs pairs' : ℕ} (next : Result (Call × ℕ) End) → a ≡ a' → k ≡ k' → v ≡ v' → used ≡ used' → calls ≡ calls' → pairs ≡ pairs'
    → Comes bytes more a k v used calls pairs next → Comes bytes more a' k' v' used' calls' pairs' next
comes_as bytes more next p q r s t u c = rw (sym p, sym q, sym r, sym s, sym t, sym u) c

-- one more text behind another
written_behind : (out : List ℤ) (s x : List ℤ) (at : ℕ) → at ≡ length s → at ≤ length out → {out' : List ℤ} → out' ≡ written (written out 0 s) at x → out' ≡ written out 0 (s ++ x)
written_behind out s x at e h p =
    let f : at ≡ 0 + length s = omega arith in
    p ∙ (ap (λ k. written (written out 0 s) k x) f ∙ written_append out 0 s x (omega arith))

-- LAW: a call has a byte
pub call_some : (c : Call) → 1 ≤ length (bytes_of (numbers_of c))
call_some c = go (numbers_of c) (call_complete c)
  where
    go : (ns : List ℕ) → call_limit ns ≡ O.none → 1 ≤ length (bytes_of ns)
    go [] e = let z : ◌≡◌ {A = ℕ} 0 1 = cc in absurd (omega arith)
    go (n ∷ ns) e = omega (arith, length-append (groups_of n) (bytes_of ns), groups_some n)

-- LAW: a call that is read has its own length
pub read_length : {rest : List ℕ} {c : Call} {len : ℕ} → WholeCall rest c len → len ≡ length (bytes_of (numbers_of c))
read_length r = reached_length (call_reached r)

-- the calls so far and one more, made on what the calls so far left
pub made_more : (t t' : Tables) (cs : List Call) (c : Call) → view t' ≡ M.after (view t) (map (meant room) cs) → made_on t (cs ++ (c ∷ [])) ≡ made_on t cs ++ ((meant room c, answer_of t' c) ∷ [])
unfolding made_on answer_of
made_more t t' cs c e =
    ap (M.history (view t)) (map-append (meant room) cs (c ∷ []))
    ∙ (history_snoc (view t) (map (meant room) cs) (meant room c) ∙ ap (λ s. M.history (view t) (map (meant room) cs) ++ ((meant room c, M.answer s (meant room c)) ∷ [])) (sym e))

shown_more : (t t' t'' : Tables) (cs : List Call) (c : Call) → view t' ≡ M.after (view t) (map (meant room) cs) → Met t' t'' (meant room c) (answer_of t' c) → view t'' ≡ M.after (view t) (map (meant room) (cs ++ (c ∷ [])))
shown_more t t' t'' cs c e m =
    let f : M.next (view t') (meant room c) ≡ view t'' = ap (λ (o : M.Outcome). o.0) m.model in
    sym
    (ap (M.after (view t)) (map-append (meant room) cs (c ∷ []))
    ∙ (after_snoc (view t) (map (meant room) cs) (meant room c) ∙ (ap (λ s. M.next s (meant room c)) (sym e) ∙ f)))

made_length : (t : Tables) (cs : List Call) → length (made_on t cs) ≡ length cs
unfolding made_on
made_length t cs = history_length (view t) (map (meant room) cs) ∙ length-map cs (meant room)

module _ {i : Input} {t : Tables} {out ks vs : List ℤ} {used calls pairs : ℕ} (s : Sofar i t out ks vs used calls pairs) where
  abbrev cs : List Call
  cs = s.made

  abbrev hs : List (C.Call × C.Answer)
  hs = made_on i.tables s.made

  cells_are : calls * 5 ≡ length (cells_in hs)
  cells_are = let a = cells_length hs in let b = made_length i.tables cs in let c = s.calls_made in omega arith

  keys_are : pairs ≡ length (keys_in (pairs_in hs))
  keys_are = s.pairs_out ∙ sym (length-map (pairs_in hs) (λ (p : Pair). p.0))

  values_are : pairs ≡ length (values_in (pairs_in hs))
  values_are = s.pairs_out ∙ sym (length-map (pairs_in hs) (λ (p : Pair). p.1))

  -- LAW: the buffers have the lengths that they had
  pub out_length : length out ≡ length i.answers
  out_length = let c = cells_are in let f = s.fit_cells in ap length s.answers ∙ written_length i.answers 0 (cells_in hs) (omega arith)

  pub keys_length : length ks ≡ length i.keys
  keys_length = let c = keys_are in let f = s.fit_keys in ap length s.keys ∙ written_length i.keys 0 (keys_in (pairs_in hs)) (omega arith)

  pub values_length : length vs ≡ length i.values
  values_length = let c = values_are in let f = s.fit_values in ap length s.values ∙ written_length i.values 0 (values_in (pairs_in hs)) (omega arith)

  follows : (next : Result (Call × ℕ) End) → Comes i.bytes i.more (length out) (length ks) (length vs) used calls pairs next → Follows i cs next
  follows next c = comes_as i.bytes i.more next out_length keys_length values_length s.bytes_used s.calls_made s.pairs_out c

  module _ {t' : Tables} {c : Call} {len count : ℕ} {out' ks' vs' : List ℤ} (n : Comes i.bytes i.more (length out) (length ks) (length vs) used calls pairs (Ok (c, len))) (l : Laid t t' c calls pairs out ks vs out' ks' vs' count) where
    abbrev h : C.Call × C.Answer
    h = (meant room c, answer_of t c)

    grown : made_on i.tables (cs ++ (c ∷ [])) ≡ hs ++ (h ∷ [])
    grown = made_more i.tables t cs c s.shown

    out_more : out' ≡ written i.answers 0 (cells_in (made_on i.tables (cs ++ (c ∷ []))))
    out_more =
        written_behind i.answers (cells_in hs) (cells_of (C.code h.0) h.1) (calls * 5) cells_are s.fit_cells (l.cells ∙ ap (λ z. written z (calls * 5) (cells_of (C.code h.0) h.1)) s.answers)
        ∙ ap (written i.answers 0) (sym (ap cells_in grown ∙ cells_snoc hs h))

    pairs_more : pairs_in (made_on i.tables (cs ++ (c ∷ []))) ≡ pairs_in hs ++ pairs_of t c
    pairs_more = ap pairs_in grown ∙ pairs_snoc hs h

    keys_more : ks' ≡ written i.keys 0 (keys_in (pairs_in (made_on i.tables (cs ++ (c ∷ [])))))
    keys_more =
        written_behind i.keys (keys_in (pairs_in hs)) (keys_in (pairs_of t c)) pairs keys_are s.fit_keys (l.keys_out ∙ ap (λ z. written z pairs (keys_in (pairs_of t c))) s.keys)
        ∙ ap (written i.keys 0) (sym (ap keys_in pairs_more ∙ map-append (λ (p : Pair). p.0) (pairs_in hs) (pairs_of t c)))

    values_more : vs' ≡ written i.values 0 (values_in (pairs_in (made_on i.tables (cs ++ (c ∷ [])))))
    values_more =
        written_behind i.values (values_in (pairs_in hs)) (values_in (pairs_of t c)) pairs values_are s.fit_values (l.values_out ∙ ap (λ z. written z pairs (values_in (pairs_of t c))) s.values)
        ∙ ap (written i.values 0) (sym (ap values_in pairs_more ∙ map-append (λ (p : Pair). p.1) (pairs_in hs) (pairs_of t c)))

    -- LAW: a turn: what was made so far, and the call that came
    pub sofar_turn : Sofar i t' out' ks' vs' (used + len) (calls + 1) (pairs + count)
    sofar_turn =
        let e = read_length n.1 in
        let b = length-append (bytes_in cs) (bytes_of (numbers_of c)) in
        let d = length-drop used i.bytes in
        let r = n.0.has_room in
        let few = l.few in
        record {
          made = cs ++ (c ∷ []);
          in_turn = made_snoc i [] cs c s.in_turn (follows (Ok (c, length (bytes_of (numbers_of c)))) (rw e at n));
          sound = l.met.sound;
          met = rw grown (calls_snoc h s.met (called_sound s.sound l.met));
          tables = l.tables ∙ (ap (λ x. turn_tables x c) s.tables ∙ sym (tables_snoc i.tables cs c));
          shown = shown_more i.tables t t' cs c s.shown l.met;
          bytes_used = rw (bytes_snoc cs c) (omega (arith, s.bytes_used));
          calls_made = omega (arith, s.calls_made, length-append cs (c ∷ []));
          pairs_out = rw pairs_more (omega (arith, s.pairs_out, l.counts, length-append (pairs_in hs) (pairs_of t c)));
          answers = out_more;
          keys = keys_more;
          values = values_more;
          inside = omega (arith, s.inside, n.1.inside);
          fit_cells = omega (arith, r.cells, out_length);
          fit_keys = omega (arith, r.for_keys, keys_length);
          fit_values = omega (arith, r.for_values, values_length);
        }

leaves_as : (i : Input) (cs : List Call) (end : End) {used calls pairs : ℕ} {t : Tables} {out ks vs : List ℤ} → used ≡ length (bytes_in cs) → calls ≡ length cs → pairs ≡ length (pairs_in (made_on i.tables cs))
    → t ≡ tables_after i.tables cs → out ≡ written i.answers 0 (cells_in (made_on i.tables cs)) → ks ≡ written i.keys 0 (keys_in (pairs_in (made_on i.tables cs)))
    → vs ≡ written i.values 0 (values_in (pairs_in (made_on i.tables cs)))
    → record { end = end; used = used; calls = calls; pairs = pairs; tables = t; answers = out; keys = ks; values = vs } ≡ leaves i cs end
unfolding leaves
leaves_as i cs end a b c d e f g = rw (a, b, c, d, e, f, g)

-- LAW: the end
pub sofar_ends : {i : Input} {t : Tables} {out ks vs : List ℤ} {used calls pairs : ℕ} (s : Sofar i t out ks vs used calls pairs) (end : End)
    → Comes i.bytes i.more (length out) (length ks) (length vs) used calls pairs (Err end)
    → Listed i (record { end = end; used = used; calls = calls; pairs = pairs; tables = t; answers = out; keys = ks; values = vs })
sofar_ends {i} s end c =
    record {
      made = s.made;
      in_turn = s.in_turn;
      ends = follows s (Err end) c;
      is = leaves_as i s.made end s.bytes_used s.calls_made s.pairs_out s.tables s.answers s.keys s.values;
      met = s.met;
    }

-- LAW: the call that comes ends within the bytes
pub next_ends : {i : Input} {t : Tables} {out ks vs : List ℤ} {used calls pairs : ℕ} (s : Sofar i t out ks vs used calls pairs) {c : Call} {len : ℕ}
    → Comes i.bytes i.more (length out) (length ks) (length vs) used calls pairs (Ok (c, len)) → used + len ≤ length i.bytes
next_ends {i = i} {used = used} s n = let d = length-drop used i.bytes in omega (arith, s.inside, n.1.inside)

-- LAW: and leaves fewer
pub next_less : {i : Input} {t : Tables} {out ks vs : List ℤ} {used calls pairs : ℕ} (s : Sofar i t out ks vs used calls pairs) {c : Call} {len : ℕ}
    → Comes i.bytes i.more (length out) (length ks) (length vs) used calls pairs (Ok (c, len)) → length i.bytes - (used + len) < length i.bytes - used
next_less s {c} n = let e = read_length n.1 in let l = call_some c in omega (arith, n.0.left)

-- ---- on any tables

pub ran_refused : (i : Input) {r : Bool} → Says r (Sound i.tables) → r ≡ false → Ran i (untouched i)
ran_refused i {r} s e = record { tested = r; says = s; refuses = λ z. refl; lists = λ y. absurd (true≢false (sym y ∙ e)) }

pub ran_lists : {i : Input} {o : Output} {r : Bool} → Says r (Sound i.tables) → r ≡ true → Listed i o → Ran i o
ran_lists {r = r} s e l = record { tested = r; says = s; refuses = λ z. absurd (true≢false (sym e ∙ z)); lists = λ y. l }

-- ---- what an outcome tells

one_more_bytes : (bytes before : List ℕ) (c : Call) → take (length before) bytes ≡ before → WholeCall (drop (length before) bytes) c (length (bytes_of (numbers_of c)))
    → take (length (before ++ bytes_of (numbers_of c))) bytes ≡ before ++ bytes_of (numbers_of c)
one_more_bytes bytes before c e w =
    let n = length (bytes_of (numbers_of c)) in
    ap (λ k. take k bytes) (length-append before (bytes_of (numbers_of c)))
    ∙ (take-add (length before) n bytes ∙ ap₂ (λ (x y : List ℕ). x ++ y) e (written_call w.written))

made_bytes : (i : Input) (before cs : List Call) → take (length (bytes_in before)) i.bytes ≡ bytes_in before → Made i before cs → take (length (bytes_in (before ++ cs))) i.bytes ≡ bytes_in (before ++ cs)
made_bytes i before [] e m = rw (append-nil before) e
made_bytes i before (c ∷ cs) e m =
    rw append_assoc at
    (made_bytes i (before ++ (c ∷ [])) cs (rw (bytes_snoc before c) (one_more_bytes i.bytes (bytes_in before) c e m.0.1)) m.1)

-- LAW: the bytes used are the written forms of the calls made, one after another
pub listed_bytes : {i : Input} {o : Output} (l : Listed i o) → take o.used i.bytes ≡ bytes_in l.made
unfolding leaves
listed_bytes {i} l = ap (λ (x : Output). take x.used i.bytes) l.is ∙ made_bytes i [] l.made refl l.in_turn

-- LAW: the calls made came to what the model says
pub listed_model : {i : Input} {o : Output} → Sound i.tables → (l : Listed i o) → AsTheModel i.tables (made_on i.tables l.made) o.tables
listed_model S l = as_the_model S l.met
