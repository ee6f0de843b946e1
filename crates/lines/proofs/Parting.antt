-- What the outcome of a batch tells of the cells and the pairs that it laid down, of the bytes that it used and of why it ended.
-- Assumes nothing.
use Rattle.std.specs.Prelude.{Err}
use mathlib.Core.Path.{◌≡◌, refl, sym, ap, ◌∙◌, subst}
use mathlib.Core.Bool.{Bool, true, false}
use mathlib.Core.List.{List, [], ◌∷◌, ◌++◌, map}
use Prim.Native.Nat.{ℕ, suc, ◌+◌, ◌*◌, ◌^◌, ◌≤◌, ◌<◌}
use native.Mathlib.Omega.{arith}
use lib.ListN.{length, take, drop, length-append, length-map, length-take, length-drop}
use Rattle.lists.specs.Holds.{All}
use Rattle.lists.specs.Buffers.{written}
use Rattle.lists.proofs.Writing.{written_front}
use Rattle.transactions.specs.declared.Call.{Call}
use Rattle.transactions.specs.Sequences.{bytes_of}
use Rattle.transactions.specs.Calls.{numbers_of}
use Rattle.model.specs.Plain.{Pair}
use Rattle.model.specs.Calls as C
use Rattle.model.specs.Model as M
use Rattle.tables.specs.Tables.{Tables, view}
use Rattle.batch.specs.declared.End.{End}
use Rattle.batch.specs.declared.End.TheVariants.{Stop, Full}
use Rattle.batch.specs.Turns.{room, meant, keys_in, values_in}
use Rattle.batch.specs.Lists.{Input, Output, bytes_in, made_on, cells_in, pairs_in, Follows, leaves, untouched, Listed, Ran}
use Rattle.batch.proofs.Listing.{call_some, listed_bytes}
use Rattle.listing.specs.Puts as Puts
use Rattle.listing.specs.Puts.{Put}
use Rattle.listing.proofs.Putting.{put_wider}
use Rattle.lines.specs.Lines.{lines_behind, most_for}
use Rattle.lines.specs.Told.{Fitting, ToldAll, TellsAll}
use Rattle.lines.specs.Parts.{Printed}
use Rattle.lines.proofs.Fitting.{history_fits}
use Rattle.lines.proofs.Sofar.{History, cells_length}

-- ---- the front of a buffer

module _ {A : Type 0} (out s : List A) {l : List A} {n : ℕ} (w : l ≡ written out 0 s) (k : length l ≡ length out) (e : n ≡ length s) where
  text_fits : length s ≤ length out
  unfolding written
  text_fits =
      let z : 0 + length s ≡ length s = omega arith in
      let a : length l ≡ length (s ++ drop (length s) out) = ap length w ∙ rw z in
      let b = length-append s (drop (length s) out) in
      let c = length-drop (length s) out in
      omega arith

  front_fits : n ≤ length l
  front_fits = omega (arith, text_fits)

  front_is : take n l ≡ s
  front_is =
      let z : 0 + length s ≡ length s = omega arith in
      rw (w, e) (ap (λ m. take m (written out 0 s)) (sym z) ∙ written_front out 0 s (omega (arith, text_fits)))

-- ---- the calls that were made

pub history_length : (s : M.State) (cs : List C.Call) → length (M.history s cs) ≡ length cs
unfolding M.history
history_length s [] = refl
history_length s (c ∷ cs) = ap suc (history_length (M.next s c) cs)

made_length : (t : Tables) (cs : List Call) → length (made_on t cs) ≡ length cs
unfolding made_on
made_length t cs = history_length (view t) (map (meant room) cs) ∙ length-map cs (meant room)

made_fits : (t : Tables) (cs : List Call) → All (λ (h : C.Call × C.Answer). Fitting (C.code h.0) h.1) (made_on t cs)
unfolding made_on
made_fits t cs = history_fits (view t) (map (meant room) cs)

bytes_some : (cs : List Call) → length cs ≤ length (bytes_in cs)
bytes_some [] = omega arith
bytes_some (c ∷ cs) = omega (arith, length-append (bytes_of (numbers_of c)) (bytes_in cs), call_some c, bytes_some cs)

-- the cells and the pairs laid down, as a caller cuts them
abbrev Tells : History → Output → Type 0
Tells hs o = ToldAll hs (take (o.calls * 5) o.answers) (take o.pairs o.keys) (take o.pairs o.values)

-- each buffer has the length that it had
pub record Kept (i : Input) (o : Output) : Type 0 where
  pub answers : length o.answers ≡ length i.answers
  pub keys : length o.keys ≡ length i.keys
  pub values : length o.values ≡ length i.values

-- what a caller relies on: the cells and the pairs are there, the bytes used are among those lent, and each call used one
pub record Within (i : Input) (o : Output) : Type 0 where
  pub cells : o.calls * 5 ≤ length o.answers
  pub keys : o.pairs ≤ length o.keys
  pub values : o.pairs ≤ length o.values
  pub bytes : o.used ≤ length i.bytes
  pub few : o.calls ≤ o.used

module _ {i : Input} {o : Output} (l : Listed i o) where
  abbrev pub made : History
  made = made_on i.tables l.made

  pub used_is : o.used ≡ length (bytes_in l.made)
  unfolding leaves
  used_is = ap (λ (x : Output). x.used) l.is

  calls_is : o.calls * 5 ≡ length (cells_in made)
  unfolding leaves
  calls_is =
      let a : o.calls ≡ length l.made = ap (λ (x : Output). x.calls) l.is in
      let b = made_length i.tables l.made in
      let c = cells_length made in
      omega arith

  pairs_is : o.pairs ≡ length (pairs_in made)
  unfolding leaves
  pairs_is = ap (λ (x : Output). x.pairs) l.is

  keys_count : o.pairs ≡ length (keys_in (pairs_in made))
  keys_count = pairs_is ∙ sym (length-map (pairs_in made) (λ (p : Pair). p.0))

  values_count : o.pairs ≡ length (values_in (pairs_in made))
  values_count = pairs_is ∙ sym (length-map (pairs_in made) (λ (p : Pair). p.1))

  answers_are : o.answers ≡ written i.answers 0 (cells_in made)
  unfolding leaves
  answers_are = ap (λ (x : Output). x.answers) l.is

  keys_are : o.keys ≡ written i.keys 0 (keys_in (pairs_in made))
  unfolding leaves
  keys_are = ap (λ (x : Output). x.keys) l.is

  values_are : o.values ≡ written i.values 0 (values_in (pairs_in made))
  unfolding leaves
  values_are = ap (λ (x : Output). x.values) l.is

  listed_tells : Kept i o → Tells made o
  listed_tells k =
      record {
        fitting = made_fits i.tables l.made;
        cells = front_is i.answers (cells_in made) answers_are k.answers calls_is;
        keys = front_is i.keys (keys_in (pairs_in made)) keys_are k.keys keys_count;
        values = front_is i.values (values_in (pairs_in made)) values_are k.values values_count;
      }

  listed_within : Kept i o → Within i o
  unfolding leaves
  listed_within k =
      record {
        cells = front_fits i.answers (cells_in made) answers_are k.answers calls_is;
        keys = front_fits i.keys (keys_in (pairs_in made)) keys_are k.keys keys_count;
        values = front_fits i.values (values_in (pairs_in made)) values_are k.values values_count;
        bytes =
            let a = ap length (listed_bytes l) in
            let b = length-take o.used i.bytes in
            omega (arith, used_is);
        few =
            let a : o.calls ≡ length l.made = ap (λ (x : Output). x.calls) l.is in
            let b = bytes_some l.made in
            omega (arith, used_is);
      }

-- nothing laid down
none_told : (o : Output) → o.calls ≡ 0 → o.pairs ≡ 0 → Tells [] o
none_told o e f = record { fitting = tt; cells = rw e; keys = rw f; values = rw f }

module _ {i : Input} {o : Output} (r : Ran i o) where
  module _ (e : r.tested ≡ false) where
    silent_tells : Tells [] o
    silent_tells = none_told o (ap (λ (x : Output). x.calls) (r.refuses e)) (ap (λ (x : Output). x.pairs) (r.refuses e))

    silent_within : Within i o
    silent_within =
        let a : o.calls ≡ 0 = ap (λ (x : Output). x.calls) (r.refuses e) in
        let b : o.pairs ≡ 0 = ap (λ (x : Output). x.pairs) (r.refuses e) in
        let d : o.used ≡ 0 = ap (λ (x : Output). x.used) (r.refuses e) in
        record { cells = omega arith; keys = omega arith; values = omega arith; bytes = omega arith; few = omega arith }

  -- LAW: the cells and the pairs are those of some calls
  pub ran_tells : Kept i o → TellsAll (take (o.calls * 5) o.answers) (take o.pairs o.keys) (take o.pairs o.values)
  ran_tells k = go r.tested refl
    where
      go : (b : Bool) → r.tested ≡ b → TellsAll (take (o.calls * 5) o.answers) (take o.pairs o.keys) (take o.pairs o.values)
      go true e = record { history = made (r.lists e); told = listed_tells (r.lists e) k }
      go false e = record { history = []; told = silent_tells e }

  -- LAW: and all is where a caller looks for it
  pub ran_within : Kept i o → Within i o
  ran_within k = go r.tested refl
    where
      go : (b : Bool) → r.tested ≡ b → Within i o
      go true e = listed_within (r.lists e) k
      go false e = silent_within e

  pub ran_cells : Kept i o → o.calls * 5 ≤ length i.answers
  ran_cells k = let w = ran_within k in omega (arith, w.cells, k.answers)

  -- LAW: what putting their lines asks for, where there is room and the numbers fit
  pub ran_ready : (before : ℕ) (out : List ℕ) → Kept i o → Puts.Room out 0 (most_for (length i.answers) (length i.keys)) × (before + length i.bytes < 2 ^ 64)
      → TellsAll (take (o.calls * 5) o.answers) (take o.pairs o.keys) (take o.pairs o.values)
      × Puts.Room out 0 (most_for (length (take (o.calls * 5) o.answers)) (length (take o.pairs o.keys)))
      × (before * 5 + length (take (o.calls * 5) o.answers) < 5 * 2 ^ 64)
  ran_ready before out k h =
      let w = ran_within k in
      let a = length-take (o.calls * 5) o.answers in
      let b = length-take o.pairs o.keys in
      (ran_tells k, omega (arith, h.0, k.answers, k.keys, w.cells, w.keys), omega (arith, h.1, w.bytes, w.few))

  -- LAW: the lines put of these cells and pairs are those of the calls that were made
  pub ran_printed : {before : ℕ} {out last : List ℕ} {len : ℕ} → Kept i o
      → ((hs : History) → Tells hs o → Put out 0 (most_for (length (take (o.calls * 5) o.answers)) (length (take o.pairs o.keys))) (lines_behind before hs) last len)
      → Printed i before out o last len
  ran_printed k p =
      let w = ran_within k in
      let a = length-take (o.calls * 5) o.answers in
      let b = length-take o.pairs o.keys in
      record {
        ran = r;
        silent = λ e. put_wider (omega (arith, k.answers, k.keys, w.cells, w.keys)) (p [] (silent_tells e));
        lines = λ e. put_wider (omega (arith, k.answers, k.keys, w.cells, w.keys)) (p (made (r.lists e)) (listed_tells (r.lists e) k));
      }

-- ---- why a batch ended

untouched_other : {i : Input} {o : Output} (r : Ran i o) (end : End) → o.end ≡ end → ((untouched i).end ≡ end → ⊥) → r.tested ≡ true
untouched_other {i} r end e n = go r.tested refl
  where
    go : (b : Bool) → r.tested ≡ b → r.tested ≡ true
    go true t = t
    go false t = absurd (n (sym (ap (λ (x : Output). x.end) (r.refuses t)) ∙ e))

-- with no call made, the room is what was lent
none_full : (i : Input) → 5 ≤ length i.answers → room ≤ length i.keys → room ≤ length i.values → Follows i [] (Err Full) → ⊥
unfolding made_on M.history
none_full i a b c f = f.1 (record { cells = omega arith; for_keys = omega arith; for_values = omega arith })

module _ {i : Input} {o : Output} (r : Ran i o) where
  full_lists : o.end ≡ Full → r.tested ≡ true
  full_lists e = untouched_other r Full e (λ x. let z : ◌≡◌ {A = ℕ} 0 1 = cc in omega arith)

  stop_lists : (place : ℕ) → o.end ≡ Stop place → r.tested ≡ true
  stop_lists place e = untouched_other r (Stop place) e (λ x. let z : ◌≡◌ {A = ℕ} 0 1 = cc in omega arith)

  -- LAW: a batch that ends for want of room, where there is room for one call, used some bytes
  pub ran_full : 5 ≤ length i.answers → room ≤ length i.keys → room ≤ length i.values → o.end ≡ Full → 0 < o.used
  ran_full a b c e = go l.made refl
    where
      l : Listed i o
      l = r.lists (full_lists e)

      go : (cs : List Call) → l.made ≡ cs → 0 < o.used
      go [] m = absurd (none_full i a b c (subst (λ (cs : List Call). Follows i cs (Err Full)) m (subst (λ (x : End). Follows i l.made (Err x)) e l.ends)))
      go (d ∷ cs) m =
          let u : o.used ≡ length (bytes_in (d ∷ cs)) = used_is l ∙ ap (λ x. length (bytes_in x)) m in
          omega (arith, length-append (bytes_of (numbers_of d)) (bytes_in cs), call_some d)

  -- LAW: the offset at which a batch stops is not behind its bytes
  pub ran_stop : (place : ℕ) → o.end ≡ Stop place → place ≤ length i.bytes
  ran_stop place e =
      let l = r.lists (stop_lists place e) in
      let s = subst (λ (x : End). Follows i l.made (Err x)) e l.ends in
      let n = s.1.stopped.stops.reached.inside in
      let d = length-drop (length (bytes_in l.made)) i.bytes in
      omega (arith, s.1.is, s.0.left)
