-- Laws of the words of a line: a run of blanks or of other bytes, the next word, and words with blanks between them.
-- Assumes nothing.
use mathlib.Core.Path.{◌≡◌, refl, sym, ap, ap₂, ◌∙◌}
use mathlib.Core.Bool.{Bool, true, false, cond, not, beq}
use mathlib.Core.List.{List, [], ◌∷◌}
use Prim.Native.Nat.{ℕ, suc, ◌+◌, ◌-◌, ◌≤◌, ◌<◌}
use native.Mathlib.Omega.{arith}
use native.Mathlib.Decide.{dec_lt}
use native.Mathlib.Numerals.{add-one}
use borrow.Author.Tests.{not-true, not-false, eq-eqb, ne_eqb, eqb-true}
use lib.ListN.{length, take, drop, get_or, drop_of_length-le}
use lib.Seq.{drop-cons, drop-drop}
use Rattle.lists.specs.Filters.{filter, empty}
use Rattle.notation.specs.declared.words.Span.{Span}
use Rattle.notation.specs.Words.{blank, pieces, remark, unremarked, words, run_of, word_run, part, NextWord}

-- a run at a place, by what the code's test of the byte there answers: it ends there, it goes on, or the line ends
module _ (blanks : Bool) (line : List ℕ) (i : ℕ) where
  pub run_stops : (r : Bool) → i < length line → r ≡ blank (get_or line i 0) → not (beq r blanks) ≡ true → run_of blanks (drop i line) ≡ 0
  run_stops r l e n = let d = rw e at (not-true (beq r blanks) n) in rw (drop-cons line i 0 l, d)

  pub run_goes : (r : Bool) → i < length line → r ≡ blank (get_or line i 0) → not (beq r blanks) ≡ false → run_of blanks (drop i line) ≡ suc (run_of blanks (drop (i + 1) line))
  run_goes r l e n = let d = rw e at (not-false (beq r blanks) n) in rw (drop-cons line i 0 l, d, add-one)

  pub run_over : length line ≤ i → run_of blanks (drop i line) ≡ 0
  run_over l = rw (drop_of_length-le line l)

-- the words behind blanks
words_blank : (b : ℕ) (bs : List ℕ) → blank b ≡ true → words (b ∷ bs) ≡ words bs
unfolding words
words_blank b bs e = rw e

pub words_past : (s : List ℕ) → words s ≡ words (drop (run_of true s) s)
words_past [] = refl
words_past (b ∷ bs) = go (blank b) refl (words_past bs)
  where
    go : (t : Bool) → blank b ≡ t → words bs ≡ words (drop (run_of true bs) bs) → words (b ∷ bs) ≡ words (drop (run_of true (b ∷ bs)) (b ∷ bs))
    go true e r = rw e (words_blank b bs e ∙ r)
    go false e r = rw e

-- the pieces behind the first
later : List ℕ → List (List ℕ)
later [] = []
later (b ∷ bs) = cond (blank b) (pieces bs) (later bs)

pieces_first : (s : List ℕ) → pieces s ≡ take (run_of false s) s ∷ later s
unfolding later
pieces_first [] = refl
pieces_first (b ∷ bs) = go (blank b) refl (pieces_first bs)
  where
    go : (t : Bool) → blank b ≡ t → pieces bs ≡ take (run_of false bs) bs ∷ later bs → pieces (b ∷ bs) ≡ take (run_of false (b ∷ bs)) (b ∷ bs) ∷ later (b ∷ bs)
    go true e r = rw e
    go false e r = rw (e, r)

words_later : (s : List ℕ) → words (drop (run_of false s) s) ≡ unremarked (filter (λ w. not (empty w)) (later s))
unfolding later words
words_later [] = refl
words_later (b ∷ bs) = go (blank b) refl (words_later bs)
  where
    go : (t : Bool) → blank b ≡ t → words (drop (run_of false bs) bs) ≡ unremarked (filter (λ w. not (empty w)) (later bs)) → words (drop (run_of false (b ∷ bs)) (b ∷ bs)) ≡ unremarked (filter (λ w. not (empty w)) (later (b ∷ bs)))
    go true e r = rw (e, e)
    go false e r = rw e r

-- the first word is the run that begins there, where that is no remark
pub words_first : (s : List ℕ) → 0 < run_of false s → remark s ≡ false → words s ≡ take (run_of false s) s ∷ words (drop (run_of false s) s)
unfolding words
words_first [] h n = absurd (omega arith)
words_first (b ∷ bs) h n = go (blank b) refl h
  where
    go : (t : Bool) → blank b ≡ t → 0 < run_of false (b ∷ bs) → words (b ∷ bs) ≡ take (run_of false (b ∷ bs)) (b ∷ bs) ∷ words (drop (run_of false (b ∷ bs)) (b ∷ bs))
    go true e k = absurd (let q : run_of false (b ∷ bs) ≡ 0 = rw e in omega arith)
    go false e k = rw (words_later (b ∷ bs), pieces_first (b ∷ bs), e, n)

pub words_none : words [] ≡ []
unfolding words
words_none = refl

-- behind a remark there is no word
words_remark : (s : List ℕ) → remark s ≡ true → words s ≡ []
unfolding words
words_remark [] n = refl
words_remark (b ∷ bs) n = let e : b ≡ 35 = eqb-true b 35 n in rw (pieces_first (b ∷ bs), e)

-- no word behind blanks: nothing stands there, or a remark
past_none : (s : List ℕ) → word_run (drop (run_of true s) s) ≡ 0 → words (drop (run_of true s) s) ≡ []
past_none [] h = words_none
past_none (b ∷ bs) h = go (blank b) refl h (past_none bs)
  where
    here : (m : Bool) → remark (b ∷ bs) ≡ m → blank b ≡ false → word_run (b ∷ bs) ≡ 0 → words (b ∷ bs) ≡ []
    here true n e k = words_remark (b ∷ bs) n
    here false n e k = let q = rw (n, e) at k in absurd (omega arith)

    go : (t : Bool) → blank b ≡ t → word_run (drop (run_of true (b ∷ bs)) (b ∷ bs)) ≡ 0 → (word_run (drop (run_of true bs) bs) ≡ 0 → words (drop (run_of true bs) bs) ≡ [])
        → words (drop (run_of true (b ∷ bs)) (b ∷ bs)) ≡ []
    go true e k r = let q = rw e at k in rw e (r q)
    go false e k r = let q = rw e at k in rw e (here (remark (b ∷ bs)) refl e q)

-- LAW: two answers on the next word are equal
pub next_same : {line : List ℕ} {at : ℕ} {r s : Span} → NextWord line at r → NextWord line at s → r ≡ s
next_same {line} {at} {r} {s} v w =
    let e : r.start ≡ s.start = v.starts ∙ sym w.starts in
    let f : r.end ≡ s.end = v.ends ∙ ap (λ n. n + word_run (drop n line)) e ∙ sym w.ends in
    ap₂ {C = Span} (λ m n. record { start = m; end = n }) e f

-- LAW: the run behind the blanks is the next word, or is empty where it begins a remark
module _ (line : List ℕ) (at start end : ℕ) (e : start ≡ at + run_of true (drop at line)) (f : end ≡ start + word_run (drop start line)) (l : end ≤ length line) where
  behind : drop start line ≡ drop (run_of true (drop at line)) (drop at line)
  behind = rw e (sym (drop-drop (run_of true (drop at line)) at line))

  words_behind : words (drop at line) ≡ words (drop start line)
  words_behind = words_past (drop at line) ∙ ap words (sym behind)

  first_there : start < end → words (drop start line) ≡ part start end line ∷ words (drop end line)
  first_there q = go (remark (drop start line)) refl f
    where
      go : (m : Bool) → remark (drop start line) ≡ m → end ≡ start + cond m 0 (run_of false (drop start line)) → words (drop start line) ≡ part start end line ∷ words (drop end line)
      go true n g = absurd (omega arith)
      go false n g =
          let k : end - start ≡ run_of false (drop start line) = omega arith in
          words_first (drop start line) (omega arith) n ∙ rw (k, drop-drop, ← g)

  pub next_word : NextWord line at (record { start = start; end = end })
  next_word = record {
    starts = e;
    ends = f;
    order = omega arith;
    inside = l;
    none = λ q. words_behind ∙ ap words behind ∙ past_none (drop at line) (rw behind at (let z : word_run (drop start line) ≡ 0 = omega arith in z));
    some = λ q. words_behind ∙ first_there q;
  }

-- the word that the code finds at a place: none where a `#` stands there, else the run of bytes
module _ (line : List ℕ) (start : ℕ) where
  pub run_remark : start < length line → get_or line start 0 ≡ 35 → start ≡ start + word_run (drop start line)
  run_remark h n = rw (drop-cons line start 0 h, eq-eqb (get_or line start 0) 35 n) (omega arith)

  pub run_word : (end : ℕ) → (start < length line → get_or line start 0 ≡ 35 → ⊥) → end ≡ start + run_of false (drop start line) → end ≡ start + word_run (drop start line)
  run_word end n f = go (dec_lt start (length line))
    where
      go : Dec (start < length line) → end ≡ start + word_run (drop start line)
      go (yes h) =
          let m : remark (drop start line) ≡ false = rw (drop-cons line start 0 h) (ne_eqb (get_or line start 0) 35 (n h)) in
          rw m f
      go (no h) = let e : drop start line ≡ [] = drop_of_length-le line (omega arith) in rw e (rw e at f)

-- so many words are passed: what is left of them stands behind the place
pub record Passed (line : List ℕ) (place count : ℕ) : Type 0 where
  pub inside : place ≤ length line
  pub left : words (drop place line) ≡ drop count (words line)

module _ {line : List ℕ} {place count : ℕ} (p : Passed line place count) (r : Span) (w : NextWord line place r) where
  -- one word more
  pub passed_next : r.start < r.end → Passed line r.end (count + 1)
  passed_next h = record {
    inside = w.inside;
    left = ap {A = List (List ℕ)} (drop 1) (sym (w.some h) ∙ p.left) ∙ drop-drop 1 count (words line);
  }
