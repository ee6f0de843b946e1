-- The lines of the calls passed so far, one more, and the end.
-- Assumes nothing.
use mathlib.Core.Path.{◌≡◌, refl, sym, ap, ◌∙◌}
use mathlib.Core.List.{List, [], ◌∷◌, ◌++◌, append_assoc, append-nil, map-append}
use Prim.Native.Nat.{ℕ, suc, ◌+◌, ◌-◌, ◌*◌, ◌^◌, ◌≤◌, ◌<◌}
use native.Mathlib.Omega.{arith}
use lib.ListN.{length, take, drop, length-append, length-map}
use lib.Seq.{take_at, drop_at}
use lib.IntN.{ℤ}
use Rattle.lists.proofs.Holding.{all_at}
use Rattle.listing.specs.Puts.{Room, longest, Put}
use Rattle.listing.proofs.Putting.{put_none_lem, put_wider, put_then}
use Rattle.model.specs.Plain.{Pair}
use Rattle.model.specs.Calls as C
use Rattle.batch.specs.Cells.{cells_of}
use Rattle.batch.specs.Turns.{keys_in, values_in}
use Rattle.batch.specs.Lists.{cells_in, pairs_in}
use Rattle.batch.proofs.Listing.{cells_five}
use Rattle.lines.specs.Lines.{line_of, lines_behind, most_for}
use Rattle.lines.specs.Told.{Fitting, Celled, Told, ToldAll}

-- calls with their answers
abbrev pub History : Type 0
History = List (C.Call × C.Answer)

-- ---- a part in the middle of a list

module _ {A : Type 0} where
  -- the elements from one place up to another
  abbrev pub part : ℕ → ℕ → List A → List A
  part from to l = take (to - from) (drop from l)

  pub part_middle : (xs ys zs : List A) {l : List A} {from to : ℕ} → l ≡ xs ++ (ys ++ zs) → from ≡ length xs → to ≡ from + length ys → part from to l ≡ ys
  part_middle xs ys zs {from = from} {to = to} e f t =
      let n : length ys ≡ to - from = omega arith in
      rw (e, drop_at xs (ys ++ zs) from (sym f)) (take_at ys zs (to - from) n)

  pub middle_fits : (xs ys zs : List A) {l : List A} {from to : ℕ} → l ≡ xs ++ (ys ++ zs) → from ≡ length xs → to ≡ from + length ys → to ≤ length l
  middle_fits xs ys zs e f t = rw (e, length-append, length-append) (omega arith)

-- five elements come first, and then the rest
pub record Five {A : Type 0} (xs x rest : List A) : Type 0 where
  pub is : xs ≡ x ++ rest
  pub five : length x ≡ 5

-- LAW: as an iterator over chunks of five steps
pub five_of : {A : Type 0} {xs x rest : List A} {size : ℕ} → size ≡ 5 → (xs ≡ x ++ rest) × (length x ≡ size) → Five xs x rest
five_of e n = record { is = n.0; five = n.1 ∙ e }

-- ---- histories one behind another

cells_append : (xs ys : History) → cells_in (xs ++ ys) ≡ cells_in xs ++ cells_in ys
cells_append [] ys = refl
cells_append (x ∷ xs) ys = rw (cells_append xs ys) (sym (append_assoc (cells_of (C.code x.0) x.1) (cells_in xs) (cells_in ys)))

pairs_append : (xs ys : History) → pairs_in (xs ++ ys) ≡ pairs_in xs ++ pairs_in ys
pairs_append [] ys = refl
pairs_append (x ∷ xs) ys = rw (pairs_append xs ys) (sym (append_assoc (C.pairs_in x.1) (pairs_in xs) (pairs_in ys)))

pub lines_append : (before : ℕ) (xs ys : History) → lines_behind before (xs ++ ys) ≡ lines_behind before xs ++ lines_behind (before + length xs) ys
lines_append before [] ys = let e : before + 0 ≡ before = omega arith in rw e
lines_append before (x ∷ xs) ys =
    let e : before + suc (length xs) ≡ suc before + length xs = omega arith in
    rw (lines_append (suc before) xs ys, e)
    (sym (append_assoc (line_of (suc before) (C.code x.0) x.1) (lines_behind (suc before) xs) (lines_behind (suc before + length xs) ys)))

pub cells_length : (hs : History) → length (cells_in hs) ≡ length hs * 5
cells_length [] = refl
cells_length (h ∷ hs) = omega (arith, length-append (cells_of (C.code h.0) h.1) (cells_in hs), cells_five (C.code h.0) h.1, cells_length hs)

-- ---- what was put so far

-- the calls passed and those left, whose cells are still to come; the number of the last one passed; how many pairs were passed; and the lines put
pub record Sofar (hs : History) (before : ℕ) (out₀ out : List ℕ) (at number : ℕ) (rest : List ℤ) (pairs : ℕ) : Type 0 where
  pub passed : History
  pub left : History
  pub whole : hs ≡ passed ++ left
  pub numbered : number ≡ before + length passed
  pub cells : rest ≡ cells_in left
  pub handed : pairs ≡ length (pairs_in passed)
  pub put : Put out₀ 0 (most_for (length (cells_in passed)) pairs) (lines_behind before passed) out at

-- LAW: nothing yet
pub sofar_none : {hs : History} {cells ks vs : List ℤ} → ToldAll hs cells ks vs → (before : ℕ) (out : List ℕ) → Sofar hs before out out 0 before cells 0
sofar_none {hs} t before out =
    record {
      passed = [];
      left = hs;
      whole = refl;
      numbered = omega arith;
      cells = t.cells;
      handed = refl;
      put = put_none_lem out 0;
    }

module _ {hs : History} {cells ks vs : List ℤ} (t : ToldAll hs cells ks vs) {before : ℕ} {out₀ out : List ℕ} {at number : ℕ} {rest : List ℤ} {pairs : ℕ} (s : Sofar hs before out₀ out at number rest pairs) where
  counted : length cells ≡ length (cells_in s.passed) + length rest
  counted = ap length (t.cells ∙ (ap cells_in s.whole ∙ cells_append s.passed s.left)) ∙ rw (length-append, s.cells)

  pairs_are : pairs_in hs ≡ pairs_in s.passed ++ pairs_in s.left
  pairs_are = ap pairs_in s.whole ∙ pairs_append s.passed s.left

  keys_are : ks ≡ keys_in (pairs_in s.passed) ++ keys_in (pairs_in s.left)
  keys_are = t.keys ∙ (ap keys_in pairs_are ∙ map-append (λ (p : Pair). p.0) (pairs_in s.passed) (pairs_in s.left))

  values_are : vs ≡ values_in (pairs_in s.passed) ++ values_in (pairs_in s.left)
  values_are = t.values ∙ (ap values_in pairs_are ∙ map-append (λ (p : Pair). p.1) (pairs_in s.passed) (pairs_in s.left))

  -- the call that comes next
  pub record Coming : Type 0 where
    pub next : C.Call × C.Answer
    pub more : History
    pub is : s.left ≡ next ∷ more

  pub coming : 0 < length rest → Coming
  coming h = go s.left refl
    where
      go : (l : History) → s.left ≡ l → Coming
      go [] e = let n : length rest ≡ 0 = ap length (s.cells ∙ ap cells_in e) in absurd (omega arith)
      go (x ∷ xs) e = record { next = x; more = xs; is = e }

  -- five cells come next: x, and then rest'
  module _ {x rest' : List ℤ} (f : Five rest x rest') where
    abbrev some : 5 ≤ length rest
    some = rw f.is (omega (arith, f.five, length-append x rest'))

    abbrev pub here : Coming
    here = coming (omega (arith, some))

    abbrev pub next : C.Call × C.Answer
    next = here.next

    abbrev pub more : History
    more = here.more

    abbrev pub code : ℕ
    code = C.code next.0

    abbrev pub answer : C.Answer
    answer = next.1

    cells_split : x ++ rest' ≡ cells_of code answer ++ cells_in more
    cells_split = sym f.is ∙ (s.cells ∙ ap cells_in here.is)

    cells_are : x ≡ cells_of code answer
    cells_are = sym (take_at x rest' 5 f.five) ∙ (ap (take 5) cells_split ∙ take_at (cells_of code answer) (cells_in more) 5 (cells_five code answer))

    rest_are : rest' ≡ cells_in more
    rest_are = sym (drop_at x rest' 5 f.five) ∙ (ap (drop 5) cells_split ∙ drop_at (cells_of code answer) (cells_in more) 5 (cells_five code answer))

    keys_split : ks ≡ keys_in (pairs_in s.passed) ++ (keys_in (C.pairs_in answer) ++ keys_in (pairs_in more))
    keys_split =
        keys_are
        ∙ ap (λ l. keys_in (pairs_in s.passed) ++ l) (ap (λ l. keys_in (pairs_in l)) here.is ∙ map-append (λ (p : Pair). p.0) (C.pairs_in answer) (pairs_in more))

    values_split : vs ≡ values_in (pairs_in s.passed) ++ (values_in (C.pairs_in answer) ++ values_in (pairs_in more))
    values_split =
        values_are
        ∙ ap (λ l. values_in (pairs_in s.passed) ++ l) (ap (λ l. values_in (pairs_in l)) here.is ∙ map-append (λ (p : Pair). p.1) (C.pairs_in answer) (pairs_in more))

    -- LAW: they are those of a call
    pub next_celled : Celled code answer x
    next_celled =
        record {
          fitting = all_at (λ (y : C.Call × C.Answer). Fitting (C.code y.0) y.1) s.passed next more (rw (← here.is, ← s.whole) t.fitting);
          is = cells_are;
        }

    module _ {n : ℕ} (m : n ≡ length (C.pairs_in answer)) where
      from_keys : pairs ≡ length (keys_in (pairs_in s.passed))
      from_keys = s.handed ∙ sym (length-map (pairs_in s.passed) (λ (p : Pair). p.0))

      to_keys : pairs + n ≡ pairs + length (keys_in (C.pairs_in answer))
      to_keys = ap (λ k. pairs + k) (m ∙ sym (length-map (C.pairs_in answer) (λ (p : Pair). p.0)))

      from_values : pairs ≡ length (values_in (pairs_in s.passed))
      from_values = s.handed ∙ sym (length-map (pairs_in s.passed) (λ (p : Pair). p.1))

      to_values : pairs + n ≡ pairs + length (values_in (C.pairs_in answer))
      to_values = ap (λ k. pairs + k) (m ∙ sym (length-map (C.pairs_in answer) (λ (p : Pair). p.1)))

      -- LAW: and so are its pairs
      pub next_keys : pairs + n ≤ length ks
      next_keys = middle_fits (keys_in (pairs_in s.passed)) (keys_in (C.pairs_in answer)) (keys_in (pairs_in more)) keys_split from_keys to_keys

      pub next_values : pairs + n ≤ length vs
      next_values = middle_fits (values_in (pairs_in s.passed)) (values_in (C.pairs_in answer)) (values_in (pairs_in more)) values_split from_values to_values

      pub next_told : Told code answer x (part pairs (pairs + n) ks) (part pairs (pairs + n) vs)
      next_told =
          record {
            celled = next_celled;
            keys = part_middle (keys_in (pairs_in s.passed)) (keys_in (C.pairs_in answer)) (keys_in (pairs_in more)) keys_split from_keys to_keys;
            values = part_middle (values_in (pairs_in s.passed)) (values_in (C.pairs_in answer)) (values_in (pairs_in more)) values_split from_values to_values;
          }

      key_count : length (part pairs (pairs + n) ks) ≡ n
      key_count = ap length next_told.keys ∙ (length-map (C.pairs_in answer) (λ (p : Pair). p.0) ∙ sym m)

      -- LAW: there is room for its line
      pub next_room : Room out₀ 0 (most_for (length cells) (length ks)) → length out ≡ length out₀ → Room out at (longest (6 + 2 * length (part pairs (pairs + n) ks)))
      next_room r l =
          let b = next_keys in
          let c = key_count in
          omega (arith, s.put.within, counted, some)

      -- LAW: and its number fits
      pub next_number : before * 5 + length cells < 5 * 2 ^ 64 → number + 1 < 2 ^ 64
      next_number r =
          let b = cells_length s.passed in
          omega (arith, s.numbered, counted, some)

      -- LAW: with its line, the lines so far
      pub sofar_next : {out' : List ℕ} {at' : ℕ} → Room out₀ 0 (most_for (length cells) (length ks))
          → Put out at (longest (6 + 2 * length (part pairs (pairs + n) ks))) (line_of (number + 1) code answer) out' at'
          → Sofar hs before out₀ out' at' (number + 1) rest' (pairs + n)
      sofar_next r p =
          let b = next_keys in
          let c = key_count in
          let d : length (cells_in (s.passed ++ (next ∷ []))) ≡ length (cells_in s.passed) + 5 =
          rw (cells_append s.passed (next ∷ []), append-nil (cells_of code answer), length-append (cells_in s.passed) (cells_of code answer), cells_five code answer) refl in
          let q : number + 1 ≡ suc (before + length s.passed) = omega (arith, s.numbered) in
          let joined : lines_behind before (s.passed ++ (next ∷ [])) ≡ lines_behind before s.passed ++ line_of (number + 1) code answer =
          lines_append before s.passed (next ∷ [])
          ∙ rw (q, append-nil (line_of (suc (before + length s.passed)) code answer)) in
          record {
            passed = s.passed ++ (next ∷ []);
            left = more;
            whole = s.whole ∙ (ap (λ l. s.passed ++ l) here.is ∙ sym (append_assoc s.passed (next ∷ []) more));
            numbered = rw (length-append s.passed (next ∷ [])) (omega (arith, s.numbered));
            cells = rest_are;
            handed = rw (pairs_append s.passed (next ∷ []), append-nil (C.pairs_in answer), length-append (pairs_in s.passed) (C.pairs_in answer)) (omega (arith, s.handed));
            put = rw joined (put_wider (omega arith) (put_then (omega (arith, counted, some)) s.put p));
          }

  -- LAW: where no five cells come, all lines are put
  pub sofar_ends : length rest < 5 → Put out₀ 0 (most_for (length cells) (length ks)) (lines_behind before hs) out at
  sofar_ends h = go s.left refl
    where
      go : (l : History) → s.left ≡ l → Put out₀ 0 (most_for (length cells) (length ks)) (lines_behind before hs) out at
      go [] e =
          let a : hs ≡ s.passed = s.whole ∙ rw (e, append-nil s.passed) in
          let k : length ks ≡ length (pairs_in s.passed) = ap length t.keys ∙ (length-map (pairs_in hs) (λ (p : Pair). p.0) ∙ ap (λ x. length (pairs_in x)) a) in
          let d = s.handed in
          rw a (put_wider (omega (arith, counted)) s.put)
      go (x ∷ xs) e =
          let n : length rest ≡ length (cells_in (x ∷ xs)) = ap length (s.cells ∙ ap cells_in e) in
          let g = cells_length (x ∷ xs) in
          absurd (omega arith)
