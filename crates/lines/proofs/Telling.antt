-- What the cells of an answer tell of it.
-- Assumes nothing.
use mathlib.Core.Path.{◌≡◌, refl, sym, ap, ◌∙◌}
use mathlib.Core.Bool.{Bool, true, false, cond}
use mathlib.Core.List.{List, [], ◌∷◌, ◌++◌}
use Prim.Native.Nat.{ℕ, suc, ◌+◌, ◌≤◌, ◌<◌}
use native.Mathlib.Omega.{arith}
use lib.Dec.{eqb}
use lib.ListN.{length, get_or, take}
use lib.IntN.{ℤ, pos}
use lib.Signed.{mag}
use borrow.Author.Tests.{ne_eqb}
use Rattle.model.specs.Plain.{Pair}
use Rattle.model.specs.Calls.{Answer, refused, answered, pairs_in, flat, printed}
use Rattle.listing.specs.Lines.{paired}
use Rattle.batch.specs.Cells.{cells_of}
use Rattle.batch.specs.Turns.{keys_in, values_in}
use Rattle.lines.specs.Told.{numbers_of, hands_out, Celled, Natural, shown_of}

-- 0 or the refusal
abbrev result_of : Answer → ℕ
result_of (refused n) = n
result_of (answered xs ps) = 0

pos_inj : {a b : ℕ} → pos a ≡ pos b → a ≡ b
pos_inj e = cc

length_of_lem : (code : ℕ) (a : Answer) → length (cells_of code a) ≡ 5
length_of_lem code (refused n) = refl
length_of_lem code (answered xs ps) = refl

code_of : (code : ℕ) (a : Answer) → get_or (cells_of code a) 0 (pos 0) ≡ pos code
code_of code (refused n) = refl
code_of code (answered xs ps) = refl

result_of_lem : (code : ℕ) (a : Answer) → get_or (cells_of code a) 1 (pos 0) ≡ pos (result_of a)
result_of_lem code (refused n) = refl
result_of_lem code (answered xs ps) = refl

few_numbers : (code : ℕ) → numbers_of code ≤ 3
few_numbers code = go (eqb code 10) (eqb code 12) (eqb code 13)
  where
    go : (a b c : Bool) → cond a 2 (cond b 2 (cond c 3 1)) ≤ 3
    go true b c = omega arith
    go false true c = omega arith
    go false false true = omega arith
    go false false false = omega arith

-- up to three numbers, from three cells
three : (xs : List ℤ) → length xs ≤ 3 → take (length xs) (get_or xs 0 (pos 0) ∷ get_or xs 1 (pos 0) ∷ get_or xs 2 (pos 0) ∷ []) ≡ xs
three [] h = refl
three (x ∷ []) h = refl
three (x ∷ y ∷ []) h = refl
three (x ∷ y ∷ z ∷ []) h = refl
three (x ∷ y ∷ z ∷ w ∷ xs) h = absurd (omega arith)

-- LAW: the pairs, as a line has them
pub paired_flat : (ps : List Pair) → paired (keys_in ps) (values_in ps) ≡ flat ps
paired_flat [] = refl
paired_flat (p ∷ ps) = ap {B = List ℤ} (λ l. p.0 ∷ p.1 ∷ l) (paired_flat ps)

whole : {z : ℤ} {n : ℕ} → z ≡ pos n → z ≡ pos (mag z)
whole {z} {n} e = rw e

module _ {code : ℕ} {a : Answer} {cells : List ℤ} (k : Celled code a cells) where
  -- LAW: there are five
  pub celled_five : length cells ≡ 5
  celled_five = rw k.is (length_of_lem code a)

  celled_code : get_or cells 0 (pos 0) ≡ pos code
  celled_code = rw k.is (code_of code a)

  celled_result : get_or cells 1 (pos 0) ≡ pos (result_of a)
  celled_result = rw k.is (result_of_lem code a)

  -- LAW: the code and the result are no negative numbers
  pub code_natural : Natural cells 0
  code_natural = record { inside = omega (arith, celled_five); is = whole celled_code }

  pub result_natural : Natural cells 1
  result_natural = record { inside = omega (arith, celled_five); is = whole celled_result }

  -- with a code and a result as they are read
  module _ {c r : ℕ} (ce : get_or cells 0 (pos 0) ≡ pos c) (re : get_or cells 1 (pos 0) ≡ pos r) where
    same_code : c ≡ code
    same_code = pos_inj (sym ce ∙ celled_code)

    same_result : r ≡ result_of a
    same_result = pos_inj (sym re ∙ celled_result)

zero_or : {P : Type 0} (n : ℕ) → 0 < n → n ≡ 0 → P
zero_or n h e = absurd (omega arith)

pairs_none : (code : ℕ) (a : Answer) (cells : List ℤ) → Celled code a cells → (result_of a ≡ 0 → ⊥) → 0 ≡ length (pairs_in a)
pairs_none code (refused n) cells k h = refl
pairs_none code (answered xs ps) cells k h = absurd (h refl)

pairs_first : (code : ℕ) (a : Answer) → hands_out code ≡ true → (cells : List ℤ) → Celled code a cells → result_of a ≡ 0 → get_or cells 2 (pos 0) ≡ pos (length (pairs_in a))
pairs_first code (refused n) h cells k e = zero_or n k.fitting e
pairs_first code (answered xs ps) h cells k e = rw k.is (rw h at k.fitting.1)

pairs_without : (code : ℕ) (a : Answer) → hands_out code ≡ false → (cells : List ℤ) → Celled code a cells → result_of a ≡ 0 → 0 ≡ length (pairs_in a)
pairs_without code (refused n) h cells k e = zero_or n k.fitting e
pairs_without code (answered xs ps) h cells k e = sym (ap length (rw h at k.fitting.1))

line_of : (code : ℕ) (a : Answer) (cells : List ℤ) → Celled code a cells → take (shown_of code (result_of a)) cells ++ flat (pairs_in a) ≡ pos code ∷ printed a
line_of code (refused n) cells k = rw (k.is, ne_eqb n 0 (λ e. zero_or n k.fitting e))
line_of code (answered xs ps) cells k =
    let e : 2 + length xs ≡ suc (suc (length xs)) = omega arith in
    rw (k.is, ← k.fitting.0, e) (ap (λ l. pos code ∷ pos 0 ∷ (l ++ flat ps)) (three xs (omega (arith, k.fitting.0, few_numbers code))))

module _ {code : ℕ} {a : Answer} {cells : List ℤ} (k : Celled code a cells) {c r : ℕ} (ce : get_or cells 0 (pos 0) ≡ pos c) (re : get_or cells 1 (pos 0) ≡ pos r) where
  -- LAW: where the call is refused, there are no pairs
  pub refused_pairs : (r ≡ 0 → ⊥) → 0 ≡ length (pairs_in a)
  refused_pairs h = pairs_none code a cells k (λ e. h (same_result k ce re ∙ e))

  handed_pairs : r ≡ 0 → hands_out c ≡ true → get_or cells 2 (pos 0) ≡ pos (length (pairs_in a))
  handed_pairs e h = pairs_first code a (rw (same_code k ce re) at h) cells k (sym (same_result k ce re) ∙ e)

  -- LAW: where it hands out pairs, its first number is their count
  pub count_natural : r ≡ 0 → hands_out c ≡ true → Natural cells 2
  count_natural e h = record { inside = omega (arith, celled_five k); is = whole (handed_pairs e h) }

  pub count_is : r ≡ 0 → hands_out c ≡ true → {n : ℕ} → get_or cells 2 (pos 0) ≡ pos n → n ≡ length (pairs_in a)
  count_is e h p = pos_inj (sym p ∙ handed_pairs e h)

  -- LAW: where it does not, there are none
  pub no_pairs : r ≡ 0 → hands_out c ≡ false → 0 ≡ length (pairs_in a)
  no_pairs e h = pairs_without code a (rw (same_code k ce re) at h) cells k (sym (same_result k ce re) ∙ e)

  -- LAW: the cells that a line shows, and the pairs
  pub shown_line : take (shown_of c r) cells ++ flat (pairs_in a) ≡ pos code ∷ printed a
  shown_line = rw (same_code k ce re, same_result k ce re) (line_of code a cells k)

-- at most five cells are shown
pub few_shown : (c r : ℕ) → shown_of c r ≤ 5
few_shown c r = go (eqb r 0)
  where
    go : (b : Bool) → cond b (2 + numbers_of c) 2 ≤ 5
    go true = omega (arith, few_numbers c)
    go false = omega arith
