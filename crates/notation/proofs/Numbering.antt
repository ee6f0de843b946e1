-- Laws of the numbers of words: the digits one after another, and the range of each kind.
-- Assumes nothing.
use mathlib.Core.Path.{◌≡◌, refl, sym}
use mathlib.Core.Bool.{Bool, true, false, true≢false, cond, ◌&&◌}
use mathlib.Core.List.{List, [], ◌∷◌}
use Prim.Native.Nat.{ℕ, ◌+◌, ◌-◌, ◌*◌, ◌≤◌, ◌<◌}
use native.Mathlib.Omega.{arith}
use native.Mathlib.Numerals.{add-one}
use lib.Dec.{eqb, leb}
use lib.ListN.{length, get_or, take, drop}
use lib.Pointwise.{pointwise}
use lib.Seq.{drop-cons}
use borrow.Author.Tests.{lt-leb}
use Rattle.std.proofs.Common.{None, nat_eq}
use Rattle.std.specs.List.{list_all}
use Rattle.listing.specs.Decimals.{worth_from}
use Rattle.transactions.specs.Calls.{any}
use Rattle.notation.specs.declared.Kind.{Kind}
use Rattle.notation.specs.Numerals.{all_digits, worth_of, integer_of, value_as, digits_value, number}

-- the code's test of every byte
pub digits_all : (bs : List ℕ) → list_all (λ b. leb 48 b && leb b 57) bs ≡ all_digits bs
digits_all [] = refl
digits_all (b ∷ bs) = rw (digits_all bs)

-- digits behind a number do not make it less
pub worth_over : (v : ℕ) (s : List ℕ) → v ≤ worth_from v s
worth_over v [] = omega arith
worth_over v (b ∷ s) = let h = worth_over (v * 10 + (b - 48)) s in omega arith

pub worth_great : (n : ℕ) → any < n → None ≡ worth_of n
worth_great n h = rw (lt-leb n any h)

-- digits of which the first make too much already
pub worth_passed : (digits : List ℕ) (i v : ℕ) → i < length digits → worth_from 0 digits ≡ worth_from v (drop i digits) → any < v * 10 + (get_or digits i 0 - 48)
    → None ≡ worth_of (worth_from 0 digits)
worth_passed digits i v h e g =
    let next = v * 10 + (get_or digits i 0 - 48) in
    let f : worth_from 0 digits ≡ worth_from next (drop (i + 1) digits) = rw (e, drop-cons digits i 0 h, add-one i) in
    worth_great _ (omega (arith, f, worth_over next (drop (i + 1) digits)))

-- digits behind a sign
pub digits_right : (s : Bool) (k : Kind) (ds : List ℕ) → 0 < length ds → all_digits ds ≡ true → digits_value s k ds ≡ value_as k (integer_of s (worth_from 0 ds))
digits_right s k [] h e = absurd (omega arith)
digits_right s k (d ∷ ds) h e = rw e

-- a word by whether it begins with `-`
pub number_minus : (k : Kind) (word rest : List ℕ) → (pointwise nat_eq (take 1 word) (45 ∷ []) ≡ true) × (rest ≡ drop 1 word) × (length rest + 1 ≡ length word) → digits_value true k rest ≡ number k word
unfolding number
number_minus k [] rest h = absurd (true≢false (sym h.0))
number_minus k (b ∷ bs) rest h = go (eqb b 45) refl h.0
  where
    go : (t : Bool) → eqb b 45 ≡ t → (t && true) ≡ true → digits_value true k rest ≡ cond (eqb b 45) (digits_value true k bs) (digits_value false k (b ∷ bs))
    go true e q = rw (e, h.1)
    go false e q = absurd (true≢false (sym q))

pub number_plain : (k : Kind) (word : List ℕ) → pointwise nat_eq (take 1 word) (45 ∷ []) ≡ false → digits_value false k word ≡ number k word
unfolding number
number_plain k [] h = refl
number_plain k (b ∷ bs) h = go (eqb b 45) refl h
  where
    go : (t : Bool) → eqb b 45 ≡ t → (t && true) ≡ false → digits_value false k (b ∷ bs) ≡ cond (eqb b 45) (digits_value true k bs) (digits_value false k (b ∷ bs))
    go true e q = absurd (true≢false q)
    go false e q = rw e
