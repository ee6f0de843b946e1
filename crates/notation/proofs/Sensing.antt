-- Laws of what a line says: the ranges of the numbers found, and the line by its first word.
-- Assumes nothing.
use mathlib.Core.Path.{◌≡◌, refl, sym, ap, ◌∙◌}
use mathlib.Core.Bool.{Bool, true, false, cond}
use mathlib.Core.List.{List, [], ◌∷◌}
use Prim.Native.Nat.{ℕ, zero, suc, ◌≤◌, ◌<◌}
use native.Mathlib.Omega.{arith}
use lib.Dec.{eqb, leb}
use lib.IntN.{ℤ, pos, negsuc}
use lib.ListN.{drop, get_or}
use borrow.Author.Tests.{ne_eqb, leb-true}
use Rattle.std.proofs.Common.{Result, Ok, Err}
use Rattle.listing.specs.Decimals.{worth_from}
use Rattle.transactions.specs.Calls.{small}
use Rattle.notation.specs.declared.Fault.{Fault}
use Rattle.notation.specs.declared.Fault.TheVariants.{UnknownWord, NotANumber, StartMissing}
use Rattle.notation.specs.declared.Kind.{Kind}
use Rattle.notation.specs.declared.Kind.TheVariants.{Small, Start}
use Rattle.notation.specs.declared.words.Span.{Span}
use Rattle.notation.specs.Words.{words, part, NextWord}
use Rattle.notation.specs.Numerals.{all_digits, integer_of, allowed, plain_value, value_as, digits_value, number}
use Rattle.notation.specs.Forms.{names, start, kinds, same, find, operand, Sense, nothing, numbers, wrong, with, next, operands, formed, sense}
use Rattle.notation.specs.Inner.{Ranged}

-- what is no number is none
no_value : {f : Fault} {n : ℕ} {P : Type 0} → Err f ≡ Ok n → P
no_value e = absurd (let z : ◌≡◌ {A = ℕ} 0 1 = cc in omega arith)

plain_bound : (kind : Kind) (most : ℕ) (z : ℤ) (n : ℕ) → plain_value kind most z ≡ Ok n → n ≤ most
plain_bound kind most (pos m) n e = go (leb m most) refl e
  where
    go : (b : Bool) → leb m most ≡ b → allowed kind b m ≡ Ok n → n ≤ most
    go true f q = let h : m ≡ n = cc in omega (arith, leb-true m most f)
    go false f q = no_value q
plain_bound kind most (negsuc m) n e = no_value e

digits_bound : (s : Bool) (ds : List ℕ) (n : ℕ) → digits_value s Small ds ≡ Ok n → n ≤ small
digits_bound s [] n e = no_value e
digits_bound s (d ∷ ds) n e = go (all_digits (d ∷ ds)) e
  where
    go : (b : Bool) → cond b (value_as Small (integer_of s (worth_from 0 (d ∷ ds)))) (Err NotANumber) ≡ Ok n → n ≤ small
    go true q = plain_bound Small small (integer_of s (worth_from 0 (d ∷ ds))) n q
    go false q = no_value q

number_bound : (word : List ℕ) (n : ℕ) → number Small word ≡ Ok n → n ≤ small
unfolding number
number_bound [] n e = no_value e
number_bound (b ∷ bs) n e = go (eqb b 45) e
  where
    go : (t : Bool) → cond t (digits_value true Small bs) (digits_value false Small (b ∷ bs)) ≡ Ok n → n ≤ small
    go true q = digits_bound true bs n q
    go false q = digits_bound false (b ∷ bs) n q

start_zero : (word : List ℕ) (n : ℕ) → operand Start word ≡ Ok n → n ≡ 0
start_zero word n e = go (same word start) e
  where
    go : (t : Bool) → cond t (Ok 0) (Err StartMissing) ≡ Ok n → n ≡ 0
    go true q = cc
    go false q = no_value q

-- what says nothing, or is wrong, has no numbers
no_numbers : {f : Fault} {at : ℕ} {ns : List ℕ} {P : Type 0} → wrong f at ≡ numbers ns → P
no_numbers e = absurd (let z : ◌≡◌ {A = ℕ} 0 1 = cc in omega arith)

-- LAW: the numbers of words are in the ranges of their kinds
pub ranged : (ks : List Kind) (ws : List (List ℕ)) (ns : List ℕ) → operands ks ws ≡ numbers ns → Ranged ks ns
ranged [] ws ns e = tt
ranged (k ∷ ks) [] ns e = no_numbers e
ranged (k ∷ ks) (w ∷ ws) ns e = value (operand k w) refl e (λ ms q. ranged ks ws ms q)
  where
    rest : (n : ℕ) → operand k w ≡ Ok n → (s : Sense) → operands ks ws ≡ s → with n s ≡ numbers ns → ((ms : List ℕ) → operands ks ws ≡ numbers ms → Ranged ks ms) → Ranged (k ∷ ks) ns
    rest n o nothing q r again = absurd (let z : ◌≡◌ {A = ℕ} 0 1 = cc in omega arith)
    rest n o (numbers ms) q r again =
        let e : ns ≡ n ∷ ms = cc in
        rw e (λ f. number_bound w n (rw f at o), λ f. start_zero w n (rw f at o), again ms q)
    rest n o (wrong f at) q r again = no_numbers r

    value : (v : Result ℕ Fault) → operand k w ≡ v → next v (operands ks ws) ≡ numbers ns → ((ms : List ℕ) → operands ks ws ≡ numbers ms → Ranged ks ms) → Ranged (k ∷ ks) ns
    value (Ok n) o q again = rest n o (operands ks ws) refl q again
    value (Err f) o q again = no_numbers q

-- a line by its first word: none, a name that is not known, a form
pub sense_none : (line : List ℕ) (r : Span) → NextWord line 0 r → r.start ≡ r.end → nothing ≡ sense (words line)
unfolding sense
sense_none line r w e = rw (w.none e)

module _ (line : List ℕ) (r : Span) (w : NextWord line 0 r) (some : r.start < r.end) (code : ℕ) (is : code ≡ find names (part r.start r.end line)) where
  at_name : sense (words line) ≡ formed code (words (drop r.end line))
  unfolding sense
  at_name = rw (w.some some, is)

  pub sense_unknown : code ≡ 15 → wrong UnknownWord 0 ≡ sense (words line)
  sense_unknown e = sym (at_name ∙ ap (λ n. formed n (words (drop r.end line))) e)

  pub sense_form : (code ≡ 15 → ⊥) → sense (words line) ≡ with code (operands (get_or kinds code []) (words (drop r.end line)))
  sense_form e = at_name ∙ rw (ne_eqb code 15 e)

-- numbers behind a code are what stands behind it
pub uncoded : (code : ℕ) (s : Sense) (ns : List ℕ) → numbers (code ∷ ns) ≡ with code s → s ≡ numbers ns
uncoded code nothing ns e = absurd (let z : ◌≡◌ {A = ℕ} 0 1 = cc in omega arith)
uncoded code (numbers ms) ns e = let q : ms ≡ ns = cc in ap numbers q
uncoded code (wrong f at) ns e = no_numbers (sym e)

-- a word is well where one of this kind must stand
pub record Well (kind : Kind) (word : List ℕ) : Type 0 where
  pub worth : ℕ
  pub is : operand kind word ≡ Ok worth

-- LAW: the words in front of the one at fault are well: it is the first from the left
pub well_before : (d : Kind) (ks : List Kind) (ws : List (List ℕ)) (f : Fault) (n : ℕ) → operands ks ws ≡ wrong f n → (i : ℕ) → i < n → Well (get_or ks i d) (get_or ws i [])
well_before d [] [] f n e i h = no_numbers (sym e)
well_before d [] (w ∷ ws) f n e i h = absurd (let q : 0 ≡ n = cc in omega arith)
well_before d (k ∷ ks) [] f n e i h = absurd (let q : 0 ≡ n = cc in omega arith)
well_before d (k ∷ ks) (w ∷ ws) f n e i h = value (operand k w) refl e (well_before d ks ws)
  where
    rest : (m : ℕ) → operand k w ≡ Ok m → (s : Sense) → operands ks ws ≡ s → with m s ≡ wrong f n
        → ((g : Fault) (l : ℕ) → operands ks ws ≡ wrong g l → (j : ℕ) → j < l → Well (get_or ks j d) (get_or ws j [])) → Well (get_or (k ∷ ks) i d) (get_or (w ∷ ws) i [])
    rest m o nothing r q again = absurd (let z : ◌≡◌ {A = ℕ} 0 1 = cc in omega arith)
    rest m o (numbers ns) r q again = no_numbers (sym q)
    rest m o (wrong g l) r q again = at i h
      where
        at : (j : ℕ) → j < n → Well (get_or (k ∷ ks) j d) (get_or (w ∷ ws) j [])
        at zero h = record { worth = m; is = o }
        at (suc j) h = again g l r j (let z : suc l ≡ n = cc in omega arith)

    value : (v : Result ℕ Fault) → operand k w ≡ v → next v (operands ks ws) ≡ wrong f n
        → ((g : Fault) (l : ℕ) → operands ks ws ≡ wrong g l → (j : ℕ) → j < l → Well (get_or ks j d) (get_or ws j [])) → Well (get_or (k ∷ ks) i d) (get_or (w ∷ ws) i [])
    value (Ok m) o q again = rest m o (operands ks ws) refl q again
    value (Err g) o q again = absurd (let z : 0 ≡ n = cc in omega arith)
