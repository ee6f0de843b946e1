-- Laws of the forms of a line: the code's tables, the number of a name, and the words behind a name one after another.
-- Assumes nothing.
use mathlib.Core.Path.{◌≡◌, refl, sym, ap, ◌∙◌}
use mathlib.Core.Bool.{Bool, true, false, true≢false, cond, ◌&&◌}
use mathlib.Core.List.{List, [], ◌∷◌, ◌++◌, map}
use denote.Ref.{Bor}
use Prim.Native.Nat.{ℕ, suc, ◌+◌, ◌≤◌, ◌<◌}
use native.Mathlib.Omega.{arith}
use native.Mathlib.Numerals.{add-one}
use lib.Dec.{eqb, leb}
use lib.ListN.{length, take, drop, get_or, set, length-set, drop_of_length-le, get_or-map, get_or-append}
use lib.Seq.{length-take-le, drop-cons, take-suc-set}
use borrow.Author.Tests.{eq-eqb, eqb-true, leb-true}
use lib.Pointwise.{pointwise}
use Rattle.std.proofs.Common.{Ok, Err, nat_eq}
use Rattle.std.proofs.lemmas.Bool.Decides.{same_from_decides, Decides-eqb}
use Rattle.std.proofs.lemmas.Slice.Eq.{slice_eq-Decides, compares_Decides}
use Rattle.lists.proofs.Entries.{tested_get_d}
use Rattle.notation.specs.declared.Fault.{Fault}
use Rattle.notation.specs.declared.Fault.TheVariants.{TooManyWords, StartMissing}
use Rattle.notation.specs.declared.Kind.{Kind}
use Rattle.notation.specs.declared.Kind.TheVariants.{Start}
use Rattle.notation.specs.declared.words.Span.{Span}
use Rattle.notation.specs.Words.{words, part, NextWord}
use Rattle.notation.specs.Inner.{counted}
use Rattle.notation.specs.Forms.{names, start, name_of, kinds, same, find, operand, Sense, numbers, wrong, with, next, missing, operands}

-- two words that are the same are equal, and the other way round
pub same_self : (w : List ℕ) → same w w ≡ true
same_self [] = refl
same_self (b ∷ w) = rw (eq-eqb b b refl) (same_self w)

same_equal : (v w : List ℕ) → same v w ≡ true → v ≡ w
same_equal [] [] e = refl
same_equal [] (c ∷ w) e = absurd (true≢false (sym e))
same_equal (b ∷ v) [] e = absurd (true≢false (sym e))
same_equal (b ∷ v) (c ∷ w) e = go (eqb b c) refl e (same_equal v w)
  where
    go : (t : Bool) → eqb b c ≡ t → (t && same v w) ≡ true → (same v w ≡ true → v ≡ w) → b ∷ v ≡ c ∷ w
    go true f q r = let h = eqb-true b c f in let i = r q in cc
    go false f q r = absurd (true≢false (sym q))

-- LAW: an answer that says whether they are equal
pub same_decided : (r : Bool) (v w : List ℕ) → (r ≡ true → v ≡ w) → (v ≡ w → r ≡ true) → r ≡ same v w
same_decided true v w f g = rw (f refl) (sym (same_self w))
same_decided false v w f g = go (same v w) refl
  where
    go : (t : Bool) → same v w ≡ t → false ≡ same v w
    go true e = absurd (true≢false (sym (g (same_equal v w e))))
    go false e = sym e

-- a word and the name of a number are the same, by the code's test of the name's bytes
pub same_told : (r : Bool) (word read name : List ℕ) → r ≡ pointwise nat_eq word read → read ≡ name → r ≡ same word name
same_told r word read name e f =
    let h : r ≡ pointwise nat_eq word name = rw f at e in
    same_from_decides r (same word name) (slice_eq-Decides Decides-eqb word name r h) (compares_Decides same (record { empty = refl; shorter = λ y ys. refl; longer = λ x xs. refl; heads = λ x y xs ys. refl }) word name)

-- an entry of a table of texts, as the code reads it
pub read_at : {X : Type 0} (table : List (Bor X)) (i : ℕ) (d : Bor X) (xs : List X) → map (λ r. r.now) table ≡ xs → (get_or table i d).now ≡ get_or xs i d.now
read_at {X} table i d xs e = rw (← e) (sym (get_or-map (λ (r : Bor X). r.now) table i d))

-- how many names there are, and where each stands
pub names_length : length names ≡ 15
unfolding names
names_length = refl

pub name_of_code : (code : ℕ) → code < 15 → name_of code ≡ get_or names code []
unfolding name_of
name_of_code code h = get_or-append names (start ∷ []) [] code (rw names_length h)

pub name_of_start : name_of 15 ≡ start
unfolding name_of names
name_of_start = refl

-- the number of a word, from a name on: it is that, or is behind, or no name is left
module _ (word : List ℕ) (code : ℕ) where
  step : code < 15 → find (drop code names) word ≡ cond (same word (name_of code)) 0 (suc (find (drop (code + 1) names) word))
  step h = rw (drop-cons names code [] (rw names_length h), ← name_of_code code h, add-one)

  pub find_here : code < 15 → true ≡ same word (name_of code) → find (drop code names) word ≡ 0
  find_here h e = step h ∙ rw (← e)

  pub find_behind : code < 15 → false ≡ same word (name_of code) → find (drop code names) word ≡ suc (find (drop (code + 1) names) word)
  find_behind h e = step h ∙ rw (← e)

  pub find_none : 15 ≤ code → find (drop code names) word ≡ 0
  find_none h = rw (drop_of_length-le names {i = code} (rw names_length h))

-- the word `start` where it must stand, and another
pub operand_start : (r : Bool) (word : List ℕ) → r ≡ same word (name_of 15) → r ≡ true → Ok 0 ≡ operand Start word
operand_start r word e t = let q : same word start ≡ true = sym (ap (same word) name_of_start) ∙ sym e ∙ t in rw q

pub operand_other : (r : Bool) (word : List ℕ) → r ≡ same word (name_of 15) → r ≡ false → Err StartMissing ≡ operand Start word
operand_other r word e t = let q : same word start ≡ false = sym (ap (same word) name_of_start) ∙ sym e ∙ t in rw q

-- numbers in front
abbrev pub prefixed : List ℕ → Sense → Sense
prefixed [] s = s
prefixed (n ∷ ns) s = with n (prefixed ns s)

prefixed_snoc : (ns : List ℕ) (n : ℕ) (s : Sense) → prefixed (ns ++ (n ∷ [])) s ≡ prefixed ns (with n s)
prefixed_snoc [] n s = refl
prefixed_snoc (m ∷ ns) n s = ap (with m) (prefixed_snoc ns n s)

pub prefixed_wrong : (ns : List ℕ) (f : Fault) → prefixed ns (wrong f 0) ≡ wrong f (length ns)
prefixed_wrong [] f = refl
prefixed_wrong (n ∷ ns) f = rw (prefixed_wrong ns f)

pub prefixed_numbers : (ns : List ℕ) → prefixed ns (numbers []) ≡ numbers ns
prefixed_numbers [] = refl
prefixed_numbers (n ∷ ns) = rw (prefixed_numbers ns)

-- the words behind a name, of which the first i were found: what is left of them, and what they say together
pub record Found (ks : List Kind) (line : List ℕ) (at : ℕ) (found : List ℕ) (place i : ℕ) : Type 0 where
  pub inside : place ≤ length line
  pub few : i ≤ length found
  pub says : operands ks (words (drop at line)) ≡ prefixed (take i found) (operands (drop i ks) (words (drop place line)))

module _ {ks : List Kind} {line found : List ℕ} {at place i : ℕ} (f : Found ks line at found place i) (r : Span) (w : NextWord line place r) (d : Kind) (code : ℕ) where
  -- a fault behind the words found is that of the word behind them and the name
  fault_here : (fault : Fault) (number : ℕ) → operands (drop i ks) (words (drop place line)) ≡ wrong fault 0 → number ≡ i + 1
      → wrong fault number ≡ with code (operands ks (words (drop at line)))
  fault_here fault number e n =
      let s : operands ks (words (drop at line)) ≡ wrong fault i = f.says ∙ rw e (prefixed_wrong (take i found) fault ∙ ap (wrong fault) (length-take-le i found f.few)) in
      rw (s, n, add-one)

  -- no word is left
  pub found_missing : i < length ks → r.start ≡ r.end → (fault : Fault) → fault ≡ missing (get_or ks i d) → wrong fault (i + 1) ≡ with code (operands ks (words (drop at line)))
  found_missing h e fault m = fault_here fault (i + 1) (rw (drop-cons ks i d h, w.none e) (ap (λ x. wrong x 0) (sym m))) refl

  -- the next word
  at_word : i < length ks → r.start < r.end
      → operands (drop i ks) (words (drop place line)) ≡ next (operand (get_or ks i d) (part r.start r.end line)) (operands (drop (suc i) ks) (words (drop r.end line)))
  at_word h e = rw (drop-cons ks i d h, w.some e)

  pub found_wrong : i < length ks → r.start < r.end → (fault : Fault) → operand (get_or ks i d) (part r.start r.end line) ≡ Err fault
      → wrong fault (i + 1) ≡ with code (operands ks (words (drop at line)))
  found_wrong h e fault o = fault_here fault (i + 1) (at_word h e ∙ rw o) refl

  -- all were found, and a word is left, or none
  pub found_more : (count : ℕ) → length ks ≤ i → count ≡ i → r.start < r.end → wrong TooManyWords (count + 1) ≡ with code (operands ks (words (drop at line)))
  found_more count h c e = fault_here TooManyWords (count + 1) (rw (drop_of_length-le ks h, w.some e)) (ap (λ n. n + 1) c)

  pub found_all : length ks ≤ i → r.start ≡ r.end → numbers (code ∷ take i found) ≡ with code (operands ks (words (drop at line)))
  found_all h e =
      let s : operands ks (words (drop at line)) ≡ numbers (take i found) = f.says ∙ rw (drop_of_length-le ks h, w.none e) (prefixed_numbers (take i found)) in
      rw s

module _ {ks : List Kind} {line found : List ℕ} {at place i : ℕ} (f : Found ks line at found place i) (r : Span) (w : NextWord line place r) (d : Kind) where
  pub found_next : i < length ks → i < length found → r.start < r.end → (n : ℕ) → operand (get_or ks i d) (part r.start r.end line) ≡ Ok n
      → Found ks line at (set found i n) r.end (i + 1)
  found_next h l e n o = record {
    inside = w.inside;
    few = simp length-set (omega arith);
    says = f.says ∙ ap (prefixed (take i found)) (at_word f r w d 0 h e) ∙ rw (o, add-one, take-suc-set found i n l) (sym (prefixed_snoc (take i found) n _));
  }

-- no more than three words stand behind a name, and no name has more than nine bytes
pub kinds_few : (code : ℕ) → length (get_or kinds code []) ≤ 3
unfolding kinds
kinds_few code = leb-true _ 3 (tested_get_d (λ ks. leb (length ks) 3) [] kinds refl refl code)

pub name_short : (number : ℕ) → length (name_of number) ≤ 9
unfolding name_of names start
name_short number = leb-true _ 9 (tested_get_d (λ name. leb (length name) 9) [] (names ++ (start ∷ [])) refl refl number)

-- an array of three, element by element
pub three : (found : List ℕ) → length found ≡ 3 → get_or found 0 0 ∷ get_or found 1 0 ∷ get_or found 2 0 ∷ [] ≡ found
three [] e = absurd (omega arith)
three (a ∷ []) e = absurd (omega arith)
three (a ∷ b ∷ []) e = absurd (omega arith)
three (a ∷ b ∷ c ∷ []) e = refl
three (a ∷ b ∷ c ∷ d ∷ found) e = absurd (omega arith)

-- the numbers found, as many as stand behind the name
pub counted_all : (code i : ℕ) (ks : List Kind) (found : List ℕ) → ks ≡ get_or kinds code [] → i ≡ length ks → length found ≡ 3 → counted code found ≡ take i found
counted_all code i ks found e h l = rw (three found l, ← e, h)
