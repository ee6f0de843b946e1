-- Laws of lines: from the parts that the code puts to the line, and how long a line is.
-- Assumes nothing.
use mathlib.Core.Path.{◌≡◌, refl, ap, ◌∙◌}
use mathlib.Core.List.{List, [], ◌∷◌, ◌++◌, append_assoc}
use Prim.Native.Nat.{ℕ, ◌+◌, ◌*◌, ◌^◌, ◌≤◌, ◌<◌}
use native.Mathlib.Omega.{arith}
use lib.ListN.{length, length-append}
use lib.IntN.{ℤ, pos}
use Rattle.lists.specs.Holds.{All}
use Rattle.listing.specs.Decimals.{digits, integer}
use Rattle.listing.specs.Lines.{spaced, line_after, line}
use Rattle.listing.specs.Puts.{Room, longest, Put}
use Rattle.listing.proofs.Digits.{natural_length}
use Rattle.listing.proofs.Putting.{put_wider, put_then, spaced_append, spaced_one, integer_pos}

-- LAW: a word and a line feed
pub put_word_line_lem : {word out mid last : List ℕ} {at here next : ℕ} → Room out at (length word + 1)
    → Put out at (length word) word mid here → Put mid here 1 (10 ∷ []) last next → Put out at (length word + 1) (line_after word []) last next
unfolding line_after
put_word_line_lem h p q = put_then (omega arith) p q

-- LAW: a word, a space, a number and a line feed
pub put_number_line_lem : {word out one two three last : List ℕ} {n at first second third next : ℕ} → n < 2 ^ 64 → Room out at (length word + longest 1 + 1)
    → Put out at (length word) word one first → Put one first 1 (32 ∷ []) two second
    → Put two second (length (digits n)) (digits n) three third → Put three third 1 (10 ∷ []) last next
    → Put out at (length word + longest 1 + 1) (line_after word (pos n ∷ [])) last next
unfolding line_after
put_number_line_lem {word} {n = n} f h p q r s =
    let l = natural_length n f in
    let all = put_then (omega arith) (put_then (omega arith) (put_then (omega arith) p q) r) s in
    let e : word ++ (spaced (pos n ∷ []) ++ (10 ∷ [])) ≡ ((word ++ (32 ∷ [])) ++ digits n) ++ (10 ∷ []) =
    ap (λ t. word ++ (t ++ (10 ∷ []))) (spaced_one (pos n)) ∙ rw (integer_pos {z = pos n} {n = n} refl) (simp append_assoc) in
    rw e (put_wider (omega arith) all)

-- LAW: a number, numbers, pairs and a line feed
pub put_line_lem : (zs ps : List ℤ) (c d : ℕ) {out one two three last : List ℕ} {n at first second third next : ℕ} → n < 2 ^ 64
    → Room out at (longest (1 + c + 2 * d)) → Put out at (length (digits n)) (digits n) one first → Put one first (longest c) (spaced zs) two second
    → Put two second (longest (2 * d)) (spaced ps) three third → Put three third 1 (10 ∷ []) last next
    → Put out at (longest (1 + c + 2 * d)) (line (pos n ∷ (zs ++ ps))) last next
unfolding line line_after
put_line_lem zs ps c d {n = n} f h p q r s =
    let l = natural_length n f in
    let all = put_then (omega arith) (put_then (omega arith) (put_then (omega arith) p q) r) s in
    let e : integer (pos n) ++ (spaced (zs ++ ps) ++ (10 ∷ [])) ≡ ((digits n ++ spaced zs) ++ spaced ps) ++ (10 ∷ []) =
    rw (integer_pos {z = pos n} {n = n} refl, spaced_append zs ps) (simp append_assoc) in
    rw e (put_wider (omega arith) all)

-- an integer whose text takes no more than 20 bytes, as every one of 64 bits does (natural_length, integer_length)
abbrev pub Short : ℤ → Type 0
Short z = length (integer z) ≤ 20

pub spaced_length : (zs : List ℤ) → All Short zs → length (spaced zs) ≤ longest (length zs)
spaced_length [] a = omega arith
spaced_length (z ∷ zs) a = rw (length-append (32 ∷ integer z) (spaced zs)) (omega (arith, a.0, spaced_length zs a.1))

-- LAW: how long a line is at most
pub word_line_length : (word : List ℕ) (zs : List ℤ) → All Short zs → length (line_after word zs) ≤ length word + longest (length zs) + 1
unfolding line_after
word_line_length word zs a = rw (length-append, length-append) (omega (arith, spaced_length zs a))

pub line_length : (z : ℤ) (zs : List ℤ) → All Short (z ∷ zs) → length (line (z ∷ zs)) ≤ longest (length (z ∷ zs))
unfolding line
line_length z zs a = omega (arith, a.0, word_line_length (integer z) zs a.1)
