-- Laws of texts put into a buffer one behind another, and of the texts of lines.
-- Assumes nothing.
use mathlib.Core.Path.{◌≡◌, refl, sym, ap, ◌∙◌}
use mathlib.Core.List.{List, [], ◌∷◌, ◌++◌, append_assoc, append-nil}
use Prim.Native.Nat.{ℕ, zero, suc, ◌+◌, ◌*◌, ◌^◌, ◌≤◌, ◌<◌, ◌-◌, min}
use native.Mathlib.Omega.{arith}
use native.Mathlib.Numerals.{add-one}
use lib.ListN.{length, take, set, get_or, length-append}
use borrow.Rule.Slice.PartMut.{put_mid}
use Rattle.lists.specs.Buffers.{written}
use lib.Seq.{take-suc, drop-drop}
use lib.IntN.{ℤ, pos, negsuc, nat_abs}
use mir.Syntax.{w64}
use lib.Signed.{mag}
use mir.Val.{SFits, to_z, of_z}
use mir.ValLaws.{to_z-of_z}
use Rattle.lists.proofs.Writing.{written_none, written_append, written_front, written_one}
use Rattle.listing.specs.Decimals.{digits, integer}
use Rattle.listing.specs.Lines.{spaced, paired}
use Rattle.listing.specs.Puts.{Room, longest, Put}
use Rattle.listing.proofs.Digits.{integer_length}

-- LAW: nothing is put
pub put_none_lem : (out : List ℕ) (at : ℕ) → Put out at 0 [] out at
put_none_lem out at = record { cells = sym (written_none out at); behind = omega arith; within = omega arith }

-- LAW: one byte is put
pub put_one : (out : List ℕ) (at b : ℕ) → Room out at 1 → Put out at 1 (b ∷ []) (set out at b) (at + 1)
put_one out at b h = record { cells = written_one out at b (omega arith); behind = refl; within = omega arith }

-- LAW: with more bytes allowed
pub put_wider : {out : List ℕ} {at m n : ℕ} {s last : List ℕ} {next : ℕ} → m ≤ n → Put out at m s last next → Put out at n s last next
put_wider h p = record { cells = p.cells; behind = p.behind; within = omega arith }

-- LAW: a text behind another is both as one text
pub put_then : {out : List ℕ} {at m n : ℕ} {s t mid last : List ℕ} {here next : ℕ} → Room out at m
    → Put out at m s mid here → Put mid here n t last next → Put out at (m + n) (s ++ t) last next
put_then {out} {at} {m} {n} {s} {t} {mid} {last} {here} {next} h p q =
    record {
      cells = q.cells ∙ rw (p.cells, p.behind) (written_append out at s t (omega arith));
      behind = rw (q.behind, p.behind, length-append) (omega arith);
      within = omega arith;
    }

-- LAW: what a caller shows, `&out[..next]`: what stood in front of the place, and the text
pub put_shown_lem : {out : List ℕ} {at m : ℕ} {s last : List ℕ} {next : ℕ} → Room out at m → Put out at m s last next → take next last ≡ take at out ++ s
put_shown_lem {out} {at} {m} {s} h p = rw (p.cells, p.behind) (written_front out at s (omega arith))

-- LAW: a whole word is put
pub put_copied : (out word part : List ℕ) (at : ℕ) → part ≡ word → Put out at (length word) word (put_mid at (at + length word - at) out part) (at + length word)
unfolding written
put_copied out word part at e =
    let k : at + length word - at ≡ length word = omega arith in
    record { cells = rw (e, k, drop-drop); behind = refl; within = omega arith }

-- LAW: the text of an integer by its sign
pub integer_neg : {z : ℤ} {n : ℕ} → z ≡ negsuc n → integer z ≡ 45 ∷ digits (n + 1)
unfolding integer
integer_neg {z} {n} e = rw (e, add-one)

pub integer_pos : {z : ℤ} {n : ℕ} → z ≡ pos n → integer z ≡ digits n
unfolding integer
integer_pos e = rw e

-- LAW: the magnitude by the sign
pub magnitude_neg : {z : ℤ} {m n : ℕ} → SFits w64 z → z ≡ negsuc n → m ≡ nat_abs (to_z w64 (of_z w64 z)) → m ≡ n + 1
magnitude_neg {z} {m} {n} f e h = rw (to_z-of_z w64 z f, e) at h ∙ omega arith

pub magnitude_pos : {z : ℤ} {m n : ℕ} → SFits w64 z → z ≡ pos n → m ≡ nat_abs (to_z w64 (of_z w64 z)) → m ≡ n
magnitude_pos {z} f e h = rw (to_z-of_z w64 z f, e) at h

-- LAW: `-` and the magnitude are the text of a negative integer
pub put_negative : {z : ℤ} {n : ℕ} {out mid last : List ℕ} {at here next : ℕ} → z ≡ negsuc n → Room out at (length (integer z))
    → Put out at 1 (45 ∷ []) mid here → Put mid here (length (digits (n + 1))) (digits (n + 1)) last next
    → Put out at (length (integer z)) (integer z) last next
put_negative {z} {n} e h p q =
    let l = ap length (integer_neg e) in
    rw (integer_neg e) (put_wider (omega arith) (put_then (omega arith) p q))

-- LAW: a space and the text of an integer
pub put_space : {z : ℤ} {out mid last : List ℕ} {at here next : ℕ} → SFits w64 z → Room out at (longest 1)
    → Put out at 1 (32 ∷ []) mid here → Put mid here (length (integer z)) (integer z) last next
    → Put out at (longest 1) (32 ∷ integer z) last next
put_space {z} f h p q = put_wider (omega (arith, integer_length z f)) (put_then (omega arith) p q)

pub spaced_append : (ys zs : List ℤ) → spaced (ys ++ zs) ≡ spaced ys ++ spaced zs
spaced_append [] zs = refl
spaced_append (y ∷ ys) zs = rw (spaced_append ys zs) (sym (append_assoc (32 ∷ integer y) (spaced ys) (spaced zs)))

pub spaced_one : (z : ℤ) → spaced (z ∷ []) ≡ 32 ∷ integer z
spaced_one z = append-nil (32 ∷ integer z)

-- an integer of 64 bits, as a call hands it over
abbrev handed : ℤ → ℤ
handed z = to_z w64 (of_z w64 z)

-- it is small, so it is the integer itself
abbrev Small : ℤ → Type 0
Small z = mag z < 2 ^ 63

itself : (z : ℤ) → Small z → handed z ≡ z
itself z h = to_z-of_z w64 z (record { sfits = h })

-- LAW: the next number is put
pub put_number : (zs : List ℤ) (i : ℕ) {out mid last : List ℕ} {at here next : ℕ} → Room out at (longest i) → i < length zs
    → Put out at (longest i) (spaced (take i zs)) mid here → Small (get_or zs i (pos 0)) → Put mid here (longest 1) (32 ∷ integer (handed (get_or zs i (pos 0)))) last next
    → Put out at (longest (i + 1)) (spaced (take (i + 1) zs)) last next
put_number zs i h k p m q =
    let r = rw (itself (get_or zs i (pos 0)) m) at q in
    rw (add-one i, take-suc zs i (pos 0) k, spaced_append, spaced_one) (put_wider (omega arith) (put_then h p r))

pub pairs_snoc : (ks vs : List ℤ) (i : ℕ) → i < length ks → i < length vs
    → paired (take (suc i) ks) (take (suc i) vs) ≡ paired (take i ks) (take i vs) ++ (get_or ks i (pos 0) ∷ get_or vs i (pos 0) ∷ [])
pairs_snoc [] vs i h l = absurd (omega arith)
pairs_snoc (k ∷ ks) [] i h l = absurd (omega arith)
pairs_snoc (k ∷ ks) (v ∷ vs) zero h l = refl
pairs_snoc (k ∷ ks) (v ∷ vs) (suc i) h l = ap {B = List ℤ} (λ r. k ∷ v ∷ r) (pairs_snoc ks vs i (omega arith) (omega arith))

-- LAW: the next pair is put
pub put_pair : (ks vs : List ℤ) (i j : ℕ) {k v : ℤ} {out one two last : List ℕ} {at here there next : ℕ} → j ≡ suc i → Room out at (longest (2 * i + 2))
    → (i < length ks) × (i < length vs) × ((d : ℤ) → k ≡ get_or ks i d) × ((d : ℤ) → v ≡ get_or vs i d)
    → Put out at (longest (2 * i)) (spaced (paired (take i ks) (take i vs))) one here
    → Small k → Put one here (longest 1) (32 ∷ integer (handed k)) two there
    → Small v → Put two there (longest 1) (32 ∷ integer (handed v)) last next
    → Put out at (longest (2 * j)) (spaced (paired (take j ks) (take j vs))) last next
put_pair ks vs i j {k} {v} e h t p m q n r =
    let key = rw (itself k m) at q in
    let value = rw (itself v n) at r in
    rw (e, pairs_snoc ks vs i t.0 t.1, ← t.2 (pos 0), ← t.3 (pos 0), spaced_append, spaced_one v, ← append_assoc (spaced (paired (take i ks) (take i vs))) (32 ∷ integer k) (32 ∷ integer v))
    (put_wider (omega arith) (put_then (omega arith) (put_then (omega arith) p key) value))

-- LAW: as many pairs as there are, are all of them
pub paired_all : (ks vs : List ℤ) (n : ℕ) → n ≡ min (length ks) (length vs) → paired (take n ks) (take n vs) ≡ paired ks vs
paired_all [] vs n h = let e : n ≡ 0 = omega arith in rw e
paired_all (k ∷ ks) [] n h = let e : n ≡ 0 = omega arith in rw e
paired_all (k ∷ ks) (v ∷ vs) zero h = absurd (omega arith)
paired_all (k ∷ ks) (v ∷ vs) (suc n) h = ap {B = List ℤ} (λ r. k ∷ v ∷ r) (paired_all ks vs n (omega arith))

pub put_all_pairs : (ks vs : List ℤ) {n : ℕ} {out last : List ℕ} {at next : ℕ} → n ≡ min (length ks) (length vs)
    → Put out at (longest (2 * n)) (spaced (paired (take n ks) (take n vs))) last next
    → Put out at (longest (2 * length ks)) (spaced (paired ks vs)) last next
put_all_pairs ks vs {n} e p = rw (← paired_all ks vs n e) (put_wider (omega arith) p)
