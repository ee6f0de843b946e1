-- Laws of texts put one behind another: a name, numbers each behind a space, and a line feed are a line.
-- Assumes nothing.
use mathlib.Core.Path.{◌≡◌, refl, sym, ◌∙◌}
use mathlib.Core.List.{List, [], ◌∷◌, ◌++◌, append_assoc, append-nil}
use Prim.Native.Nat.{ℕ, ◌+◌, ◌^◌, ◌≤◌, ◌<◌}
use native.Mathlib.Omega.{arith}
use lib.ListN.{length}
use lib.Seq.{sets-eq}
use lib.IntN.{ℤ, pos}
use lib.Signed.{mag}
use mir.Syntax.{w64}
use mir.Val.{SFits, to_z, of_z}
use mir.ValLaws.{to_z-of_z}
use Rattle.lists.specs.Buffers.{written}
use Rattle.std.proofs.Common.{Ok}
use Rattle.groups.specs.Buffers.{Writes}
use Rattle.groups.proofs.Writing.{writes_whole}
use Rattle.listing.specs.Decimals.{digits, integer}
use Rattle.listing.specs.Lines.{spaced, line_after}
use Rattle.listing.specs.Puts.{Room, longest, Put}
use Rattle.listing.proofs.Digits.{natural_length}
use Rattle.listing.proofs.Putting.{put_wider, put_then, spaced_append, spaced_one, integer_pos}

-- a name alone, with no number behind it yet
pub line_name : {out word last : List ℕ} {at m next : ℕ} → Put out at m word last next → Put out at m (word ++ spaced []) last next
line_name {word = word} p = rw (append-nil word) p

-- one number more behind a name and numbers, in a buffer that has room for all
pub line_number : {out mid last : List ℕ} {at m here next : ℕ} (most : ℕ) (word : List ℕ) (zs : List ℤ) (z : ℤ) → Room out at most
    → Put out at m (word ++ spaced zs) mid here → Put mid here (longest 1) (32 ∷ integer z) last next → m ≤ most
    → Put out at (m + longest 1) (word ++ spaced (zs ++ (z ∷ []))) last next
line_number most word zs z h p q k =
    rw (spaced_append zs (z ∷ []), spaced_one z, ← append_assoc word (spaced zs) (32 ∷ integer z)) (put_then (omega arith) p q)

-- a signed number as a call hands it over
pub line_signed : {out mid last : List ℕ} {at m here next : ℕ} (most : ℕ) (word : List ℕ) (zs : List ℤ) (z : ℤ) → SFits w64 z → Room out at most
    → Put out at m (word ++ spaced zs) mid here → Put mid here (longest 1) (32 ∷ integer (to_z w64 (of_z w64 z))) last next → m ≤ most
    → Put out at (m + longest 1) (word ++ spaced (zs ++ (z ∷ []))) last next
line_signed most word zs z f h p q k = line_number most word zs z h p (rw (to_z-of_z w64 z f) at q) k

-- a natural number behind a space
pub put_coin : {out mid last : List ℕ} {at here next : ℕ} (n : ℕ) → n < 2 ^ 64 → Put out at 1 (32 ∷ []) mid here
    → Put mid here (length (digits n)) (digits n) last next → Room out at 1 → Put out at (longest 1) (32 ∷ integer (pos n)) last next
put_coin n f p q h = rw (integer_pos {z = pos n} {n = n} refl) (put_wider (omega (arith, natural_length n f)) (put_then h p q))

-- the line feed
pub line_end : {out mid last : List ℕ} {at m most here next : ℕ} (word : List ℕ) (zs : List ℤ) → Room out at most
    → Put out at m (word ++ spaced zs) mid here → Put mid here 1 (10 ∷ []) last next → m + 1 ≤ most → Put out at most (line_after word zs) last next
unfolding line_after
line_end word zs h p q k = rw (← append_assoc word (spaced zs) (10 ∷ [])) (put_wider k (put_then (omega arith) p q))

-- a signed number as it comes out of a call, or as a call hands it on
pub handed : (z : ℤ) → mag z < 9223372036854775808 → to_z w64 (of_z w64 z) ≡ z
handed z f = to_z-of_z w64 z (record { sfits = f })

-- LAW: a text that is put at the front of a buffer is written there
pub put_writes : {before after text : List ℕ} {r : ℕ} → length text ≤ length before → Put before 0 (length text) text after r → Writes text before after (Ok r)
unfolding written
put_writes {before} {after} {text} {r} h p =
    let e : 0 + length text ≡ length text = omega arith in
    writes_whole text before after r h (p.behind ∙ e) (p.cells ∙ sym (sets-eq text before 0 (omega arith)))
