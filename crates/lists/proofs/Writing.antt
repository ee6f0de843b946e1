-- Laws of `written`, a text in a buffer.
-- Assumes nothing.
use mathlib.Core.Path.{◌≡◌, sym, ◌∙◌}
use mathlib.Core.List.{List, [], ◌∷◌, ◌++◌, append_assoc}
use Prim.Native.Nat.{ℕ, suc, ◌+◌, ◌≤◌, ◌<◌}
use native.Mathlib.Omega.{arith}
use lib.ListN.{length, take, drop, set, length-set, length-append, length-take, length-drop, take-append-drop}
use lib.Seq.{take_at, drop_at, drop-drop, drop-cons, take-set-le, drop-set-lt, get_or-set_same, set_split}
use Rattle.lists.specs.Buffers.{written}

module _ {A : Type 0} where
  pub written_none : (out : List A) (at : ℕ) → written out at [] ≡ out
  unfolding written
  written_none out at = let e : at + 0 ≡ at = omega arith in rw e (take-append-drop at out)

  pub written_length : (out : List A) (at : ℕ) (s : List A) → at + length s ≤ length out → length (written out at s) ≡ length out
  unfolding written
  written_length out at s h = simp (length-append, length-take, length-drop) (omega arith)

  front : (out : List A) (at : ℕ) (s : List A) → at + length s ≤ length out → length (take at out ++ s) ≡ at + length s
  front out at s h = simp (length-append, length-take) (omega arith)

  -- LAW: what stands in front, with the text; and what stands behind it
  pub written_front : (out : List A) (at : ℕ) (s : List A) → at + length s ≤ length out → take (at + length s) (written out at s) ≡ take at out ++ s
  unfolding written
  written_front out at s h = rw (← append_assoc (take at out) s (drop (at + length s) out)) (take_at _ _ _ (front out at s h))

  pub written_behind : (out : List A) (at : ℕ) (s : List A) → at + length s ≤ length out → drop (at + length s) (written out at s) ≡ drop (at + length s) out
  unfolding written
  written_behind out at s h = rw (← append_assoc (take at out) s (drop (at + length s) out)) (drop_at (take at out ++ s) _ _ (front out at s h))

  -- LAW: one text behind another is both as one text
  pub written_append : (out : List A) (at : ℕ) (s t : List A) → at + length s ≤ length out
      → written (written out at s) (at + length s) t ≡ written out at (s ++ t)
  unfolding written
  written_append out at s t h =
      let e : at + length s + length t ≡ at + length (s ++ t) = rw (length-append s t) (omega arith) in
      let b : drop (at + length s + length t) (written out at s) ≡ drop (at + length (s ++ t)) out =
      sym (drop-drop (length t) (at + length s) (written out at s)) ∙ rw (written_behind out at s h, drop-drop, e) in
      rw (written_front out at s h, b) (simp append_assoc)

  pub written_one : (out : List A) (at : ℕ) (b : A) → at < length out → set out at b ≡ written out at (b ∷ [])
  unfolding written
  written_one out at b h = let e : at + 1 ≡ suc at = omega arith in rw e (set_split out at b h)

  -- LAW: the text's last element may be set first
  pub written_last : (out : List A) (at : ℕ) (s : List A) (d : A) → at + length s < length out
      → written (set out (at + length s) d) at s ≡ written out at (s ++ (d ∷ []))
  unfolding written
  written_last out at s d h =
      let e : at + length (s ++ (d ∷ [])) ≡ suc (at + length s) = rw (length-append s (d ∷ [])) (omega arith) in
      rw
      (e, take-set-le at out (at + length s) d (omega arith), drop-cons (set out (at + length s) d) (at + length s) d (simp length-set h), get_or-set_same out (at + length s) d d h, drop-set-lt (suc (at + length s)) out (at + length s) d (omega arith))
      (simp append_assoc)
