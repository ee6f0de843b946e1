-- A text written to a part of a buffer is written to the buffer.
-- Assumes nothing.
use mathlib.Core.Path.{◌≡◌, sym, ap, ◌∙◌}
use mathlib.Core.List.{List, ◌++◌, append_assoc}
use Prim.Native.Nat.{ℕ, ◌+◌, ◌≤◌}
use native.Mathlib.Omega.{arith}
use lib.ListN.{length, take, drop, length-drop, take-append-drop}
use lib.Seq.{length-take-le, drop-append-le, drop-drop}
use Rattle.lists.specs.Buffers.{written}

module _ {A : Type 0} where
  -- a list from n on, where its first k stand apart
  rejoin : (n k : ℕ) (l : List A) → n ≤ k → k ≤ length l → drop n (take k l) ++ drop k l ≡ drop n l
  rejoin n k l h m =
      let e = length-take-le k l m in
      sym (drop-append-le n (take k l) (drop k l) (omega arith)) ∙ ap (drop n) (take-append-drop k l)

  -- LAW: at the front of the first k
  pub front_written : (out : List A) (k : ℕ) (xs : List A) → length xs ≤ k → k ≤ length out → written (take k out) 0 xs ++ drop k out ≡ written out 0 xs
  unfolding written
  front_written out k xs h m =
      let e : 0 + length xs ≡ length xs = omega arith in
      rw (e, append_assoc xs (drop (length xs) (take k out)) (drop k out), rejoin (length xs) k out h m)

  -- LAW: at the front of the k places from `at` on
  pub part_written : (out : List A) (at k : ℕ) (xs : List A) → length xs ≤ k → at + k ≤ length out → take at out ++ (written (take k (drop at out)) 0 xs ++ drop k (drop at out)) ≡ written out at xs
  unfolding written
  part_written out at k xs h m =
      let l = length-drop at out in
      let e : 0 + length xs ≡ length xs = omega arith in
      ap (λ z. take at out ++ z) (front_written (drop at out) k xs h (omega arith)) ∙ rw (e, drop-drop (length xs) at out)
