-- Laws of writers to a lent buffer.
-- Assumes nothing.
use Prim.Native.Nat.{ℕ, suc, ◌+◌, ◌≤◌, ◌<◌}
use mathlib.Core.Path.{◌≡◌, refl, sym, ap, ◌∙◌}
use mathlib.Core.Bool.{Bool, true, false, cond}
use mathlib.Core.List.{List, [], ◌∷◌, ◌++◌}
use native.Mathlib.Omega.{arith}
use native.Mathlib.Nat.{zero-add, add-zero}
use lib.Dec.{leb}
use lib.ListN.{length, set, drop}
use lib.Seq.{sets, sets-eq}
use borrow.Author.Tests.{le-leb, lt-leb, leb-true}
use Rattle.std.specs.Prelude.{Result, Ok, Err}
use Rattle.groups.specs.declared.TooShort.{TooShort}
use Rattle.groups.specs.Buffers.{Writes, too_short}

-- the two answers of a writer that tests the length and then stores the bytes from 0 on
pub writes_short : (bytes before : List ℕ) → length before < length bytes → Writes bytes before before (Err too_short)
writes_short bytes before h = record { answer = rw (lt-leb (length bytes) (length before) h); buffer = rw (lt-leb (length bytes) (length before) h) }

pub writes_whole : (bytes before after : List ℕ) (r : ℕ) → length bytes ≤ length before → r ≡ length bytes → after ≡ sets before 0 bytes → Writes bytes before after (Ok r)
writes_whole bytes before after r h e f = record {
  answer = rw (le-leb (length bytes) (length before) h) (ap Ok e);
  buffer = rw (le-leb (length bytes) (length before) h) (f ∙ sets-eq bytes before 0 (omega arith) ∙ rw zero-add);
}

-- LAW: two outcomes that a writer may have are equal
pub writes_same : {bytes before a b : List ℕ} {r s : Result ℕ TooShort} → Writes bytes before a r → Writes bytes before b s → (a ≡ b) × (r ≡ s)
writes_same v w = (v.buffer ∙ sym w.buffer, v.answer ∙ sym w.answer)

-- bytes behind bytes
pub sets_append : (l : List ℕ) (i : ℕ) (xs ys : List ℕ) → sets (sets l i xs) (i + length xs) ys ≡ sets l i (xs ++ ys)
sets_append l i [] ys = ap (λ k. sets l k ys) (add-zero i)
sets_append l i (x ∷ xs) ys = let e : i + suc (length xs) ≡ suc i + length xs = omega arith in ap (λ k. sets (sets (set l i x) (suc i) xs) k ys) e ∙ sets_append (set l i x) (suc i) xs ys

-- a writer that answers a length has written the bytes
pub record Wrote_whole (bytes before after : List ℕ) (len : ℕ) : Type 0 where
  pub fits : length bytes ≤ length before
  pub answer : len ≡ length bytes
  pub buffer : after ≡ bytes ++ drop (length bytes) before

pub writes_length : {bytes before after : List ℕ} {len : ℕ} → Writes bytes before after (Ok len) → Wrote_whole bytes before after len
writes_length {bytes} {before} {after} {len} w = go (leb (length bytes) (length before)) refl w.answer w.buffer
  where
    go : (b : Bool) → leb (length bytes) (length before) ≡ b → Ok len ≡ cond b (Ok (length bytes)) (Err too_short) → after ≡ cond b (bytes ++ drop (length bytes) before) before → Wrote_whole bytes before after len
    go true e f g = record { fits = leb-true _ _ e; answer = cc; buffer = g }
    go false e f g = absurd (let z : ◌≡◌ {A = ℕ} 0 1 = cc in omega arith)
