-- Laws of the bytes of a number: they are its written form, and the only one.
-- Assumes nothing.
use Prim.Native.Nat.{ℕ, zero, suc, ◌+◌, ◌/◌, ◌%◌, ◌^◌, ◌≤◌, ◌<◌}
use mathlib.Core.Path.{◌≡◌, refl, sym, ap, ◌∙◌}
use mathlib.Core.Logic.{◌⊎◌, ◌≢◌, inl, inr}
use mathlib.Core.List.{List, [], ◌∷◌, ◌++◌}
use native.Mathlib.Omega.{arith}
use native.Mathlib.Decide.{dec_lt}
use native.Mathlib.Nat.{pow-suc, div-lt_iff_lt-mul}
use native.Mathlib.Numerals.{add-one}
use lib.ListN.{length, set, drop, length-append, take-append-drop}
use lib.Seq.{sets, take-append_seam, length-take-le}
use borrow.Author.Tests.{lt-ltb, le-ltb}
use Rattle.lists.specs.Holds.{All}
use Rattle.groups.specs.Groups.{worth, High, Written, Stands, groups, groups_of}
use Rattle.groups.proofs.Standing.{written_same}

-- any fuel from n on is enough
low : (k n : ℕ) → n < 128 → groups k n ≡ n ∷ []
low zero n h = refl
low (suc k) n h = rw (lt-ltb n 128 h)

step : (k n : ℕ) → 128 ≤ n → groups (suc k) n ≡ (n % 128 + 128) ∷ groups k (n / 128)
step k n h = rw (le-ltb n 128 h)

enough : (k j n : ℕ) → n ≤ k → n ≤ j → groups k n ≡ groups j n
enough zero j n h i = sym (low j n (omega arith))
enough (suc k) zero n h i = low (suc k) n (omega arith)
enough (suc k) (suc j) n h i = go (dec_lt n 128) (enough k j (n / 128))
  where
    go : Dec (n < 128) → (n / 128 ≤ k → n / 128 ≤ j → groups k (n / 128) ≡ groups j (n / 128)) → groups (suc k) n ≡ groups (suc j) n
    go (yes l) ih = low (suc k) n l ∙ sym (low (suc j) n l)
    go (no g) ih = step k n (omega arith) ∙ ap {B = List ℕ} (λ l. (n % 128 + 128) ∷ l) (ih (omega arith) (omega arith)) ∙ sym (step j n (omega arith))

-- LAW: below 128 it is one byte; else the lowest group with its high bit set, and the bytes of the rest
pub groups_low : (n : ℕ) → n < 128 → groups_of n ≡ n ∷ []
unfolding groups_of
groups_low n h = low n n h

pub groups_step : (n : ℕ) → 128 ≤ n → groups_of n ≡ (n % 128 + 128) ∷ groups_of (n / 128)
unfolding groups_of
groups_step zero h = absurd (omega arith)
groups_step (suc m) h = step m (suc m) h ∙ ap {B = List ℕ} (λ l. (suc m % 128 + 128) ∷ l) (enough m (suc m / 128) (suc m / 128) (omega arith) (omega arith))

-- the written form of a number below 128 ^ (j + 1), but for its limits
record Formed (j n : ℕ) : Type 0 where
  pub front : List ℕ
  pub last : ℕ
  pub whole : groups_of n ≡ front ++ last ∷ []
  pub high : All High front
  pub low : last < 128
  pub ends : 1 ≤ n → last ≢ 0
  pub shortest : (front ≡ []) ⊎ (last ≢ 0)
  pub short : length front ≤ j
  pub value : worth (front ++ last ∷ []) ≡ n

one : (j n : ℕ) → n < 128 → Formed j n
one j n h = record {
  front = [];
  last = n;
  whole = groups_low n h;
  high = tt;
  low = h;
  ends = λ p. omega arith;
  shortest = inl refl;
  short = omega arith;
  value = omega arith;
}

more : (j n : ℕ) → 128 ≤ n → Formed j (n / 128) → Formed (suc j) n
more j n h f = record {
  front = (n % 128 + 128) ∷ f.front;
  last = f.last;
  whole = groups_step n h ∙ ap {B = List ℕ} (λ l. (n % 128 + 128) ∷ l) f.whole;
  high = (record { set = omega arith; byte = omega arith }, f.high);
  low = f.low;
  ends = λ p. f.ends (omega arith);
  shortest = inr (f.ends (omega arith));
  short = omega (arith, f.short);
  value = omega (arith, f.value);
}

formed : (j n : ℕ) → n < 128 ^ suc j → Formed j n
formed zero n h = one zero n h
formed (suc j) n h = go (dec_lt n 128) (formed j (n / 128))
  where
    go : Dec (n < 128) → (n / 128 < 128 ^ suc j → Formed j (n / 128)) → Formed (suc j) n
    go (yes l) ih = one (suc j) n l
    go (no g) ih = more j n (omega arith) (ih ((div-lt_iff_lt-mul {k = 128} (omega arith)).1 (rw (pow-suc 128 (suc j)) at h)))

-- LAW: they are the written form
pub groups_written : (n : ℕ) → n < 2 ^ 64 → Written n (groups_of n)
groups_written n h =
    let f = formed 9 n (omega arith) in
    record {
      front = f.front;
      last = f.last;
      whole = f.whole;
      high = f.high;
      low = f.low;
      shortest = f.shortest;
      short = rw (f.whole, length-append) (omega (arith, f.short));
      value = ap worth f.whole ∙ f.value;
      below = h;
    }

-- LAW: and the only one
pub written_groups : {n : ℕ} {bytes : List ℕ} → Written n bytes → bytes ≡ groups_of n
written_groups {n} {bytes} w = written_same w (groups_written n w.below)

pub groups_short : (n : ℕ) → n < 2 ^ 64 → length (groups_of n) ≤ 10
groups_short n h = (groups_written n h).short

-- LAW: a number that is written in front of any bytes stands there
pub groups_stand : (n : ℕ) (behind : List ℕ) → n < 2 ^ 64 → Stands (groups_of n ++ behind) n (length (groups_of n))
groups_stand n behind h = record {
  inside = omega (arith, length-append (groups_of n) behind);
  written = rw (take-append_seam (groups_of n) behind) (groups_written n h);
}

-- LAW: a number that stands somewhere is written there, in its bytes
pub stands_groups : {rest : List ℕ} {n len : ℕ} → Stands rest n len → (rest ≡ groups_of n ++ drop len rest) × (len ≡ length (groups_of n))
stands_groups {rest} {n} {len} s =
    let e = written_groups s.written in
    (sym (take-append-drop len rest) ∙ ap (λ (l : List ℕ). l ++ drop len rest) e, sym (length-take-le len rest s.inside) ∙ ap length e)

-- its length: one byte, or one more than that of the rest
pub length_low : (n : ℕ) → n < 128 → length (groups_of n) ≡ 1
length_low n h = ap length (groups_low n h)

pub length_step : (n : ℕ) → 128 ≤ n → length (groups_of n) ≡ suc (length (groups_of (n / 128)))
length_step n h = ap length (groups_step n h)

pub groups_some : (n : ℕ) → 1 ≤ length (groups_of n)
groups_some n = go (dec_lt n 128)
  where
    go : Dec (n < 128) → 1 ≤ length (groups_of n)
    go (yes l) = omega (arith, length_low n l)
    go (no g) = omega (arith, length_step n (omega arith))

-- stores, one byte after another
pub sets_low : (l : List ℕ) (i n : ℕ) → n < 128 → sets l i (groups_of n) ≡ set l i n
sets_low l i n h = ap (sets l i) (groups_low n h)

pub sets_step : (l : List ℕ) (i n : ℕ) → 128 ≤ n → sets l i (groups_of n) ≡ sets (set l i (n % 128 + 128)) (i + 1) (groups_of (n / 128))
sets_step l i n h = rw (add-one) (ap (sets l i) (groups_step n h))
