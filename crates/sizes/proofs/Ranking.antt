-- Laws of ranks and buckets.
-- Assumes nothing.
use Prim.Native.Nat.{ℕ, suc, ◌+◌, ◌-◌, ◌*◌, ◌/◌, ◌^◌, ◌%◌, ◌≤◌, ◌<◌}
use mathlib.Core.Path.{◌≡◌, refl, sym, ap, ◌∙◌}
use mathlib.Core.Bool.{not}
use native.Mathlib.Omega.{arith}
use native.Mathlib.Decide.{dec_lt, dec_le}
use native.Mathlib.Nat.{mod-lt}
use lib.Dec.{T, ltb, leb, leb→le, ltb→lt}
use lib.IntN.{ℤ, pos, negsuc}
use lib.Signed.{lt_z, le_z}
use mir.Syntax.{w64}
use mir.Val.{SFits, to_z}
use mir.ValLaws.{to_z_pos, to_z-neg}
use borrow.Author.Tests.{lt-ltb, le-ltb, le-leb, lt-leb}
use Rattle.sizes.specs.Rank.{rank_of, key_of, pattern_of, bucket_of}

-- LAW: ranks stand in the order of the keys
pub rank_le : (a b : ℤ) → SFits w64 a → SFits w64 b → T (le_z a b) → rank_of a ≤ rank_of b
rank_le (pos a) (pos b) f g h = omega (arith, leb→le a b h)
rank_le (pos a) (negsuc b) f g h = absurd h
rank_le (negsuc a) (pos b) f g h = omega arith
rank_le (negsuc a) (negsuc b) f g h = omega (arith, leb→le b a h)

pub rank_lt : (a b : ℤ) → SFits w64 a → SFits w64 b → T (lt_z a b) → rank_of a < rank_of b
rank_lt (pos a) (pos b) f g h = omega (arith, ltb→lt a b h)
rank_lt (pos a) (negsuc b) f g h = absurd h
rank_lt (negsuc a) (pos b) f g h = omega (arith, f.sfits)
rank_lt (negsuc a) (negsuc b) f g h = omega (arith, ltb→lt b a h, f.sfits, g.sfits)

-- LAW: the key of a rank, and the rank of a key
pub key_rank : (z : ℤ) → SFits w64 z → key_of (rank_of z) ≡ z
key_rank (pos n) f = rw (le-ltb (n + 9223372036854775808) 9223372036854775808 (omega arith)) (ap pos (omega arith))
key_rank (negsuc n) f = rw (lt-ltb (9223372036854775807 - n) 9223372036854775808 (omega arith)) (ap negsuc (omega (arith, f.sfits)))

pub key_low : (r : ℕ) → r < 9223372036854775808 → to_z w64 (18446744073709551615 - (9223372036854775807 - r)) ≡ key_of r
key_low r h =
    let k = 9223372036854775807 - r in
    let q : 18446744073709551615 - (9223372036854775807 - r) ≡ 18446744073709551616 - suc (9223372036854775807 - r) = omega arith in
    rw (q, lt-ltb r 9223372036854775808 h) (to_z-neg w64 (9223372036854775807 - r) (omega arith))

pub key_high : (r : ℕ) → r < 2 ^ 64 → 9223372036854775808 ≤ r → to_z w64 (r - 9223372036854775808) ≡ key_of r
key_high r f h = rw (le-ltb r 9223372036854775808 h) (to_z_pos w64 (r - 9223372036854775808) (omega arith))

-- LAW: over the signed key
pub bucket_key : (z : ℤ) (n : ℕ) → SFits w64 z → bucket_of (rank_of z) n ≡ pattern_of z % n
unfolding bucket_of
bucket_key z n f = ap (λ (k : ℤ). pattern_of k % n) (key_rank z f)

-- the rank's top bit is turned
pub pattern_low : (r : ℕ) → r < 9223372036854775808 → r + 9223372036854775808 ≡ pattern_of (key_of r)
pattern_low r h =
    let e : r + 9223372036854775808 ≡ 18446744073709551616 - suc (9223372036854775807 - r) = omega arith in
    rw (lt-ltb r 9223372036854775808 h, e)

pub pattern_high : (r : ℕ) → 9223372036854775808 ≤ r → r - 9223372036854775808 ≡ pattern_of (key_of r)
pattern_high r h = rw (le-ltb r 9223372036854775808 h)

-- the bucket by the pattern
pub bucket_pattern : (p r n : ℕ) → p ≡ pattern_of (key_of r) → p % n ≡ bucket_of r n
unfolding bucket_of
bucket_pattern p r n e = ap (λ k. k % n) e

-- a remainder of a number by its halves
pub by_halves : (p m d r : ℕ) → r ≡ (p / 4294967296 * 4294967296 + p % 4294967296) % d → m ≡ d → r ≡ p % m
by_halves p m d r e s =
    let h : p / 4294967296 * 4294967296 + p % 4294967296 ≡ p = omega arith in
    e ∙ ap (λ k. k % d) h ∙ sym (ap (λ k. p % k) s)

-- LAW: it is one of the buckets
pub bucket_lt : (r n : ℕ) → 0 < n → bucket_of r n < n
unfolding bucket_of
bucket_lt r n h = mod-lt (pattern_of (key_of r)) h

-- LAW: keys stand in the order of their ranks, and no two ranks have one key
pub keys_leb : (a b : ℕ) → le_z (key_of a) (key_of b) ≡ leb a b
keys_leb a b = go (dec_lt a 9223372036854775808) (dec_lt b 9223372036854775808) (dec_le a b)
  where
    go : Dec (a < 9223372036854775808) → Dec (b < 9223372036854775808) → Dec (a ≤ b) → le_z (key_of a) (key_of b) ≡ leb a b
    go (yes p) (yes q) (yes r) =
        rw (lt-ltb a _ p, lt-ltb b _ q, le-leb a b r) (le-leb (9223372036854775807 - b) (9223372036854775807 - a) (omega arith))
    go (yes p) (yes q) (no r) =
        rw (lt-ltb a _ p, lt-ltb b _ q, lt-leb a b (omega arith)) (lt-leb (9223372036854775807 - b) (9223372036854775807 - a) (omega arith))
    go (yes p) (no q) r = rw (lt-ltb a _ p, le-ltb b 9223372036854775808 (omega arith), le-leb a b (omega arith))
    go (no p) (yes q) r = rw (le-ltb a 9223372036854775808 (omega arith), lt-ltb b _ q, lt-leb a b (omega arith))
    go (no p) (no q) (yes r) =
        rw (le-ltb a 9223372036854775808 (omega arith), le-ltb b 9223372036854775808 (omega arith), le-leb a b r)
        (le-leb (a - 9223372036854775808) (b - 9223372036854775808) (omega arith))
    go (no p) (no q) (no r) =
        rw (le-ltb a 9223372036854775808 (omega arith), le-ltb b 9223372036854775808 (omega arith), lt-leb a b (omega arith))
        (lt-leb (a - 9223372036854775808) (b - 9223372036854775808) (omega arith))

-- not above is below, of integers and of their ranks
turned : (x y : ℤ) → lt_z x y ≡ not (le_z y x)
turned (pos a) (pos b) = natural a b
  where
    natural : (m n : ℕ) → ltb m n ≡ not (leb n m)
    natural m n = go (dec_lt m n)
      where
        go : Dec (m < n) → ltb m n ≡ not (leb n m)
        go (yes h) = rw (lt-ltb m n h, lt-leb n m h)
        go (no h) = rw (le-ltb m n (omega arith), le-leb n m (omega arith))
turned (pos a) (negsuc b) = refl
turned (negsuc a) (pos b) = refl
turned (negsuc a) (negsuc b) = go (dec_lt b a)
  where
    go : Dec (b < a) → ltb b a ≡ not (leb a b)
    go (yes h) = rw (lt-ltb b a h, lt-leb a b h)
    go (no h) = rw (le-ltb b a (omega arith), le-leb a b (omega arith))

pub keys_ltb : (a b : ℕ) → lt_z (key_of a) (key_of b) ≡ ltb a b
keys_ltb a b = turned (key_of a) (key_of b) ∙ (ap not (keys_leb b a) ∙ sym (turned (pos a) (pos b)))
