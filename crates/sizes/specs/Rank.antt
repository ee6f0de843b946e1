-- A signed key as an unsigned rank, and its bucket.
-- Assumes nothing.
use Rattle.std.specs.Prelude.{ℕ, suc, ◌+◌, ◌-◌, ◌%◌, cond, ltb, ℤ, pos, negsuc}

-- the key and 2 ^ 63
abbrev pub rank_of : ℤ → ℕ
rank_of (pos n) = n + 9223372036854775808
rank_of (negsuc n) = 9223372036854775807 - n

-- the key of a rank
abbrev pub key_of : ℕ → ℤ
key_of r = cond (ltb r 9223372036854775808) (negsuc (9223372036854775807 - r)) (pos (r - 9223372036854775808))

-- the 64-bit pattern of a signed key, read unsigned: the key where it is not negative, else 2 ^ 64 and the key
abbrev pub pattern_of : ℤ → ℕ
pattern_of (pos n) = n
pattern_of (negsuc n) = 18446744073709551616 - suc n

-- the bucket, of n buckets, of the key with this rank
unfoldable pub bucket_of : ℕ → ℕ → ℕ
bucket_of r n = pattern_of (key_of r) % n
