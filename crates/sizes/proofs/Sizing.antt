-- Laws of the table: its rule at each entry, from one test of the whole table; and the search as the first entry of the capacity.
-- Assumes nothing.
use Prim.Native.Nat.{ℕ, ◌*◌, ◌^◌, ◌<◌, ◌≤◌}
use mathlib.Core.Path.{◌≡◌, refl, ap}
use mathlib.Core.Bool.{Bool, true, false}
use mathlib.Core.List.{List, [], ◌∷◌}
use lib.Dec.{T, leb, eqb, leb→le, eqb→eq}
use borrow.Author.Tests.{eqb-true, le-leb}
use native.Mathlib.Omega.{arith}
use Rattle.lists.specs.Filters.{filter, empty, count}
use Rattle.lists.specs.Members.{In}
use Rattle.lists.proofs.Tallies.{filter_in, count_in_lem}
use Rattle.sizes.specs.declared.Size.{Size}
use Rattle.std.specs.Prelude.{cond, Some}
use Rattle.std.specs.List.{find}
use Rattle.sizes.specs.Sizes.{sizes, seek, size_of, is_prime, Rule, Ruled}

abbrev both : Bool → Bool → Bool
both true b = b
both false b = false

left : (a b : Bool) → T (both a b) → T a
left true b t = tt
left false b t = t

right : (a b : Bool) → T (both a b) → T b
right true b t = t
right false b t = absurd t

-- the prime numbers below n with which the fill of a capacity is at most 7/10
abbrev filling : ℕ → ℕ → Bool
filling c b = both (leb (c * 10) (b * 7)) (is_prime b)

abbrev smaller : ℕ → ℕ → List ℕ
smaller c n = filter (filling c) (count 0 n)

-- the rule as a test, and the test of every entry
abbrev least_prime : Size → Bool
least_prime s = both (is_prime s.buckets) (empty (smaller s.capacity s.buckets))

abbrev ruled : Size → Bool
ruled s =
    both (eqb s.capacity (2 ^ s.levels))
    (both (leb (s.capacity * 10) (s.buckets * 7))
    (both (leb 64 s.capacity) (both (leb s.capacity 4096) (both (leb 6 s.levels) (both (leb s.levels 12) (both (leb s.buckets 5857) (least_prime s)))))))

abbrev every : List Size → Bool
every [] = true
every (s ∷ ss) = both (ruled s) (every ss)

is_true : (b : Bool) → T b → b ≡ true
is_true true t = refl
is_true false t = absurd t

-- no smaller number is prime and fills the table so
none_smaller : (c n : ℕ) → T (empty (smaller c n)) → (b : ℕ) → b < n → c * 10 ≤ b * 7 → is_prime b ≡ false
none_smaller c n t b l f = go (is_prime b) refl
  where
    gone : (xs : List ℕ) → T (empty xs) → In b xs → ⊥
    gone [] t i = i
    gone (x ∷ xs) t i = t

    go : (p : Bool) → is_prime b ≡ p → p ≡ false
    go false e = refl
    go true e = absurd (gone (smaller c n) t (filter_in (filling c) b (count 0 n) (count_in_lem n b l) (rw (le-leb (c * 10) (b * 7) f, e))))

rule : (s : Size) → T (ruled s) → Rule s
rule s t =
    let t1 = right (eqb s.capacity (2 ^ s.levels)) _ t in
    let t2 = right (leb (s.capacity * 10) (s.buckets * 7)) _ t1 in
    let t3 = right (leb 64 s.capacity) _ t2 in
    let t4 = right (leb s.capacity 4096) _ t3 in
    let t5 = right (leb 6 s.levels) _ t4 in
    let t6 = right (leb s.levels 12) _ t5 in
    let t7 = right (leb s.buckets 5857) _ t6 in
    record {
      power = eqb→eq _ _ (left (eqb s.capacity (2 ^ s.levels)) _ t);
      fill = leb→le _ _ (left (leb (s.capacity * 10) (s.buckets * 7)) _ t1);
      least = leb→le _ _ (left (leb 64 s.capacity) _ t2);
      most = leb→le _ _ (left (leb s.capacity 4096) _ t3);
      low = leb→le _ _ (left (leb 6 s.levels) _ t4);
      high = leb→le _ _ (left (leb s.levels 12) _ t5);
      wide = leb→le _ _ (left (leb s.buckets 5857) _ t6);
      prime = is_true (is_prime s.buckets) (left (is_prime s.buckets) _ t7);
      smallest = none_smaller s.capacity s.buckets (right (is_prime s.buckets) _ t7);
    }

sought : (ss : List Size) → T (every ss) → (c : ℕ) (s : Size) → seek ss c ≡ Some s → Ruled s c
sought [] t c s e = let z : ◌≡◌ {A = ℕ} 0 1 = cc in absurd (omega arith)
sought (x ∷ xs) t c s e = go (eqb x.capacity c) refl (sought xs (right (ruled x) (every xs) t) c s)
  where
    go : (b : Bool) → eqb x.capacity c ≡ b → (seek xs c ≡ Some s → Ruled s c) → Ruled s c
    go true f r =
        let g : Some x ≡ Some s = rw f at e in
        let h : x ≡ s = cc in
        let w : Ruled x c = record { asked = eqb-true _ _ f; rule = rule x (left (ruled x) (every xs) t) } in
        rw h at w
    go false f r = r (rw f at e)

-- LAW: the rule holds of each size that the table has. The test of the whole table is computed once, `tt`.
pub size_rule : (c : ℕ) (s : Size) → size_of c ≡ Some s → Ruled s c
unfolding size_of is_prime
size_rule c s e = sought sizes tt c s e

-- the search is the first entry of the capacity
pub seek_finds : (ss : List Size) (c : ℕ) → find (λ (s : Size). eqb s.capacity c) ss ≡ seek ss c
seek_finds [] c = refl
seek_finds (s ∷ ss) c = ap (cond (eqb s.capacity c) (Some s)) (seek_finds ss c)
