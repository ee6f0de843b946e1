-- Laws of decimal texts: `digits n` is the one text of n, it has 1 to 20 bytes for n of 64 bits, and its digits from the last to the first.
-- Assumes nothing.
use mathlib.Core.Path.{◌≡◌, refl, sym, ap, ◌∙◌}
use mathlib.Core.List.{List, [], ◌∷◌, ◌++◌}
use Prim.Native.Nat.{ℕ, zero, suc, ◌+◌, ◌-◌, ◌*◌, ◌/◌, ◌%◌, ◌^◌, ◌≤◌, ◌<◌}
use native.Mathlib.Omega.{arith}
use native.Mathlib.Decide.{dec_lt}
use native.Mathlib.Nat.{pow-suc}
use lib.ListN.{length, length-append}
use lib.IntN.{ℤ, pos, negsuc}
use mir.Syntax.{w64}
use mir.Val.{SFits}
use borrow.Author.Tests.{lt-ltb, le-ltb}
use Rattle.lists.specs.Holds.{All}
use Rattle.lists.proofs.Holding.{all_append, all_left, all_right}
use Rattle.listing.specs.Decimals.{digit, Digit, worth_from, Plain, Decimal, digits_in, digits, integer}

-- what holds of each digit, and of n where it holds of n / 10, holds of every number
pub by_tens : (P : ℕ → Type 0) → ((n : ℕ) → n < 10 → P n) → ((n : ℕ) → 10 ≤ n → P (n / 10) → P n) → (n : ℕ) → P n
by_tens P one more n = go (suc n) n (omega arith)
  where
    go : (k n : ℕ) → n < k → P n
    go zero n h = absurd (omega arith)
    go (suc k) n h = pick (dec_lt n 10) (go k (n / 10))
      where
        pick : Dec (n < 10) → (n / 10 < k → P (n / 10)) → P n
        pick (yes l) r = one n l
        pick (no l) r = more n (omega arith) (r (omega arith))

-- any number of turns above n is enough
same_turns : (k l n : ℕ) → n < k → n < l → digits_in k n ≡ digits_in l n
same_turns zero l n h i = absurd (omega arith)
same_turns (suc k) zero n h i = absurd (omega arith)
same_turns (suc k) (suc l) n h i = go (dec_lt n 10) (same_turns k l (n / 10))
  where
    go : Dec (n < 10) → (n / 10 < k → n / 10 < l → digits_in k (n / 10) ≡ digits_in l (n / 10)) → digits_in (suc k) n ≡ digits_in (suc l) n
    go (yes s) r = rw (lt-ltb n 10 s)
    go (no s) r = rw (le-ltb n 10 (omega arith), r (omega arith) (omega arith))

-- LAW: one digit is its own text
pub digits_one : (n : ℕ) → n < 10 → digits n ≡ digit n ∷ []
unfolding digits
digits_one n h = rw (lt-ltb n 10 h)

-- LAW: the last digit stands behind the text of the others
pub digits_more : (n : ℕ) → 10 ≤ n → digits n ≡ digits (n / 10) ++ (digit (n % 10) ∷ [])
unfolding digits
digits_more n h = rw (le-ltb n 10 h, same_turns n (suc (n / 10)) (n / 10) (omega arith) (omega arith))

-- LAW: how many digits
pub count_one : (n : ℕ) → n < 10 → length (digits n) ≡ 1
count_one n h = rw (digits_one n h)

pub count_more : (n : ℕ) → 10 ≤ n → length (digits n) ≡ length (digits (n / 10)) + 1
count_more n h = rw (digits_more n h, length-append)

-- LAW: a text has at least one digit, and at most k where n is below 10 ^ k
pub digits_some : (n : ℕ) → 1 ≤ length (digits n)
digits_some =
    by_tens (λ n. 1 ≤ length (digits n)) (λ n h. omega (arith, count_one n h)) (λ n h r. omega (arith, count_more n h))

pub digits_most : (k n : ℕ) → n < 10 ^ suc k → length (digits n) ≤ suc k
digits_most zero n h = omega (arith, count_one n h)
digits_most (suc k) n h = go (dec_lt n 10) (digits_most k (n / 10))
  where
    go : Dec (n < 10) → (n / 10 < 10 ^ suc k → length (digits (n / 10)) ≤ suc k) → length (digits n) ≤ suc (suc k)
    go (yes s) r = omega (arith, count_one n s)
    go (no s) r = let q = r (omega (arith, pow-suc 10 (suc k))) in omega (arith, count_more n (omega arith))

-- LAW: 20 bytes are enough for 64 bits
pub natural_length : (n : ℕ) → n < 2 ^ 64 → length (digits n) ≤ 20
natural_length n h = digits_most 19 n (omega arith)

pub integer_length : (z : ℤ) → SFits w64 z → length (integer z) ≤ 20
unfolding integer
integer_length (pos n) f = natural_length n (omega (arith, f.sfits))
integer_length (negsuc n) f = let h = digits_most 18 (suc n) (omega (arith, f.sfits)) in omega arith

pub integer_some : (z : ℤ) → 1 ≤ length (integer z)
unfolding integer
integer_some (pos n) = digits_some n
integer_some (negsuc n) = omega arith

-- the last j digits of n, as the code puts them
abbrev pub last_digits : ℕ → ℕ → List ℕ
last_digits zero n = []
last_digits (suc j) n = last_digits j (n / 10) ++ (digit (n % 10) ∷ [])

pub last_length : (j n : ℕ) → length (last_digits j n) ≡ j
last_length zero n = refl
last_length (suc j) n = rw (length-append, last_length j (n / 10)) (omega arith)

-- LAW: as many of the last digits as there are digits are all of them
pub last_all : (n : ℕ) → last_digits (length (digits n)) n ≡ digits n
last_all = by_tens (λ n. last_digits (length (digits n)) n ≡ digits n) one more
  where
    one : (n : ℕ) → n < 10 → last_digits (length (digits n)) n ≡ digits n
    one n h = let e : n % 10 ≡ n = omega arith in rw (digits_one n h, e)

    more : (n : ℕ) → 10 ≤ n → last_digits (length (digits (n / 10))) (n / 10) ≡ digits (n / 10) → last_digits (length (digits n)) n ≡ digits n
    more n h r =
        let e : length (digits n) ≡ suc (length (digits (n / 10))) = omega (arith, count_more n h) in
        rw (e, r) (sym (digits_more n h))

-- the meaning

worth_snoc : (v : ℕ) (s : List ℕ) (d : ℕ) → worth_from v (s ++ (d ∷ [])) ≡ worth_from v s * 10 + (d - 48)
worth_snoc v [] d = refl
worth_snoc v (x ∷ s) d = worth_snoc (v * 10 + (x - 48)) s d

-- the first digit is not 0
abbrev Leads : List ℕ → Type 0
Leads [] = ⊥
Leads (d ∷ ds) = 48 < d

leads_snoc : (s : List ℕ) (d : ℕ) → Leads s → Leads (s ++ (d ∷ []))
leads_snoc [] d h = absurd h
leads_snoc (x ∷ s) d h = h

leads_plain : (s : List ℕ) → Leads s → Plain s
leads_plain [] h = h
leads_plain (x ∷ []) h = tt
leads_plain (x ∷ y ∷ s) h = h

plain_leads : (x : ℕ) (s : List ℕ) (d : ℕ) → Plain ((x ∷ s) ++ (d ∷ [])) → 48 < x
plain_leads x [] d h = h
plain_leads x (y ∷ s) d h = h

worth_some : (v : ℕ) (s : List ℕ) → 0 < v → 0 < worth_from v s
worth_some v [] h = h
worth_some v (x ∷ s) h = worth_some (v * 10 + (x - 48)) s (omega arith)

digits_leads : (n : ℕ) → 0 < n → Leads (digits n)
digits_leads =
    by_tens (λ n. 0 < n → Leads (digits n)) (λ n h p. rw (digits_one n h) (omega arith))
    (λ n h r p. rw (digits_more n h) (leads_snoc (digits (n / 10)) _ (r (omega arith))))

digits_plain : (n : ℕ) → Plain (digits n)
digits_plain zero = rw (digits_one 0 (omega arith)) tt
digits_plain (suc n) = leads_plain (digits (suc n)) (digits_leads (suc n) (omega arith))

digits_only : (n : ℕ) → All Digit (digits n)
digits_only =
    by_tens (λ n. All Digit (digits n)) (λ n h. rw (digits_one n h) ((omega arith, omega arith), tt))
    (λ n h r. rw (digits_more n h) (all_append Digit (digits (n / 10)) _ r ((omega arith, omega arith), tt)))

digits_worth : (n : ℕ) → worth_from 0 (digits n) ≡ n
digits_worth =
    by_tens (λ n. worth_from 0 (digits n) ≡ n) (λ n h. rw (digits_one n h) (omega arith))
    (λ n h r. rw (digits_more n h, worth_snoc, r) (omega arith))

-- LAW: `digits n` is a decimal text of n
pub digits_decimal : (n : ℕ) → Decimal n (digits n)
digits_decimal n = record { only = digits_only n; worth = digits_worth n; plain = digits_plain n }

-- a text from its last digit on
data Back : List ℕ → Type 0 where
  none : Back []
  back : {s : List ℕ} (d : ℕ) → Back s → Back (s ++ (d ∷ []))

back_cons : (x : ℕ) {s : List ℕ} → Back s → Back (x ∷ s)
back_cons x none = back x none
back_cons x (back d v) = back d (back_cons x v)

back_of : (s : List ℕ) → Back s
back_of [] = none
back_of (x ∷ s) = back_cons x (back_of s)

unique : {s : List ℕ} → Back s → (n : ℕ) → All Digit s → worth_from 0 s ≡ n → Plain s → s ≡ digits n
unique none n a w p = absurd p
unique (back {s} d v) n a w p = go s (λ m b u q. unique v m b u q) a w p
  where
    go : (s : List ℕ) → ((n : ℕ) → All Digit s → worth_from 0 s ≡ n → Plain s → s ≡ digits n) → All Digit (s ++ (d ∷ []))
        → worth_from 0 (s ++ (d ∷ [])) ≡ n → Plain (s ++ (d ∷ [])) → s ++ (d ∷ []) ≡ digits n
    go [] r a w p = let e : digit n ≡ d = omega (arith, a.0) in rw (digits_one n (omega (arith, a.0)), e)
    go (x ∷ s) r a w p =
        let l = plain_leads x s d p in
        let some = worth_some (0 * 10 + (x - 48)) s (omega arith) in
        let last = (all_right Digit (x ∷ s) (d ∷ []) a).0 in
        let whole = sym w ∙ worth_snoc 0 (x ∷ s) d in
        let e : n / 10 ≡ worth_from 0 (x ∷ s) = omega (arith, whole, last) in
        let f : digit (n % 10) ≡ d = omega (arith, whole, last) in
        rw (digits_more n (omega (arith, whole)), f, ← r (n / 10) (all_left Digit (x ∷ s) (d ∷ []) a) (sym e) (leads_plain (x ∷ s) l))

-- LAW: and there is no other
pub decimal_unique : (n : ℕ) (s : List ℕ) → Decimal n s → s ≡ digits n
decimal_unique n s t = unique (back_of s) n t.only t.worth t.plain

worth_same : (m n : ℕ) → digits m ≡ digits n → m ≡ n
worth_same m n e = sym (digits_worth m) ∙ ap (worth_from 0) e ∙ digits_worth n

no_sign : (n : ℕ) (s : List ℕ) → digits n ≡ 45 ∷ s → ⊥
no_sign n s e = let a : All Digit (45 ∷ s) = rw e at (digits_only n) in omega (arith, a.0)

-- LAW: different integers have different texts
pub integer_same : (y z : ℤ) → integer y ≡ integer z → y ≡ z
unfolding integer
integer_same (pos m) (pos n) e = ap pos (worth_same m n e)
integer_same (pos m) (negsuc n) e = absurd (no_sign m _ e)
integer_same (negsuc m) (pos n) e = absurd (no_sign n _ (sym e))
integer_same (negsuc m) (negsuc n) e =
    let f : digits (suc m) ≡ digits (suc n) = cc in
    let g = worth_same (suc m) (suc n) f in
    ap negsuc (omega arith)
