-- Laws of the reader's loop: what is known after some first bytes whose high bit is set, and what each byte then tells.
-- Assumes nothing.
use Prim.Native.Nat.{ℕ, zero, suc, ◌+◌, ◌-◌, ◌*◌, ◌%◌, ◌^◌, ◌≤◌, ◌<◌}
use mathlib.Core.Path.{◌≡◌, refl, sym, ap, ap₂, subst, subst₂, ◌∙◌}
use mathlib.Core.Logic.{◌⊎◌, ◌≢◌, inl, inr, ⊎_elim}
use mathlib.Core.List.{List, [], ◌∷◌, ◌++◌, append_assoc}
use native.Mathlib.Omega.{arith}
use native.Mathlib.Numerals.{add-one}
use native.Mathlib.Nat.{pow-suc, pow-le-pow_right, mul-le-mul, mod-eq_of_lt}
use lib.ListN.{length, get_or, take, drop, take-append-drop, length-append}
use lib.Seq.{take-suc, length-take-le}
use Rattle.lists.specs.Holds.{All}
use Rattle.lists.proofs.Holding.{all_append, all_at, all_left}
use Rattle.groups.specs.Groups.{worth, High, Begun, Stands, Neither}
use Rattle.groups.proofs.Standing.{worth_lt, worth_snoc, same_end, opened}

-- count bytes are behind, each with its high bit set
pub record Going (rest : List ℕ) (sum power count : ℕ) : Type 0 where
  pub inside : count ≤ length rest
  pub few : count ≤ 9
  pub powers : power ≡ 128 ^ count
  pub sums : sum ≡ worth (take count rest)
  pub high : All High (take count rest)

pub going_none : (rest : List ℕ) → Going rest 0 1 0
going_none rest = record { inside = omega arith; few = omega arith; powers = refl; sums = refl; high = tt }

-- what holds of the first k bytes holds of one among them
among : (P : ℕ → Type 0) (f : List ℕ) (x : ℕ) (t : List ℕ) (k : ℕ) → length f < k → All P (take k (f ++ x ∷ t)) → P x
among P [] x t zero h a = absurd (omega arith)
among P [] x t (suc k) h a = a.0
among P (y ∷ f) x t zero h a = absurd (omega arith)
among P (y ∷ f) x t (suc k) h a = among P f x t k (omega arith) a.1

module _ {rest : List ℕ} {sum power count : ℕ} (g : Going rest sum power count) where
  -- the sum is below the power, and the power is small before the tenth byte
  pub going_below : sum < power
  going_below = rw (g.powers, g.sums) (let e = length-take-le count rest g.inside in rw e at (worth_lt (take count rest)))

  pub going_small : count ≢ 9 → power ≤ 2 ^ 56
  going_small n = rw g.powers (let h : count ≤ 8 = omega (arith, g.few) in pow-le-pow_right {n = 128} (omega arith) h)

-- the byte behind those is b
pub record Met (rest : List ℕ) (sum power count b : ℕ) : Type 0 where
  pub going : Going rest sum power count
  pub more : count < length rest
  pub is : get_or rest count 0 ≡ b
  pub byte : b < 256

module _ {rest : List ℕ} {sum power count b : ℕ} (h : Met rest sum power count b) where
  one_more : take (suc count) rest ≡ take count rest ++ b ∷ []
  one_more = take-suc rest count 0 h.more ∙ ap (λ (x : ℕ). take count rest ++ x ∷ []) h.is

  -- the sum with this byte's group
  next_worth : worth (take (suc count) rest) ≡ sum + b % 128 * power
  next_worth = ap worth one_more ∙ worth_snoc (take count rest) b ∙ rw (h.going.powers, h.going.sums, length-take-le count rest h.going.inside)

  next_length : length (take (suc count) rest) ≡ suc count
  next_length = length-take-le (suc count) rest h.more

  -- the first byte whose high bit is not set: a number that stands there ends here
  ends_here : {n len : ℕ} → b < 128 → (w : Stands rest n len) → (take count rest ≡ w.written.front) × (b ≡ w.written.last)
  ends_here {n} {len} low w =
      let e : rest ≡ take count rest ++ b ∷ drop (suc count) rest = sym (take-append-drop (suc count) rest) ∙ ap (λ (l : List ℕ). l ++ drop (suc count) rest) one_more ∙ append_assoc (take count rest) (b ∷ []) (drop (suc count) rest) in
      same_end (take count rest) w.written.front b w.written.last (drop (suc count) rest) (drop len rest) h.going.high w.written.high low w.written.low (sym e ∙ opened w)

  pub low_over : b < 128 → Begun rest → ⊥
  low_over low w =
      let e : rest ≡ (take count rest ++ b ∷ []) ++ drop (suc count) rest = sym (take-append-drop (suc count) rest) ∙ ap (λ (l : List ℕ). l ++ drop (suc count) rest) one_more in
      let a = all_at High (take count rest) b [] (all_left High (take count rest ++ b ∷ []) (drop (suc count) rest) (rw e at w.high)) in
      omega (arith, a.set)

  -- a byte that ends a number
  pub going_of : b < 128 → (count ≡ 0) ⊎ (b ≢ 0) → sum + b * power < 2 ^ 64 → Stands rest (sum + b * power) (count + 1)
  going_of low short fits =
      record {
        inside = omega arith;
        written = rw (add-one) (record {
          front = take count rest;
          last = b;
          whole = one_more;
          high = h.going.high;
          low = low;
          shortest = ⊎_elim (λ e. inl (ap (λ k. take k rest) e)) (λ n. inr n) short;
          short = rw next_length (omega (arith, h.going.few));
          value = next_worth ∙ ap (λ x. sum + x * power) (mod-eq_of_lt low);
          below = fits;
        });
      }

  -- the number of one byte
  pub going_one : b < 128 → count ≡ 0 → Stands rest b 1
  going_one low e =
      let p : power ≡ 1 = h.going.powers ∙ ap (λ k. 128 ^ k) e in
      let s : sum ≡ 0 = h.going.sums ∙ ap (λ k. worth (take k rest)) e in
      let v : sum + b * power ≡ b = rw (p, s) (omega arith) in
      let l : count + 1 ≡ 1 = omega arith in
      subst₂ (λ n k. Stands rest n k) v l (going_of low (inl e) (rw v (omega arith)))

  -- a byte that would end a number that is not in its shortest form
  pub going_zero : b ≡ 0 → count ≢ 0 → Neither rest
  going_zero z many = record {
    none = λ n len w.
        let e = ends_here (omega arith) w in
        ⊎_elim (λ q. many (sym (length-take-le count rest h.going.inside) ∙ ap length (e.0 ∙ q))) (λ q. q (sym e.1 ∙ z)) w.written.shortest;
    over = low_over (omega arith);
  }

  -- a byte that would end a number of 2 ^ 64 or more
  pub going_large : b < 128 → 2 ^ 64 ≤ sum + b * power → Neither rest
  going_large low large = record {
    none = λ n len w.
        let e = ends_here low w in
        let f : take len rest ≡ take (suc count) rest = w.written.whole ∙ sym (ap₂ (λ (x : List ℕ) (y : ℕ). x ++ y ∷ []) e.0 e.1) ∙ sym one_more in
        let v : n ≡ sum + b * power = sym w.written.value ∙ ap worth f ∙ next_worth ∙ ap (λ x. sum + x * power) (mod-eq_of_lt low) in
        omega (arith, w.written.below);
    over = low_over low;
  }

  -- the tenth byte's group begins at bit 63, so that a last byte there is 1 or too great, and before it every last byte fits
  tenth_power : count ≡ 9 → power ≡ 2 ^ 63
  tenth_power nine = h.going.powers ∙ ap (λ k. 128 ^ k) nine

  pub tenth_large : count ≡ 9 → 1 < b → 2 ^ 64 ≤ sum + b * power
  tenth_large nine large = rw (tenth_power nine) (omega arith)

  pub tenth_fits : count ≡ 9 → b ≤ 1 → sum + b * power < 2 ^ 64
  tenth_fits nine small = let p = tenth_power nine in let s = going_below h.going in rw p (omega arith)

  pub early_fits : count ≢ 9 → b < 128 → sum + b * power < 2 ^ 64
  early_fits nine low =
      let p = going_small h.going nine in
      omega (arith, p, going_below h.going, mul-le-mul {n₁ = b} {m₁ = power} {n₂ = 127} {m₂ = 2 ^ 56} (omega arith) p)

  next_high : 128 ≤ b → All High (take (suc count) rest)
  next_high set = rw one_more (all_append High (take count rest) (b ∷ []) h.going.high (record { set = set; byte = h.byte }, tt))

  -- a tenth byte whose high bit is set
  pub going_long : count ≡ 9 → 128 ≤ b → Neither rest
  going_long nine set = record {
    none = λ n len w.
        let v = w.written in
        let l : length v.front < suc count = omega (arith, v.short, simp length-append at (ap length v.whole)) in
        let a = among High v.front v.last (drop len rest) (suc count) l (subst (λ (l : List ℕ). All High (take (suc count) l)) (opened w) (next_high set)) in
        omega (arith, a.set, v.low);
    over = λ w. omega (arith, w.short);
  }

  -- a byte with its high bit set, before the tenth
  pub going_next : count ≢ 9 → 128 ≤ b → Going rest (sum + (b - 128) * power) (power * 128) (count + 1)
  going_next nine set = record {
    inside = omega arith;
    few = omega (arith, h.going.few);
    powers = rw (add-one, h.going.powers, pow-suc);
    sums = let e : b - 128 ≡ b % 128 = omega arith in rw (add-one, next_worth, e);
    high = rw add-one (next_high set);
  }

  -- the next sum and the next power fit
  pub next_fits : count ≢ 9 → (b - 128) * power ≤ 127 * 2 ^ 56
  next_fits nine = mul-le-mul {n₁ = b - 128} {m₁ = power} {n₂ = 127} {m₂ = 2 ^ 56} (omega (arith, h.byte)) (going_small h.going nine)
