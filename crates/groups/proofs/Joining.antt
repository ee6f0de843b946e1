-- Laws of a number that is read without a loop: of one to three bytes, and of nine or ten at once.
-- Assumes nothing.
use Prim.Native.Nat.{ℕ, ◌+◌, ◌-◌, ◌*◌, ◌/◌, ◌≤◌, ◌<◌}
use mathlib.Core.Path.{◌≡◌, refl, sym, ap, subst, subst₂, ◌∙◌}
use mathlib.Core.Logic.{◌≢◌, inr}
use mathlib.Core.List.{List}
use native.Mathlib.Omega.{arith}
use native.Mathlib.Decide.{dec_lt, ℕ_discrete}
use native.Mathlib.Nat.{mul-le-mul}
use lib.ListN.{length, get_or, drop}
use lib.Seq.{get_or-drop}
use Rattle.groups.specs.Groups.{Led, Stands, Neither}
use Rattle.groups.proofs.Scanning as scan
use Rattle.groups.proofs.Scanning.{Going, Met}

-- the byte at a place of the bytes left
pub record Byte (rest : List ℕ) (k b : ℕ) : Type 0 where
  pub more : k < length rest
  pub is : get_or rest k 0 ≡ b
  pub byte : b < 256

pub byte_in : (bytes : List ℕ) (at k i b : ℕ) → k < length (drop at bytes) → i ≡ at + k → b ≡ get_or bytes i 0 → b < 256 → Byte (drop at bytes) k b
byte_in bytes at k i b l p e f = record { more = l; is = get_or-drop at bytes k 0 ∙ ap (λ j. get_or bytes j 0) (sym p) ∙ sym e; byte = f }

pub met : {rest : List ℕ} {sum power count b : ℕ} → Going rest sum power count → Byte rest count b → Met rest sum power count b
met g b = record { going = g; more = b.more; is = b.is; byte = b.byte }

pub first_met : {rest : List ℕ} {b0 : ℕ} → Byte rest 0 b0 → Met rest 0 1 0 b0
first_met {rest} x = met (scan.going_none rest) x

pub led_one : {rest : List ℕ} {b0 : ℕ} → Byte rest 0 b0 → 128 ≤ b0 → Going rest (b0 - 128) 128 1
led_one {rest} {b0} x h =
    let e : 0 + (b0 - 128) * 1 ≡ b0 - 128 = omega arith in
    subst (λ s. Going rest s 128 1) e (scan.going_next (first_met x) (omega arith) h)

pub led_two : {rest : List ℕ} {b0 b1 : ℕ} → Byte rest 0 b0 → Byte rest 1 b1 → 128 ≤ b0 → 128 ≤ b1 → Going rest (b0 - 128 + (b1 - 128) * 128) 16384 2
led_two x y h i = scan.going_next (met (led_one x h) y) (omega arith) i

pub led_three : {rest : List ℕ} {b0 b1 b2 : ℕ} → Byte rest 0 b0 → Byte rest 1 b1 → Byte rest 2 b2 → 128 ≤ b0 → 128 ≤ b1 → 128 ≤ b2 → Led rest (b0 - 128 + (b1 - 128) * 128 + (b2 - 128) * 16384)
led_three {rest} {b0} {b1} {b2} x y z h i j =
    let g : Going rest (b0 - 128 + (b1 - 128) * 128 + (b2 - 128) * 16384) 2097152 3 = scan.going_next (met (led_two x y h i) z) (omega arith) j in
    record { high = g.high; value = g.sums }

-- the ninth byte and the tenth, with no branch: where the ninth's high bit is set, the tenth is 1
module _ {rest : List ℕ} {sum b8 b9 : ℕ} (g : Going rest sum 72057594037927936 8) (x : Byte rest 8 b8) (y : Byte rest 9 b9) where
  ninth : 128 ≤ b8 → Met rest (sum + (b8 - 128) * 72057594037927936) 9223372036854775808 9 b9
  ninth h = met (scan.going_next (met g x) (omega arith) h) y

  pub long_of : 0 < b8 → b8 / 128 * b9 ≡ b8 / 128 → Stands rest (sum + b8 * 72057594037927936) (9 + b8 / 128)
  long_of p e = go (dec_lt b8 128)
    where
      go : Dec (b8 < 128) → Stands rest (sum + b8 * 72057594037927936) (9 + b8 / 128)
      go (yes l) =
          let k : 9 ≡ 9 + b8 / 128 = omega arith in
          subst (λ j. Stands rest (sum + b8 * 72057594037927936) j) k
          (scan.going_of (met g x) l (inr (λ z. omega arith)) (scan.early_fits (met g x) (omega arith) l))
      go (no h) =
          let d : b8 / 128 ≡ 1 = omega (arith, x.byte) in
          let o : 1 * b9 ≡ 1 = rw d at e in
          let b : b9 ≡ 1 = omega arith in
          let v : sum + (b8 - 128) * 72057594037927936 + b9 * 9223372036854775808 ≡ sum + b8 * 72057594037927936 = omega arith in
          let k : 10 ≡ 9 + b8 / 128 = omega arith in
          subst₂ (λ n j. Stands rest n j) v k
          (scan.going_of (ninth (omega arith)) (omega arith) (inr (λ z. omega arith)) (scan.tenth_fits (ninth (omega arith)) refl (omega arith)))

  pub long_none : b8 / 128 * b9 ≢ b8 / 128 → Neither rest
  long_none e = go (dec_lt b8 128) (ℕ_discrete b9 0) (dec_lt b9 128)
    where
      go : Dec (b8 < 128) → Dec (b9 ≡ 0) → Dec (b9 < 128) → Neither rest
      go (yes l) _ _ = absurd (e (let d : b8 / 128 ≡ 0 = omega arith in rw d (omega arith)))
      go (no h) (yes z) _ = scan.going_zero (ninth (omega arith)) z (λ q. omega arith)
      go (no h) (no z) (yes l) =
          let d : b8 / 128 ≡ 1 = omega (arith, x.byte) in
          let n : b9 ≢ 1 = λ q. e (rw (d, q) refl) in
          scan.going_large (ninth (omega arith)) l (scan.tenth_large (ninth (omega arith)) refl (omega (arith, n)))
      go (no h) (no z) (no l) = scan.going_long (ninth (omega arith)) refl (omega arith)

  pub top_fits : b8 / 128 * b9 ≤ 255
  top_fits = mul-le-mul {n₁ = b8 / 128} {m₁ = b9} {n₂ = 1} {m₂ = 255} (omega (arith, x.byte)) (omega (arith, y.byte))

-- the bytes of a long number
pub record Long (rest : List ℕ) (first b3 b4 b5 b6 b7 b8 b9 : ℕ) : Type 0 where
  pub led : Led rest first
  pub at3 : Byte rest 3 b3
  pub at4 : Byte rest 4 b4
  pub at5 : Byte rest 5 b5
  pub at6 : Byte rest 6 b6
  pub at7 : Byte rest 7 b7
  pub at8 : Byte rest 8 b8
  pub at9 : Byte rest 9 b9

-- the high bits of five of them are set
pub record Highs (b3 b4 b5 b6 b7 : ℕ) : Type 0 where
  pub set3 : 128 ≤ b3
  pub set4 : 128 ≤ b4
  pub set5 : 128 ≤ b5
  pub set6 : 128 ≤ b6
  pub set7 : 128 ≤ b7

module _ {rest : List ℕ} {first b3 b4 b5 b6 b7 b8 b9 : ℕ} (l : Long rest first b3 b4 b5 b6 b7 b8 b9) where
  three : Going rest first 2097152 3
  three = record { inside = omega (arith, l.at3.more); few = omega arith; powers = refl; sums = l.led.value; high = l.led.high }

  pub first_small : first < 2097152
  first_small = scan.going_below three

  pub eight : Highs b3 b4 b5 b6 b7
      → Going rest (first + (b3 - 128) * 2097152 + (b4 - 128) * 268435456 + (b5 - 128) * 34359738368 + (b6 - 128) * 4398046511104 + (b7 - 128) * 562949953421312) 72057594037927936 8
  eight h =
      let g4 = scan.going_next (met three l.at3) (omega arith) h.set3 in
      let g5 = scan.going_next (met g4 l.at4) (omega arith) h.set4 in
      let g6 = scan.going_next (met g5 l.at5) (omega arith) h.set5 in
      let g7 = scan.going_next (met g6 l.at6) (omega arith) h.set6 in
      scan.going_next (met g7 l.at7) (omega arith) h.set7
