-- Laws of the calls that a host asks for in plain numbers, and of writing them.
-- Assumes nothing.
use Prim.Native.Nat.{ℕ, zero, suc, ◌+◌, ◌≤◌, ◌<◌}
use mathlib.Core.Path.{◌≡◌, refl, sym, ap, ap₂, subst, ◌∙◌}
use mathlib.Core.Bool.{Bool, true, false, cond}
use mathlib.Core.List.{List, [], ◌∷◌, ◌++◌}
use native.Mathlib.Omega.{arith}
use lib.Dec.{leb}
use lib.IntN.{ℤ, pos, negsuc}
use lib.ListN.{length, get_or, take, drop, length-append}
use lib.Seq.{take_at, drop_at}
use mir.Syntax.{w32, w64}
use mir.Val.{Fits, SFits, to_z, of_z}
use mir.ValLaws.{to_z-of_z}
use borrow.Author.Tests.{le-leb, lt-leb, leb-true}
use Rattle.lists.proofs.Entries.{all_get_d}
use Rattle.std.specs.Prelude.{Option, Some, None, Result, Ok, Err}
use Rattle.groups.specs.declared.TooShort.{TooShort}
use Rattle.groups.specs.Buffers.{Writes}
use Rattle.groups.proofs.Writing.{writes_same, writes_length}
use Rattle.transactions.specs.declared.Call.{Call}
use Rattle.transactions.specs.Sequences.{bytes_of}
use Rattle.transactions.specs.Calls.{small, numbers_of, Typed, WrittenCall}
use Rattle.transactions.specs.Readings.{WholeCall}
use Rattle.transactions.proofs.Trips.{call_written}
use Rattle.transactions.proofs.Lengths.{call_length}
use Rattle.lopresnik.specs.Written.{narrowed, hands_over, steps, closes, calls_of, asked, WrittenAs, written, AskedWritten}

-- a signed number as the code holds it
pub held : (z : ℤ) → SFits w64 z → to_z w64 (of_z w64 z) ≡ z
held z f = to_z-of_z w64 z f

-- what was told of a number that was tested is said of the number itself
pub told : {X : Type 0} (f : Option ℕ → X) {z : ℤ} {r s : Option ℕ} → SFits w64 z → r ≡ narrowed (to_z w64 (of_z w64 z)) → r ≡ s → f s ≡ f (narrowed z)
told f {z} fits e g = ap f (sym g ∙ e ∙ ap narrowed (held z fits))

-- the two outcomes of the test
pub small_of : (n : ℕ) → n ≤ small → Some n ≡ narrowed (pos n)
small_of n h = rw (le-leb n small h) refl

pub not_small : (n : ℕ) → small < n → None ≡ narrowed (pos n)
not_small n h = rw (lt-leb n small h) refl

-- no call has a greater code
past_end : {X : Type 0} (l : List X) (n : ℕ) (d : X) → length l ≤ n → get_or l n d ≡ d
past_end [] n d h = refl
past_end (x ∷ l) zero d h = absurd (omega arith)
past_end (x ∷ l) (suc n) d h = past_end l n d (omega arith)

pub no_call : (code : ℕ) (first second : ℤ) (third : ℕ) → 13 < code → None ≡ asked code first second third
no_call code first second third h = sym (past_end (calls_of first second third) code None (omega arith))

-- what was written of the call that was made of these numbers
pub written_as : (code : ℕ) (first second : ℤ) (third : ℕ) {r s : Option Call} (before after : List ℕ) (n : ℕ) → SFits w64 first → SFits w64 second → r ≡ asked code (to_z w64 (of_z w64 first)) (to_z w64 (of_z w64 second)) third → r ≡ s → AskedWritten s before after n → AskedWritten (asked code first second third) before after n
written_as code first second third before after n f g e same w =
    subst (λ a. AskedWritten a before after n) (sym same ∙ e ∙ ap₂ (λ y z. asked code y z third) (held first f) (held second g)) w

-- the fields of the call that is asked for are of their types
abbrev pub TypedAsked : Option Call → Type 0
TypedAsked (Some call) = Typed call
TypedAsked None = Unit {0}

-- what holds of a number below 2 ^ 32 and of none holds of any number that was tested
narrow_cases : (P : ℤ → Option ℕ → Type 0) → ((n : ℕ) → Fits w32 n → P (pos n) (Some n)) → ((z : ℤ) → P z None) → (z : ℤ) → P z (narrowed z)
narrow_cases P some none (negsuc n) = none (negsuc n)
narrow_cases P some none (pos n) = go (leb n small) refl
  where
    go : (b : Bool) → leb n small ≡ b → P (pos n) (cond b (Some n) None)
    go true e = some n (record { fits = omega (arith, leb-true n small e) })
    go false e = none (pos n)

narrow_typed : (f : Option ℕ → Option Call) → ((n : ℕ) → Fits w32 n → TypedAsked (f (Some n))) → TypedAsked (f None) → (z : ℤ) → TypedAsked (f (narrowed z))
narrow_typed f some none = narrow_cases (λ z s. TypedAsked (f s)) some (λ z. none)

-- LAW: so they are of any numbers that a host can give
pub asked_typed : (code : ℕ) (first second : ℤ) (third : ℕ) → SFits w64 first → SFits w64 second → Fits w64 third → TypedAsked (asked code first second third)
asked_typed code first second third f g h =
    all_get_d
    TypedAsked
    None
    (calls_of first second third)
    tt
    (f, ((f, g, h), (f, (narrow_typed hands_over (λ n t. t) tt first, (f, (f, (f, (f, ((f, g), ((f, g), (narrow_typed (λ s. steps s (narrowed second)) (λ v t. narrow_typed (steps (Some v)) (λ n u. (t, u)) tt second) tt first, (narrow_typed closes (λ n t. t) tt first, (tt, (tt, tt))))))))))))))
    code

-- each call of a list is as P says at its place, which are counted from n on
abbrev From : (ℕ → Option Call → Type 0) → ℕ → List (Option Call) → Type 0
From P n [] = Unit {0}
From P n (a ∷ rest) = P n a × From P (suc n) rest

from_get_d : (P : ℕ → Option Call → Type 0) → ((n : ℕ) → P n None) → (n : ℕ) (calls : List (Option Call)) → From P n calls → (i : ℕ) → P (n + i) (get_or calls i None)
from_get_d P none n [] f i = none (n + i)
from_get_d P none n (a ∷ rest) f zero = let e : n ≡ n + 0 = omega arith in subst (λ k. P k a) e f.0
from_get_d P none n (a ∷ rest) f (suc i) =
    let e : suc n + i ≡ n + suc i = omega arith in subst (λ k. P k (get_or rest i None)) e (from_get_d P none (suc n) rest f.1 i)

-- LAW: what is asked for by a code and numbers is written with this code and these numbers
pub asked_numbers : (code : ℕ) (first second : ℤ) (third : ℕ) → WrittenAs code first second third (asked code first second third)
asked_numbers code first second third =
    let e : 0 + code ≡ code = omega arith in
    subst (λ n. WrittenAs n first second third (asked code first second third)) e
    (from_get_d (λ n. WrittenAs n first second third) (λ n. tt) 0 (calls_of first second third)
    (refl, (refl, (refl, (hand, (refl, (refl, (refl, (refl, (refl, (refl, (move, (shut, (refl, (refl, tt)))))))))))))) code)
  where
    hand : WrittenAs 3 first second third (hands_over (narrowed first))
    hand = narrow_cases (λ z s. WrittenAs 3 z second third (hands_over s)) (λ n t. refl) (λ z. tt) first

    move : WrittenAs 10 first second third (steps (narrowed first) (narrowed second))
    move =
        narrow_cases (λ z s. WrittenAs 10 z second third (steps s (narrowed second)))
        (λ v t. narrow_cases (λ z s. WrittenAs 10 (pos v) z third (steps (Some v) s)) (λ n u. refl) (λ z. tt) second) (λ z. tt) first

    shut : WrittenAs 11 first second third (closes (narrowed first))
    shut = narrow_cases (λ z s. WrittenAs 11 z second third (closes s)) (λ n t. refl) (λ z. tt) first

-- LAW: two outcomes of writing what is asked for are equal
pub asked_once : (a : Option Call) (before : List ℕ) {x y : List ℕ} {r s : ℕ} → AskedWritten a before x r → AskedWritten a before y s → (x ≡ y) × (r ≡ s)
asked_once (Some call) before v w = let e = writes_same v.form w.form in (e.0, v.is ∙ ap written e.1 ∙ sym w.is)
asked_once None before v w = (v.0 ∙ sym w.0, v.1 ∙ sym w.1)

-- LAW: where the answer is not 0, the bytes at the front are the written form of the call, and what lies behind stays
pub asked_stands : (call : Call) {before after : List ℕ} {r : ℕ} → Typed call → AskedWritten (Some call) before after r → 0 < r → WrittenCall call (take r after) × (drop r after ≡ drop r before)
asked_stands call {before} {after} {r} t w some = go w.made w.form w.is
  where
    go : (m : Result ℕ TooShort) → Writes (bytes_of (numbers_of call)) before after m → r ≡ written m → WrittenCall call (take r after) × (drop r after ≡ drop r before)
    go (Err n) f e = absurd (omega (arith, some, e))
    go (Ok n) f e =
        let v = writes_length f in
        let bytes = bytes_of (numbers_of call) in
        let k : r ≡ length bytes = e ∙ v.answer in (
          subst (WrittenCall call) (sym (ap (take r) v.buffer ∙ take_at bytes (drop (length bytes) before) r (sym k))) (call_written call t),
          ap (drop r) v.buffer ∙ drop_at bytes (drop (length bytes) before) r (sym k) ∙ ap (λ i. drop i before) (sym k),
        )

-- a written call takes 1 to 31 bytes
call_bytes : (call : Call) → Typed call → let n = length (bytes_of (numbers_of call)) in (1 ≤ n) × (n ≤ 31)
call_bytes call t =
    let bytes = bytes_of (numbers_of call) in
    let whole : take (length bytes) (bytes ++ []) ≡ bytes = take_at bytes [] (length bytes) refl in
    let w : WholeCall (bytes ++ []) call (length bytes) = record { inside = omega (arith, length-append bytes []); written = subst (WrittenCall call) (sym whole) (call_written call t) } in
    call_length w

-- LAW: a buffer of 31 bytes is too short for no call, so that there 0 means that there is no such call
pub asked_fits : (call : Call) {before after : List ℕ} {r : ℕ} → Typed call → 31 ≤ length before → AskedWritten (Some call) before after r → 0 < r
asked_fits call {before} {after} {r} t room w =
    let n = call_bytes call t in
    let e = rw (le-leb (length (bytes_of (numbers_of call))) (length before) (omega (arith, n.1, room))) at w.form.answer in
    let k = w.is ∙ ap written e in
    omega (arith, n.0, k)
