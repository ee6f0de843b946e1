-- Laws of calls and headers as numbers: a call is told by its numbers, and its fields are within their limits.
-- Assumes nothing.
use Prim.Native.Nat.{ℕ, ◌^◌, ◌≤◌, ◌<◌}
use mathlib.Core.Path.{◌≡◌, refl, sym, ap, ap₂, subst, ◌∙◌}
use mathlib.Core.Bool.{cond}
use mathlib.Core.List.{List, [], ◌∷◌}
use mathlib.Core.Option.{Option, none, some}
use native.Mathlib.Omega.{arith}
use lib.IntN.{ℤ}
use lib.ListN.{get_or}
use lib.Dec.{eqb}
use mir.Syntax.{w32, w64}
use mir.Val.{Fits, SFits}
use Rattle.lists.specs.Holds.{All}
use Rattle.groups.specs.Signs.{turned, unturned}
use Rattle.groups.proofs.Signing.{unturned_turned, turned_fits, unturned_fits}
use Rattle.transactions.specs.declared.Header.{Header}
use Rattle.transactions.specs.declared.Call.{Call}
use Rattle.transactions.specs.declared.Call.TheVariants.{Lookup, Insert, Remove, HandOver, Ceil, Floor, Succ, Pred, Fast, Open, Step, Close, Sweep, Tally}
use Rattle.transactions.specs.Sequences.{AtMost, Within}
use Rattle.transactions.specs.Calls.{any, small, call_limit, header_limit, numbers_of, header_of, Typed, TypedHeader}

-- a call, from its code and numbers
pick : ℕ → ℕ → ℕ → ℕ → Call
pick code a b c =
    cond (eqb code 0) (Lookup (unturned a))
    (cond (eqb code 1) (Insert (unturned a) (unturned b) c)
    (cond (eqb code 2) (Remove (unturned a))
    (cond (eqb code 3) (HandOver (record { 0 = a }))
    (cond (eqb code 4) (Ceil (unturned a))
    (cond (eqb code 5) (Floor (unturned a))
    (cond (eqb code 6) (Succ (unturned a))
    (cond (eqb code 7) (Pred (unturned a))
    (cond (eqb code 8) (Fast (unturned a) (unturned b))
    (cond (eqb code 9) (Open (unturned a) (unturned b))
    (cond (eqb code 10) (Step (record { 0 = a }) b)
    (cond (eqb code 11) (Close (record { 0 = a }))
    (cond (eqb code 12) Sweep Tally))))))))))))

call_from : List ℕ → Call
call_from ns = pick (get_or ns 0 0) (get_or ns 1 0) (get_or ns 2 0) (get_or ns 3 0)

back : (call : Call) → call_from (numbers_of call) ≡ call
unfolding pick call_from
back (Lookup k) = ap Lookup (unturned_turned k)
back (Insert k v coin) = ap₂ (λ x y. Insert x y coin) (unturned_turned k) (unturned_turned v)
back (Remove k) = ap Remove (unturned_turned k)
back (HandOver node) = refl
back (Ceil k) = ap Ceil (unturned_turned k)
back (Floor k) = ap Floor (unturned_turned k)
back (Succ k) = ap Succ (unturned_turned k)
back (Pred k) = ap Pred (unturned_turned k)
back (Fast l r) = ap₂ Fast (unturned_turned l) (unturned_turned r)
back (Open l r) = ap₂ Open (unturned_turned l) (unturned_turned r)
back (Step version room) = refl
back (Close version) = refl
back Sweep = refl
back Tally = refl

-- LAW: calls with the same numbers are the same
pub numbers_same : (a b : Call) → numbers_of a ≡ numbers_of b → a ≡ b
numbers_same a b e = sym (back a) ∙ ap call_from e ∙ back b

pub header_same : (a b : Header) → header_of a ≡ header_of b → a ≡ b
header_same a b e = ap (λ (ns : List ℕ). record_of (get_or ns 0 0) (get_or ns 1 0)) e
  where
    record_of : ℕ → ℕ → Header
    record_of c s = record { capacity = c; start = record { 0 = s } }

-- nothing more belongs to a call's numbers
pub call_complete : (call : Call) → call_limit (numbers_of call) ≡ none
call_complete (Lookup k) = refl
call_complete (Insert k v coin) = refl
call_complete (Remove k) = refl
call_complete (HandOver node) = refl
call_complete (Ceil k) = refl
call_complete (Floor k) = refl
call_complete (Succ k) = refl
call_complete (Pred k) = refl
call_complete (Fast l r) = refl
call_complete (Open l r) = refl
call_complete (Step version room) = refl
call_complete (Close version) = refl
call_complete Sweep = refl
call_complete Tally = refl

-- LAW: the numbers of a call whose fields are of their types are below 2 ^ 64 and within their limits
pub record Ready (limit : List ℕ → Option ℕ) (ns : List ℕ) : Type 0 where
  pub fits : All (λ n. n < 2 ^ 64) ns
  pub within : Within limit ns

done : {limit : List ℕ → Option ℕ} → Ready limit []
done = record { fits = tt; within = tt }

-- a number with the limit m, which is below 2 ^ 64
number : {limit : List ℕ → Option ℕ} {ns : List ℕ} (n m : ℕ) → limit [] ≡ some m → n ≤ m → m < 2 ^ 64 → Ready (λ ms. limit (n ∷ ms)) ns → Ready limit (n ∷ ns)
number n m e h l r = record { fits = (omega arith, r.fits); within = (subst (AtMost n) (sym e) h, r.within) }

signed : {limit : List ℕ → Option ℕ} {ns : List ℕ} (z : ℤ) → SFits w64 z → limit [] ≡ some any → Ready (λ ms. limit (turned z ∷ ms)) ns → Ready limit (turned z ∷ ns)
signed z f e r = number (turned z) any e (omega (arith, turned_fits z f)) (omega arith) r

narrow : {limit : List ℕ → Option ℕ} {ns : List ℕ} (n : ℕ) → Fits w32 n → limit [] ≡ some small → Ready (λ ms. limit (n ∷ ms)) ns → Ready limit (n ∷ ns)
narrow n f e r = number n small e (omega (arith, f.fits)) (omega arith) r

code : {ns : List ℕ} (n : ℕ) → n ≤ 13 → Ready (λ ms. call_limit (n ∷ ms)) ns → Ready call_limit (n ∷ ns)
code n h r = number n 13 refl h (omega arith) r

pub call_ready : (call : Call) → Typed call → Ready call_limit (numbers_of call)
call_ready (Lookup k) f = code 0 (omega arith) (signed k f refl done)
call_ready (Insert k v coin) f = code 1 (omega arith) (signed k f.0 refl (signed v f.1 refl (number coin any refl (omega (arith, f.2.fits)) (omega arith) done)))
call_ready (Remove k) f = code 2 (omega arith) (signed k f refl done)
call_ready (HandOver node) f = code 3 (omega arith) (narrow node.0 f refl done)
call_ready (Ceil k) f = code 4 (omega arith) (signed k f refl done)
call_ready (Floor k) f = code 5 (omega arith) (signed k f refl done)
call_ready (Succ k) f = code 6 (omega arith) (signed k f refl done)
call_ready (Pred k) f = code 7 (omega arith) (signed k f refl done)
call_ready (Fast l r) f = code 8 (omega arith) (signed l f.0 refl (signed r f.1 refl done))
call_ready (Open l r) f = code 9 (omega arith) (signed l f.0 refl (signed r f.1 refl done))
call_ready (Step version room) f = code 10 (omega arith) (narrow version.0 f.0 refl (narrow room f.1 refl done))
call_ready (Close version) f = code 11 (omega arith) (narrow version.0 f refl done)
call_ready Sweep f = code 12 (omega arith) done
call_ready Tally f = code 13 (omega arith) done

-- a signed number that is written within 64 bits has 64 bits
signed_fits : (z : ℤ) → turned z ≤ any → SFits w64 z
signed_fits z h = subst (SFits w64) (unturned_turned z) (unturned_fits (turned z) (omega arith))

-- LAW: and the fields of a call whose numbers are within their limits are of their types
pub call_typed : (call : Call) → Within call_limit (numbers_of call) → Typed call
call_typed (Lookup k) w = signed_fits k w.1.0
call_typed (Insert k v coin) w = (signed_fits k w.1.0, signed_fits v w.1.1.0, record { fits = omega (arith, w.1.1.1.0) })
call_typed (Remove k) w = signed_fits k w.1.0
call_typed (HandOver node) w = record { fits = omega (arith, w.1.0) }
call_typed (Ceil k) w = signed_fits k w.1.0
call_typed (Floor k) w = signed_fits k w.1.0
call_typed (Succ k) w = signed_fits k w.1.0
call_typed (Pred k) w = signed_fits k w.1.0
call_typed (Fast l r) w = (signed_fits l w.1.0, signed_fits r w.1.1.0)
call_typed (Open l r) w = (signed_fits l w.1.0, signed_fits r w.1.1.0)
call_typed (Step version room) w = (record { fits = omega (arith, w.1.0) }, record { fits = omega (arith, w.1.1.0) })
call_typed (Close version) w = record { fits = omega (arith, w.1.0) }
call_typed Sweep w = tt
call_typed Tally w = tt

pub header_ready : (header : Header) → TypedHeader header → Ready header_limit (header_of header)
header_ready header f = narrow header.capacity f.0 refl (narrow header.start.0 f.1 refl done)
