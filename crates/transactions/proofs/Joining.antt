-- Laws that join the reading of a code and of the numbers behind it to the reading of a call.
-- Assumes nothing.
use Prim.Native.Nat.{ℕ, ◌+◌, ◌-◌, ◌≤◌, ◌<◌}
use mathlib.Core.Path.{◌≡◌, refl, sym, ap, subst, ◌∙◌}
use mathlib.Core.Bool.{Bool}
use mathlib.Core.List.{List, [], ◌∷◌, ◌++◌, append-nil}
use mathlib.Core.Option.{Option}
use native.Mathlib.Omega.{arith}
use native.Mathlib.Nat.{add-zero}
use lib.ListN.{length, get_or, take, drop, length-drop}
use lib.Seq.{take-add, drop-drop, get_or-drop}
use Rattle.groups.specs.Groups.{Begun, Stands}
use Rattle.groups.proofs.Standing.{stands_some, stands_first}
use Rattle.transactions.specs.declared.Three.{Three}
use Rattle.transactions.specs.declared.Call.{Call}
use Rattle.transactions.specs.declared.Halt.{Halt}
use Rattle.transactions.specs.declared.Halt.TheVariants.{Stop, More}
use Rattle.transactions.specs.Sequences.{Sequence, listed, Reached, Stops, Stopped, Waits}
use Rattle.transactions.specs.Calls.{operands_of, call_limit, numbers_of}
use Rattle.transactions.specs.Readings.{Halts, WholeCall}
use Rattle.transactions.specs.Inner.{WholeNumbers, CodeRead, NoCode}
use Rattle.transactions.proofs.Sequencing.{reached_none}
use Rattle.transactions.proofs.Running.{Due}

-- a code is due first
pub code_due : (bytes : List ℕ) (at : ℕ) → Due call_limit bytes at at 13
code_due bytes at = record { numbers = []; offset = 0; is = omega arith; reached = reached_none call_limit (drop at bytes); due = refl }

pub no_code : (bytes : List ℕ) (at : ℕ) → NoCode bytes at → (n len : ℕ) → Stands (drop at bytes) n len → n ≤ 13 → ⊥
no_code bytes at none n len s l =
    let inside : at < length bytes = omega (arith, s.inside, stands_some s, length-drop at bytes) in
    let e : get_or bytes at 0 ≡ n = ap (λ k. get_or bytes k 0) (sym (add-zero at)) ∙ sym (get_or-drop at bytes 0 0) ∙ stands_first (omega arith) s in
    omega (arith, none inside, e)

-- numbers behind a first one
module _ (limit : List ℕ → Option ℕ) (rest : List ℕ) (code o : ℕ) (r : Reached limit rest (code ∷ []) o) where
  behind : (ns : List ℕ) (q : ℕ) → Sequence ns (take q (drop o rest)) → Sequence (code ∷ ns) (take (o + q) rest)
  behind ns q s =
      let f = r.before in
      record {
        front = f.front;
        back = take q (drop o rest);
        whole = take-add o q rest ∙ ap (λ (l : List ℕ). l ++ take q (drop o rest)) (f.whole ∙ ap (λ (l : List ℕ). f.front ++ l) f.rest ∙ append-nil f.front);
        written = f.written;
        rest = s;
      }

  pub reached_behind : {ns : List ℕ} {q : ℕ} → Reached (λ ms. limit (code ∷ ms)) (drop o rest) ns q → Reached limit rest (code ∷ ns) (o + q)
  reached_behind {ns} {q} t = record {
    inside = omega (arith, r.inside, rw (length-drop o rest) at t.inside);
    before = behind ns q t.before;
    within = (r.within.0, t.within);
  }

  stops_behind : {q : ℕ} → Stops (λ ms. limit (code ∷ ms)) (drop o rest) q → Stops limit rest (o + q)
  stops_behind {q} s = record {
    numbers = code ∷ s.numbers;
    reached = reached_behind s.reached;
    most = s.most;
    due = s.due;
    bad = subst (λ (l : List ℕ). (n len : ℕ) → Stands l n len → n ≤ s.most → ⊥) (drop-drop q o rest) s.bad;
  }

  pub stopped_behind : {q : ℕ} {more : Bool} → Stopped (λ ms. limit (code ∷ ms)) (drop o rest) more q → Stopped limit rest more (o + q)
  stopped_behind {q} s = record { stops = stops_behind s.stops; final = λ f b. s.final f (subst Begun (sym (drop-drop q o rest)) b) }

  pub waits_behind : {more : Bool} → Waits (λ ms. limit (code ∷ ms)) (drop o rest) more → Waits limit rest more
  waits_behind w = record { follows = w.follows; offset = o + w.offset; stops = stops_behind w.stops; begun = subst Begun (drop-drop w.offset o rest) w.begun }

-- the numbers of a call, read from the place behind its code
module _ (bytes : List ℕ) {at code place : ℕ} (c : CodeRead (drop at bytes) at code place) where
  left : drop place bytes ≡ drop c.offset (drop at bytes)
  left = ap (λ k. drop k bytes) c.is ∙ sym (drop-drop c.offset at bytes)

  pub operands_whole : {three : Three} {end : ℕ} (w : WholeNumbers (operands_of code) (drop place bytes) place three end) → Reached call_limit (drop at bytes) (code ∷ take (length (operands_of code)) (three.first ∷ three.second ∷ three.third ∷ [])) (c.offset + w.offset)
  operands_whole {three} {end} w = reached_behind call_limit (drop at bytes) code c.offset c.reached (subst (λ (l : List ℕ). Reached (listed (operands_of code)) l (take (length (operands_of code)) (three.first ∷ three.second ∷ three.third ∷ [])) w.offset) left w.reached)

  -- where they end
  pub operands_end : {three : Three} {end : ℕ} (w : WholeNumbers (operands_of code) (drop place bytes) place three end) → end ≡ at + (c.offset + w.offset)
  operands_end w = omega (arith, w.is, c.is)

  pub operands_call : {three : Three} {end : ℕ} (call : Call) (w : WholeNumbers (operands_of code) (drop place bytes) place three end) → numbers_of call ≡ code ∷ take (length (operands_of code)) (three.first ∷ three.second ∷ three.third ∷ []) → WholeCall (drop at bytes) call (end - at)
  operands_call {three} {end} call w e =
      let r = operands_whole w in
      let l : end - at ≡ c.offset + w.offset = omega (arith, operands_end w) in
      record {
        inside = rw l r.inside;
        written = rw l (record { sequence = rw e r.before; within = rw e r.within });
      }

  pub operands_halt : (more : Bool) (h : Halt) → Halts (listed (operands_of code)) (drop place bytes) place more h → Halts call_limit (drop at bytes) at more h
  operands_halt more (Stop stop) s = record {
    offset = c.offset + s.offset;
    is = omega (arith, s.is, c.is);
    stopped = stopped_behind call_limit (drop at bytes) code c.offset c.reached (subst (λ (l : List ℕ). Stopped (listed (operands_of code)) l more s.offset) left s.stopped);
  }
  operands_halt more More w = waits_behind call_limit (drop at bytes) code c.offset c.reached (subst (λ (l : List ℕ). Waits (listed (operands_of code)) l more) left w)
