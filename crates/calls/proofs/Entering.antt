-- An entry point's two ways: refused by the test, or the call made.
-- Assumes nothing.
use Rattle.std.specs.Prelude.{Result, Ok, Err, ⊤, is_ok, IsOkUnless, IsErrAnd}
use Rattle.model.specs.declared.Refusal.{Refusal}
use Rattle.model.specs.declared.Refusal.TheVariants.{NotSound}
use mathlib.Core.Path.{◌≡◌, refl, sym, ap, subst, ◌∙◌}
use mathlib.Core.Bool.{Bool, true, false}
use Rattle.lists.specs.Tests.{Says}
use Rattle.lists.proofs.Answers.{never}
use Rattle.model.specs.Calls.{Call, Answer}
use Rattle.tables.specs.Tables.{Tables, Sound, Met}
use Rattle.calls.specs.Outcome.{Outcome}

module _ {X E : Type 0} {tables : X → Tables} {of : E → Answer} {c : Call} {before after : X} {given refuse : E} where
  -- LAW: the test failed: nothing changed
  pub refusing : {tested : Bool} → Says tested (Sound (tables before)) → tested ≡ false → Outcome tables of c before before after refuse given refuse
  refusing {tested} s e =
      record {
        tested = false;
        says = subst (λ (b : Bool). Says b (Sound (tables before))) e s;
        lent = refl;
        answers = refl;
        met = λ q. never q;
      }

  -- LAW: the test passed: the call was made
  pub making : {exit : X} {answer : E} {tested : Bool} → Says tested (Sound (tables before)) → tested ≡ true → exit ≡ after → answer ≡ given → Met (tables before) (tables after) c (of given)
      → Outcome tables of c before exit after answer given refuse
  making {tested = tested} s e x a m =
      record {
        tested = true;
        says = subst (λ (b : Bool). Says b (Sound (tables before))) e s;
        lent = x;
        answers = a;
        met = λ q. m;
      }

-- LAW: the test of the tables refused: nothing changed, and the answer is its refusal
pub refused_by : {X A : Type 0} {tables : X → Tables} {of : Result A Refusal → Answer} {c : Call} {before after : X} {given answer : Result A Refusal} {r : Result ⊤ Refusal} {e : Refusal}
    → Says (is_ok r) (Sound (tables before)) → IsOkUnless r NotSound → r ≡ Err e → IsErrAnd answer (λ x. x ≡ e) → Outcome tables of c before before after answer given (Err NotSound)
refused_by {tables = tables} {of = of} {c = c} {before = before} {after = after} {given = given} {answer = Err x} s u w g =
    let f : x ≡ NotSound = g ∙ rw w at u in
    subst (λ y. Outcome tables of c before before after (Err y) given (Err NotSound)) (sym f) (refusing s (ap is_ok w))
refused_by {answer = Ok a} s u w g = absurd g
