-- An outcome is determined by the input.
-- Assumes nothing.
use mathlib.Core.Path.{◌≡◌, refl, sym, ap, ◌∙◌}
use mathlib.Core.Bool.{Bool, true, false, cond}
use Rattle.lists.specs.Tests.{Says}
use Rattle.model.specs.Calls.{Call, Answer, refused}
use Rattle.tables.specs.Tables.{Tables}
use Rattle.calls.specs.Outcome.{Outcome, Called}

-- LAW: two answers to one question are equal
pub says_once : {P : Type 0} (a b : Bool) → Says a P → Says b P → a ≡ b
says_once true b x y = sym (y.told (x.holds refl))
says_once false true x y = x.told (y.holds refl)
says_once false false x y = refl

module _ {X E : Type 0} (tables : X → Tables) (of : E → Answer) (c : Call) (before after : X) (given refuse : E) where
  -- LAW: two outcomes of one input are equal, for every entry point
  pub outcome_once : (x y : X) (a b : E) → Outcome tables of c before x after a given refuse → Outcome tables of c before y after b given refuse → (x ≡ y) × (a ≡ b)
  outcome_once x y a b o p =
      let e : o.tested ≡ p.tested = says_once o.tested p.tested o.says p.says in
      (o.lent ∙ (ap (λ z. cond z after before) e ∙ sym p.lent), o.answers ∙ (ap (λ z. cond z given refuse) e ∙ sym p.answers))

  -- LAW: an outcome is a call with its answer
  pub called : (x : X) (a : E) → of refuse ≡ refused 1 → Outcome tables of c before x after a given refuse → Called (tables before) c (of a) (tables x)
  called x a r o =
      record {
        tested = o.tested;
        says = o.says;
        refuses = λ e. (ap tables (o.lent ∙ ap (λ z. cond z after before) e), ap of (o.answers ∙ ap (λ z. cond z given refuse) e) ∙ r);
        met = λ e. rw (o.lent ∙ ap (λ z. cond z after before) e, o.answers ∙ ap (λ z. cond z given refuse) e) (o.met e);
      }
