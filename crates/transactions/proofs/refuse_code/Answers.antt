-- `transactions::refuse_code` meets its contract.
use mathlib.Core.Path.{refl, sym, ◌∙◌}
use mathlib.Core.Bool.{true≢false}
use Rattle.transactions.specs.declared.Halt.TheVariants.{Stop, More}
use Rattle.transactions.proofs.Running.{due_halts}
use Rattle.transactions.proofs.Joining.{code_due, no_code}
use Rattle.transactions.proofs.refuse_code.Goals as goal
use Rattle.transactions.proofs.refuse_code.Goals.{else-more-via-then-more+else-begun, else-more-via-else-more}

pub returns-then-begun : goal.returns-then-begun
returns-then-begun c = due_halts (code_due c.args.bytes.now c.args.at) _ More (c.if-more.true, c.begun.ensures.holds c.if-begun.true)

pub returns-else-more : goal.returns-else-more
returns-else-more c =
    due_halts (code_due c.args.bytes.now c.args.at) _ (Stop _) (
      refl,
      record {
        none = no_code _ _ c.requires;
        final = λ w b. elim c.else-more.branch [
          | else-more-via-then-more+else-begun v ↦ true≢false (sym (v.begun.ensures.told b) ∙ v.if-begun.false)
          | else-more-via-else-more v ↦ true≢false (sym w ∙ v.if-more.false)
        ];
      },
    )
