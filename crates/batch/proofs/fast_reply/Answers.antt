-- `batch::fast_reply` meets its contract.
use borrow.Author.Rules.{rules}
use mir.Syntax.{w64}
use mir.ValLaws.{to_z-of_z}
use Rattle.batch.proofs.fast_reply.Goals as goal

pub returns : goal.returns
returns c =
    record {
      answer = c.fast_range-answer.result;
      by = rw (to_z-of_z w64 c.args.low c.ranges.low, to_z-of_z w64 c.args.high c.ranges.high) at c.fast_range-answer.ensures;
      is = search rules;
    }
