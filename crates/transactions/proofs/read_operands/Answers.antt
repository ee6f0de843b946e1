-- `transactions::read_operands` meets its contract.
use Rattle.std.proofs.lemmas.Result.{err_from_is_err_and}
use Rattle.transactions.proofs.Joining.{operands_call, operands_halt}
use Rattle.transactions.proofs.read_operands.Goals as goal

pub returns-in_err-numbers : goal.returns-in_err-numbers
returns-in_err-numbers c =
    let p = err_from_is_err_and c.from_residual.result c.from_residual.ensures.1 in
    rw (p.1, p.2) (operands_halt _ c.requires _ c.in_err-numbers.field-0.0 (rw c.operands_of-count.ensures.limits at (c.in_err-numbers.ensures)))

pub returns : goal.returns
returns c = operands_call _ c.requires _ (rw c.operands_of-count.ensures.limits at (c.in_ok-numbers.ensures)) c.call_of.ensures
