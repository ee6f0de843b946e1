-- `transactions::read_numbers` meets its contract.
use Rattle.std.proofs.lemmas.Result.{err_from_is_err_and}
use Rattle.transactions.proofs.Running.{due_halts, found_due, found_with}
use Rattle.transactions.proofs.read_numbers.Goals as goal

pub returns-in_err-n : goal.returns-in_err-n
returns-in_err-n c =
    let p = err_from_is_err_and c.from_residual.result c.from_residual.ensures.1 in
    rw (p.1, p.2) (due_halts (found_due c.loop-i.invariant c.loop-i-test.true) _ c.in_err-n.field-0.0 (c.in_err-n.ensures))

pub loop-i-preserved : goal.loop-i-preserved
loop-i-preserved c = let r = c.in_ok-n.ensures in found_with c.loop-i.invariant c.loop-i-test.true r.0 r.1 c.with_number-found.ensures
