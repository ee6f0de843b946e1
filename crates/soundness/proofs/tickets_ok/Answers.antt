-- `soundness::tickets_ok` meets its contract.
use Prim.Native.Nat.{◌-◌, ◌≤◌}
use native.Mathlib.Omega.{arith}
use borrow.Author.Rules.{rules}
use Rattle.lists.proofs.Answers.{all_no, all_yes}
use Rattle.tables.specs.Tables.{ticket_at}
use Rattle.soundness.proofs.Tickets.{opened_says}
use Rattle.soundness.proofs.tickets_ok.Goals as goal

pub returns-then-le : goal.returns-then-le
returns-then-le c =
    let late : (ticket_at c.args.tickets.now c.loop-i.i).version.0 ≤ (ticket_at c.args.tickets.now (c.loop-i.i - 1)).version.0 = search rules in
    opened_says _ _ _ _ _ (all_no _ c.loop-i-test.true (λ F. omega (arith, F.after c.if-i-gt0.true, late)))

pub returns : goal.returns
returns c = opened_says _ _ _ _ _ (all_yes _ c.loop-i-test.false c.loop-i.invariant)
