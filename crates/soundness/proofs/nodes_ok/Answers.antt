-- `soundness::nodes_ok` meets its contract. The invariant: the level is a line exactly when what lies onward is. The measure is what lies onward.
use mathlib.Core.Path.{sym, ◌∙◌}
use native.Mathlib.Omega.{arith}
use Rattle.lists.proofs.Answers.{no, failed, passed}
use Rattle.lists.proofs.Comparing.{says_eq}
use Rattle.levels.proofs.Nearing.{walk_less}
use Rattle.soundness.proofs.Walking.{walking_start, walking_room, walking_timed, walking_next, walking_on, one_at_most, walked_line, walked_all, walked_old, walked_few}
use Rattle.soundness.proofs.nodes_ok.Goals as goal

pub loop-n-init : goal.loop-n-init
loop-n-init c = walking_start _ _ _ _ c.requires.1 _ c.link-n.ensures

pub returns-then-not-node_ok : goal.returns-then-not-node_ok
returns-then-not-node_ok c = no (λ N. failed c.node_ok.ensures c.if-not-node_ok.true (walking_timed _ _ _ _ _ _ _ c.loop-n.invariant c.loop-n-test.true N.line))

pub returns-then-not-order_ok : goal.returns-then-not-order_ok
returns-then-not-order_ok c = no (λ N. failed (rw c.link-next.ensures at c.order_ok.ensures) c.if-not-order_ok.true (walking_next _ _ _ _ _ _ _ c.loop-n.invariant c.loop-n-test.true N.line))

pub overflow_add-linked : goal.overflow_add-linked
overflow_add-linked c = omega (arith, walking_room _ _ _ _ _ _ _ c.loop-n.invariant c.loop-n-test.true, c.requires.0.small)

pub overflow_add-retired : goal.overflow_add-retired
overflow_add-retired c = omega (arith, c.loop-n.invariant.fewer, walking_room _ _ _ _ _ _ _ c.loop-n.invariant c.loop-n-test.true, c.from-retired.ensures, one_at_most, c.requires.0.small)

pub loop-n-smaller : goal.loop-n-smaller
loop-n-smaller c = rw c.link-next.ensures (walk_less _ _ _ _ c.loop-n.invariant.stand c.loop-n-test.true)

pub loop-n-preserved : goal.loop-n-preserved
loop-n-preserved c =
    rw (c.link-next.ensures, c.from-retired.ensures, c.cell.ensures)
    (walking_on _ _ _ _ _ _ _ c.loop-n.invariant c.loop-n-test.true (passed c.node_ok.ensures c.if-not-node_ok.false) (passed (rw c.link-next.ensures at c.order_ok.ensures) c.if-not-order_ok.false))

pub overflow_add-linked-2 : goal.overflow_add-linked-2
overflow_add-linked-2 c = omega (arith, walked_few _ _ _ _ _ _ _ c.loop-n.invariant c.loop-n-test.false, c.cell-2.ensures, c.requires.2.spares, c.requires.0.small)

pub returns-then-linked-cell : goal.returns-then-linked-cell
returns-then-linked-cell c =
    let w = c.loop-n.invariant in
    let l = c.loop-n-test.false in
    rw c.cell-then-linked-cell.ensures
    (says_eq
    (λ e.
    record {
      line = walked_line _ _ _ _ _ _ _ w l;
      full = omega (arith, walked_all _ _ _ _ _ _ _ w l, c.cell-2.ensures, c.if-linked-cell.true);
      whole = sym (walked_old _ _ _ _ _ _ _ w l) ∙ e;
    })
    (λ N. walked_old _ _ _ _ _ _ _ w l ∙ N.whole))

pub returns-else-linked-cell : goal.returns-else-linked-cell
returns-else-linked-cell c =
    says_eq (λ e. absurd (c.if-linked-cell.false e)) (λ N. omega (arith, N.full, walked_all _ _ _ _ _ _ _ c.loop-n.invariant c.loop-n-test.false, c.cell-2.ensures))
