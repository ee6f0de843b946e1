-- `ranges::walk_range` meets its contract. The invariant: what was handed out, with what is ahead, is all that the range may rest on.
use mathlib.Core.Path.{sym, ◌∙◌}
use native.Mathlib.Omega.{arith}
use lib.ListN.{get_or}
use lib.IntN.{pos}
use mir.Syntax.{w64}
use mir.ValLaws.{to_z-of_z}
use borrow.Author.Tests.{lt-ltb, le-ltb}
use Rattle.ranges.proofs.Walking.{going_start, going_skip, going_take, going_less, going_tail, going_high, going_full}
use Rattle.ranges.proofs.walk_range.Goals as goal
use Rattle.ranges.proofs.walk_range.Goals.{then-finished-via-then-finished, then-finished-via-else-finished+then-room-count, then-may_rest+else-finished+else-room-count, else-may_rest}

pub loop-m-init : goal.loop-m-init
loop-m-init c = going_start _ _ _ _ _ _ _ c.requires.0

pub returns-then-finished : goal.returns-then-finished
returns-then-finished c =
    let e = sym c.may_rest.ensures ∙ c.if-may_rest.true in
    elim c.then-finished.branch [
      | then-finished-via-then-finished w ↦ rw (lt-ltb _ _ w.if-finished.true) (going_high _ _ _ _ _ _ _ _ _ _ _ c.loop-m.invariant (omega arith) e c.requires.0 w.if-finished.true)
      | then-finished-via-else-finished+then-room-count w ↦ rw (le-ltb _ _ w.if-finished.false) (going_full _ _ _ _ _ _ _ _ _ _ _ c.loop-m.invariant (omega arith) e w.if-finished.false w.if-room-count.true)
    ]

pub loop-m-smaller : goal.loop-m-smaller
loop-m-smaller c = rw c.link-m.ensures (going_less _ _ _ _ _ _ _ _ _ _ _ c.loop-m.invariant (omega arith))

pub loop-m-preserved : goal.loop-m-preserved
loop-m-preserved c =
    elim c.if-may_rest.branch [
      | then-may_rest+else-finished+else-room-count w ↦
          let ek = to_z-of_z w64 w.unrank.result (record { sfits = w.unrank.type_inv }) in
          let ev = to_z-of_z w64 (get_or c.args.values.now c.loop-m.m (pos 0)) (record { sfits = omega arith }) in
          rw (w.out_keys-is, w.out_values-is, w.count-is, c.link-m.ensures, ek, ev, w.unrank.ensures)
          (going_take _ _ _ _ _ _ _ _ _ _ _ c.loop-m.invariant (omega arith) (sym c.may_rest.ensures ∙ w.if-may_rest.true) w.if-finished.false w.if-room-count.false c.requires.1 c.requires.2)
      | else-may_rest w ↦
          rw (w.out_keys-is, w.out_values-is, w.count-is, c.link-m.ensures)
          (going_skip _ _ _ _ _ _ _ _ _ _ _ c.loop-m.invariant (omega arith) (sym c.may_rest.ensures ∙ w.if-may_rest.false))
    ]

pub returns : goal.returns
returns c = going_tail _ _ _ _ _ _ _ _ _ _ _ c.loop-m.invariant (omega arith)
