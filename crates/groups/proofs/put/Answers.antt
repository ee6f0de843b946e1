-- `groups::put` meets its contract.
use Prim.Native.Nat.{◌+◌, ◌%◌}
use mathlib.Core.Path.{sym, ◌∙◌}
use native.Mathlib.Omega.{arith}
use lib.ListN.{length-set}
use Rattle.groups.proofs.Grouping.{groups_some, length_low, length_step, sets_low, sets_step}
use Rattle.groups.proofs.put.Goals as goal

pub bounds-buffer-place : goal.bounds-buffer-place
bounds-buffer-place c = omega (arith, groups_some c.loop-left.left)

pub loop-left-preserved : goal.loop-left-preserved
loop-left-preserved c =
    let l = c.loop-left in (
      omega (arith, length_step l.left c.loop-left-test.true),
      length-set l.buffer l.place (l.left % 128 + 128) ∙ l.invariant.1,
      sym (sets_step l.buffer l.place l.left c.loop-left-test.true) ∙ l.invariant.2,
    )

pub bounds-buffer-place-2 : goal.bounds-buffer-place-2
bounds-buffer-place-2 c = omega (arith, groups_some c.loop-left.left)

pub returns : goal.returns
returns c =
    let l = c.loop-left in (
      omega (arith, length_low l.left c.loop-left-test.false),
      sym (sets_low l.buffer l.place l.left c.loop-left-test.false) ∙ l.invariant.2,
    )
