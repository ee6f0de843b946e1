-- `groups::length_of` meets its contract.
use native.Mathlib.Omega.{arith}
use Rattle.groups.proofs.Grouping.{groups_short, length_low, length_step}
use Rattle.groups.proofs.length_of.Goals as goal

pub overflow_add-count : goal.overflow_add-count
overflow_add-count c = omega (arith, groups_short _ c.loop-rest.invariant.1)

pub loop-rest-preserved : goal.loop-rest-preserved
loop-rest-preserved c = (omega (arith, length_step _ c.loop-rest-test.true), c.loop-rest.invariant.1)

pub returns : goal.returns
returns c = omega (arith, length_low _ c.loop-rest-test.false, groups_short _ c.loop-rest.invariant.1)
