-- `rank::rank` meets its contract.
use mathlib.Core.Path.{sym, ap}
use native.Mathlib.Omega.{arith}
use Rattle.sizes.specs.Rank.{rank_of}
use Rattle.lists.proofs.Signs.{neg, nonneg}
use Rattle.sizes.proofs.rank.Goals as goal

pub overflow_cast-result : goal.overflow_cast-result
overflow_cast-result c = let h = neg c.args.k c.ranges.k c.if-k-lt0.true in (rw h.flip tt, rw h.flip (record { fits = omega (arith, h.small) }))

pub overflow_sub-result : goal.overflow_sub-result
overflow_sub-result c = let h = neg c.args.k c.ranges.k c.if-k-lt0.true in rw h.flip (omega (arith, h.small))

pub overflow_cast-result-else-k-lt0 : goal.overflow_cast-result-else-k-lt0
overflow_cast-result-else-k-lt0 c = let h = nonneg c.args.k c.ranges.k c.if-k-lt0.false in (rw h.same tt, rw h.same (record { fits = omega (arith, h.small) }))

pub overflow_add-result : goal.overflow_add-result
overflow_add-result c = let h = nonneg c.args.k c.ranges.k c.if-k-lt0.false in rw h.same (record { fits = omega (arith, h.small) })

pub returns-then-k-lt0 : goal.returns-then-k-lt0
returns-then-k-lt0 c = let h = neg c.args.k c.ranges.k c.if-k-lt0.true in rw h.flip (sym (ap rank_of h.is))

pub returns-else-k-lt0 : goal.returns-else-k-lt0
returns-else-k-lt0 c = let h = nonneg c.args.k c.ranges.k c.if-k-lt0.false in rw h.same (sym (ap rank_of h.is))
