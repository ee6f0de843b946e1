-- `ranges::fast_range` meets its contract: one law for each return.
use mathlib.Core.Path.{◌≡◌}
use mathlib.Core.Bool.{true, false}
use native.Mathlib.Omega.{arith}
use lib.ListN.{length}
use mir.Syntax.{w64}
use mir.ValLaws.{to_z-of_z}
use borrow.Author.Tests.{not-true, not-false}
use Rattle.finds.specs.Near.{near_of}
use Rattle.ranges.proofs.Walking.{walked_few, walked_laid}
use Rattle.ranges.proofs.OpenCases.{signed_lt}
use Rattle.ranges.proofs.FastCases.{fast_walk, fast_crossed, fast_many, fast_full, fast_given_lem}
use Rattle.ranges.proofs.fast_range.Goals as goal

pub returns-then-high-low : goal.returns-then-high-low
returns-then-high-low c =
    let a = c.args in
    let f = c.ranges in
    fast_crossed a.keys.now a.values.now a.rows.now a.counter.0 a.low a.high a.out_keys.now a.out_values.now (signed_lt a.high a.low true f.high f.low c.if-high-low.true)

pub walk_range-walked-requires : goal.walk_range-walked-requires
walk_range-walked-requires c =
    let a = c.args in
    let e : c.near-rest.result ≡ near_of a.keys.now a.rows.now (length a.keys.now) c.rank.result 0 true = c.near-rest.ensures in
    (rw e (fast_walk a.keys.now a.values.now a.rows.now a.buckets.now c.requires c.rank.result), omega arith, omega arith)

pub returns-then-not-walked : goal.returns-then-not-walked
returns-then-not-walked c =
    let a = c.args in
    let f = c.ranges in
    let walked = rw (c.from.ensures, c.near-rest.ensures, c.rank-2.ensures, c.rank.ensures, to_z-of_z w64 a.high f.high, to_z-of_z w64 a.low f.low) at c.walk_range-walked.ensures in
    fast_many a.keys.now a.values.now a.rows.now a.counter.0 a.low a.high a.out_keys.now a.out_values.now (signed_lt a.high a.low false f.high f.low c.if-high-low.false) _ _ _ _ c.walk_range-walked.result walked (not-true _ c.if-not-walked.true)

pub returns-then-min-count : goal.returns-then-min-count
returns-then-min-count c =
    let a = c.args in
    let f = c.ranges in
    let walked = rw (c.from.ensures, c.near-rest.ensures, c.rank-2.ensures, c.rank.ensures, to_z-of_z w64 a.high f.high, to_z-of_z w64 a.low f.low) at c.walk_range-walked.ensures in
    fast_full a.keys.now a.values.now a.rows.now a.counter.0 a.low a.high a.out_keys.now a.out_values.now (signed_lt a.high a.low false f.high f.low c.if-high-low.false) _ _ _ _ c.walk_range-walked.result walked (not-false _ c.if-not-walked.false) (rw c.min.ensures at c.if-min-count.true)

pub lay-requires : goal.lay-requires
lay-requires c = ((walked_laid c.walk_range-walked.ensures).0, omega (arith, c.min.ensures))

pub lay-requires-2 : goal.lay-requires-2
lay-requires-2 c = ((walked_laid c.walk_range-walked.ensures).1, omega (arith, c.min.ensures))

pub overflow_cast-result : goal.overflow_cast-result
overflow_cast-result c = omega (arith, walked_few c.walk_range-walked.ensures, c.requires.near.small)

pub returns : goal.returns
returns c =
    let a = c.args in
    let f = c.ranges in
    let walked = rw (c.from.ensures, c.near-rest.ensures, c.rank-2.ensures, c.rank.ensures, to_z-of_z w64 a.high f.high, to_z-of_z w64 a.low f.low) at c.walk_range-walked.ensures in
    fast_given_lem a.keys.now a.values.now a.rows.now a.counter.0 a.low a.high a.out_keys.now a.out_values.now (signed_lt a.high a.low false f.high f.low c.if-high-low.false) _ _ _ _ c.walk_range-walked.result walked (not-false _ c.if-not-walked.false) _ _ (rw c.min.ensures at c.if-min-count.false) c.lay.ensures c.lay-2.ensures
