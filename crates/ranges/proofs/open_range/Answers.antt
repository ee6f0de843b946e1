-- `ranges::open_range` meets its contract: one law for each return.
use mathlib.Core.Path.{refl}
use mathlib.Core.Bool.{true, false}
use native.Mathlib.Omega.{arith}
use mir.Syntax.{w64}
use mir.ValLaws.{to_z-of_z}
use Rattle.ranges.proofs.OpenCases.{signed_lt, open_crossed, open_full, open_last, open_new}
use Rattle.ranges.proofs.open_range.Goals as goal

pub returns-then-high-low : goal.returns-then-high-low
returns-then-high-low c =
    let a = c.args in
    rw (open_crossed a.keys.now a.rows.now a.tickets.now a.coordinator.now a.low a.high (signed_lt a.high a.low true c.ranges.high c.ranges.low c.if-high-low.true))
    (record { answer = refl; tickets = refl; coordinator = refl })

pub returns-then-coordinator-ge16 : goal.returns-then-coordinator-ge16
returns-then-coordinator-ge16 c =
    let a = c.args in
    rw (open_full a.keys.now a.rows.now a.tickets.now a.coordinator.now a.low a.high (signed_lt a.high a.low false c.ranges.high c.ranges.low c.if-high-low.false) c.if-coordinator-ge16.true)
    (record { answer = refl; tickets = refl; coordinator = refl })

pub returns-in_default : goal.returns-in_default
returns-in_default c =
    let a = c.args in
    rw (open_last a.keys.now a.rows.now a.tickets.now a.coordinator.now a.low a.high (signed_lt a.high a.low false c.ranges.high c.ranges.low c.if-high-low.false) c.if-coordinator-ge16.false (omega (arith, c.in_default.ensures)))
    (record { answer = refl; tickets = refl; coordinator = refl })

pub returns : goal.returns
returns c =
    let a = c.args in
    rw (
      open_new a.keys.now a.rows.now a.tickets.now a.coordinator.now a.low a.high (signed_lt a.high a.low false c.ranges.high c.ranges.low c.if-high-low.false) c.if-coordinator-ge16.false (omega (arith, c.in-Some.ensures)),
      c.near.ensures,
      c.rank.ensures,
      c.rank-bottom.ensures,
      to_z-of_z w64 a.high c.ranges.high,
      to_z-of_z w64 a.low c.ranges.low,
      c.in-Some.ensures.1,
    )
    (record { answer = refl; tickets = refl; coordinator = refl })
