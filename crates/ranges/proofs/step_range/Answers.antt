-- `ranges::step_range` meets its contract: one law for each return.
use mathlib.Core.Path.{refl, sym, ◌∙◌}
use native.Mathlib.Omega.{arith}
use Rattle.ranges.proofs.Tickets.{is_found}
use Rattle.ranges.proofs.Walking.{walked_few}
use Rattle.ranges.proofs.StepCases.{step_none, step_full, step_on}
use Rattle.ranges.proofs.step_range.Goals as goal

pub returns-in_default : goal.returns-in_default
returns-in_default c =
    let a = c.args in
    step_none a.keys.now a.values.now a.rows.now a.tickets.now a.ranges a.version.0 a.out_keys.now a.out_values.now (omega (arith, c.requires.few)) (sym c.find_ticket.ensures ∙ c.in_default.is)

pub returns-then-room-eq0 : goal.returns-then-room-eq0
returns-then-room-eq0 c =
    let a = c.args in
    step_full a.keys.now a.values.now a.rows.now a.tickets.now a.ranges a.version.0 a.out_keys.now a.out_values.now (omega (arith, c.requires.few)) c.in-Some.j (sym c.find_ticket.ensures ∙ c.in-Some.is) (sym c.min-room.ensures ∙ c.if-room-eq0.true)

pub overflow_cast-result : goal.overflow_cast-result
overflow_cast-result c = omega (arith, walked_few c.walk_range-walked.ensures, (c.requires.ready c.in-Some.j (is_found c.args.version.0 c.args.ranges c.args.tickets.now c.in-Some.j (omega (arith, c.requires.few)) (sym c.find_ticket.ensures ∙ c.in-Some.is)).2).small)

pub returns : goal.returns
returns c =
    let a = c.args in
    let walked = rw (c.from.ensures, c.min-room.ensures) at c.walk_range-walked.ensures in
    step_on a.keys.now a.values.now a.rows.now a.tickets.now a.ranges a.version.0 a.out_keys.now a.out_values.now (omega (arith, c.requires.few)) c.in-Some.j (sym c.find_ticket.ensures ∙ c.in-Some.is) _ _ _ c.walk_range-walked.result (λ z. c.if-room-eq0.false (c.min-room.ensures ∙ z)) walked refl
