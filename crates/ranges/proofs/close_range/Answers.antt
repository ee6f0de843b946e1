-- `ranges::close_range` meets its contract: one law for each return.
use Rattle.std.proofs.Common.{add-zero, refl, sym, ◌∙◌, arith}
use Rattle.ranges.proofs.CloseCases.{close_none, close_oldest, close_later}
use Rattle.ranges.proofs.close_range.Goals as goal
use Rattle.ranges.proofs.close_range.Goals.{then-j-eq0, else-j-eq0}

pub returns-in_default : goal.returns-in_default
returns-in_default c =
    let a = c.args in
    rw (close_none a.tickets.now a.coordinator.now a.version.0 (omega (arith, c.requires.few)) (sym c.find_ticket.ensures ∙ c.in_default.is))
    (record { answer = refl; tickets = refl; coordinator = refl })

pub returns : goal.returns
returns c =
    let a = c.args in
    let p = sym c.find_ticket.ensures ∙ c.in-Some.is in
    rw c.drop_ticket.ensures
    (elim c.if-j-eq0.branch [
      | then-j-eq0 w ↦
          rw (w.due-is, w.tickets-is, close_oldest a.tickets.now a.coordinator.now a.version.0 (omega (arith, c.requires.few)) c.in-Some.j p w.if-j-eq0.true)
          (record { answer = refl; tickets = refl; coordinator = refl })
      | else-j-eq0 w ↦
          rw (w.due-is, w.tickets-is, close_later a.tickets.now a.coordinator.now a.version.0 (omega (arith, c.requires.few)) c.in-Some.j p w.if-j-eq0.false)
          (record { answer = refl; tickets = refl; coordinator = rw (add-zero a.coordinator.now.due) })
    ])
