-- `soundness::lists_ok` meets its contract.
use mathlib.Core.Path.{sym, ◌∙◌}
use native.Mathlib.Omega.{arith}
use Rattle.lists.proofs.Answers.{no, failed}
use Rattle.rows.specs.Rows.{removals}
use Rattle.places.specs.Places.{ring_of}
use Rattle.places.proofs.Lists.{ring_length}
use Rattle.soundness.proofs.Ringing.{listed_here}
use Rattle.soundness.proofs.lists_ok.Goals as goal
use Rattle.soundness.proofs.lists_ok.Goals.{then-size-count-via-then-size-count, then-size-count-via-else-size-count+then-not-gone_ok}

pub loop-ticket-init : goal.loop-ticket-init
loop-ticket-init c = record { counted = c.cell-count.ensures ∙ sym (ring_length _ _); within = omega arith; back = λ h. h; forth = λ h. h }

pub returns-then-size-count : goal.returns-then-size-count
returns-then-size-count c =
    no
    (λ L.
    let h =
    listed_here (removals c.args.rows.now) (ring_of c.args.rows.now c.args.cap) c.args.tickets.now c.loop-ticket.start c.loop-ticket.size c.loop-ticket.ticket-index c.loop-ticket-test.true
    (c.loop-ticket.invariant.forth L) in
    elim c.then-size-count.branch [
      | then-size-count-via-then-size-count w ↦ omega (arith, h.0, c.loop-ticket.invariant.counted, w.if-size-count.true)
      | then-size-count-via-else-size-count+then-not-gone_ok w ↦ failed w.gone_ok.ensures w.if-not-gone_ok.true h.1
    ])
