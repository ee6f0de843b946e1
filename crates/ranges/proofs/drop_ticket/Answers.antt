-- `ranges::drop_ticket` meets its contract.
use Rattle.std.proofs.Common.{◌≡◌, ◌-◌, ◌+◌, sym, ◌∙◌, arith}
use Rattle.ranges.proofs.Tickets.{slide_step, slide_end}
use Rattle.ranges.proofs.drop_ticket.Goals as goal

pub loop-i-preserved : goal.loop-i-preserved
loop-i-preserved c =
    let same : c.loop-i.i + 1 - 1 ≡ c.loop-i.i = omega arith in
    rw same (slide_step c.loop-i.i c.args.ranges c.loop-i.tickets (omega arith) (omega arith) (omega arith) ∙ c.loop-i.invariant)

pub returns : goal.returns
returns c = sym (slide_end (c.loop-i.i - 1) c.args.ranges c.loop-i.tickets (omega arith) (omega arith)) ∙ c.loop-i.invariant
