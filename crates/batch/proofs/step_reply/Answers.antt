-- `batch::step_reply` meets its contract.
use borrow.Author.Rules.{rules}
use Rattle.batch.proofs.Pairing.{step_lands}
use Rattle.batch.proofs.step_reply.Goals as goal

pub returns : goal.returns
returns c =
    let a = c.args in
    step_lands a.keys.now a.values.now a.rows.now a.tickets.now a.ranges a.version.0 a.n a.out_keys.now a.out_values.now c.requires.1 c.requires.2
    c.step_room-places.ensures c.step_range-answer.ensures (search rules)
