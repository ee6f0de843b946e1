-- `ranges::find_ticket` meets its contract.
use Rattle.std.proofs.Common.{eqb, rules, tests}
use Rattle.std.proofs.lemmas.Iterator.{YieldsList-from_slice}
use Rattle.std.proofs.lemmas.Iterator.Search.{position_from_yields_List}
use Rattle.tables.specs.declared.Ticket.{Ticket}
use Rattle.ranges.proofs.Tickets.{index_first}
use Rattle.ranges.proofs.find_ticket.Goals as goal

pub returns : goal.returns
returns c =
    let a = c.args in
    rw (index_first a.version.0 a.tickets.now)
    (position_from_yields_List (λ (x : Ticket). eqb x.version.0 a.version.0) _ _ c.position.result c.position.ensures.ran (YieldsList-from_slice a.tickets.now cc) (λ x b q k. search (rules, tests)))
