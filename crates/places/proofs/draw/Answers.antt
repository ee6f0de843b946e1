-- `places::draw` meets its contract: the top is the head of the list.
use mathlib.Core.Path.{sym, ◌∙◌}
use native.Mathlib.Omega.{arith}
use Rattle.places.specs.Stores.{stored}
use Rattle.places.specs.Changes.{drawn}
use Rattle.places.proofs.Lists.{free_length, stacked_head}
use Rattle.places.proofs.draw.Goals as goal

pub overflow_sub-top : goal.overflow_sub-top
overflow_sub-top c = omega (arith, free_length c.args.rows.now c.args.cap)

pub returns : goal.returns
unfolding drawn stored
returns c =
    let some = c.requires.2 in
    let e = c.cell-top.ensures in
    (rw (c.put.ensures, e), c.cell-n.ensures ∙ rw e (sym (stacked_head _ _ (rw (free_length c.args.rows.now c.args.cap) at some))))
