-- `places::take_front` meets its contract: the front is the head of the list.
use mathlib.Core.Path.{sym}
use native.Mathlib.Omega.{arith}
use Rattle.places.specs.Stores.{stored}
use Rattle.places.specs.Changes.{taken}
use Rattle.places.proofs.Lists.{ring_length, queued_head}
use Rattle.places.proofs.take_front.Goals as goal

pub overflow_sub-count : goal.overflow_sub-count
overflow_sub-count c = omega (arith, c.requires, c.cell-count.ensures, ring_length c.args.rows.now c.args.cap)

pub returns : goal.returns
unfolding taken stored
returns c =
    let some = c.requires.2 in (
      rw (c.put-2.ensures, c.put.ensures, c.wrap-next.ensures, c.cell-count.ensures, c.cell-front.ensures),
      rw (c.cell-n.ensures, c.cell-front.ensures) (sym (queued_head _ _ _ _ c.requires.1 (rw (ring_length c.args.rows.now c.args.cap) at some))),
    )
