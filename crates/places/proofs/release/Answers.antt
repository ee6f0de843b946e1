-- `places::release` meets its contract.
use native.Mathlib.Omega.{arith}
use Rattle.places.specs.Stores.{stored}
use Rattle.places.specs.Changes.{released}
use Rattle.places.proofs.Lists.{free_length}
use Rattle.places.proofs.release.Goals as goal

pub put-requires : goal.put-requires
put-requires c = omega (arith, free_length c.args.rows.now c.args.cap)

pub overflow_add-seat : goal.overflow_add-seat
overflow_add-seat c = omega (arith, c.requires, c.cell-seat.ensures, free_length c.args.rows.now c.args.cap)

pub returns : goal.returns
unfolding released stored
returns c = rw (c.put-4.ensures, c.put-3.ensures, c.put-2.ensures, c.put.ensures, c.cell-seat.ensures)
