-- `places::retire` meets its contract.
use Prim.Native.Nat.{◌<◌}
use native.Mathlib.Omega.{arith}
use Rattle.places.specs.Places.{ring_count}
use Rattle.places.specs.Stores.{stored}
use Rattle.places.specs.Changes.{retired}
use Rattle.places.proofs.Wraps.{slot_lt}
use Rattle.places.proofs.Lists.{ring_length}
use Rattle.places.proofs.retire.Goals as goal

pub overflow_add-front : goal.overflow_add-front
overflow_add-front c = omega (arith, ring_length c.args.rows.now c.args.cap)

pub put-requires : goal.put-requires
put-requires c =
    let short : ring_count c.args.rows.now c.args.cap < c.args.cap = omega (arith, ring_length c.args.rows.now c.args.cap) in
    let inside : c.wrap-seat.result < c.args.cap = rw (c.wrap-seat.ensures, c.cell-front.ensures, c.cell-count.ensures) (slot_lt c.requires.2 short) in
    omega (arith, inside, c.requires.0)

pub overflow_add-count : goal.overflow_add-count
overflow_add-count c = omega (arith, c.requires, c.cell-count.ensures, ring_length c.args.rows.now c.args.cap)

pub returns : goal.returns
unfolding retired stored
returns c = rw (c.put-4.ensures, c.put-3.ensures, c.put-2.ensures, c.put.ensures, c.wrap-seat.ensures, c.cell-count.ensures, c.cell-front.ensures)
