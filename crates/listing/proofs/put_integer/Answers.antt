-- `listing::put_integer` meets its contract.
use mathlib.Core.Path.{ap}
use native.Mathlib.Omega.{arith}
use lib.ListN.{length}
use Rattle.lists.proofs.Signs.{neg, nonneg}
use Rattle.listing.proofs.Putting.{integer_neg, integer_pos, magnitude_neg, magnitude_pos, put_negative}
use Rattle.listing.proofs.put_integer.Goals as goal
use Rattle.listing.proofs.put_integer.Goals.{then-n-lt0, else-n-lt0}

pub put_byte-start-requires : goal.put_byte-start-requires
put_byte-start-requires c = let h = neg _ c.ranges.n c.if-n-lt0.true in omega (arith, ap length (integer_neg h.is))

pub put_natural-requires : goal.put_natural-requires
put_natural-requires c =
    elim c.if-n-lt0.branch [
      | then-n-lt0 w ↦
          let h = neg _ c.ranges.n w.if-n-lt0.true in
          rw (magnitude_neg c.ranges.n h.is c.unsigned_abs.ensures.value) (omega (arith, ap length (integer_neg h.is)))
      | else-n-lt0 w ↦
          let h = nonneg _ c.ranges.n w.if-n-lt0.false in
          rw (magnitude_pos c.ranges.n h.is c.unsigned_abs.ensures.value) (omega (arith, ap length (integer_pos h.is)))
    ]

pub returns : goal.returns
returns c =
    elim c.if-n-lt0.branch [
      | then-n-lt0 w ↦
          let h = neg _ c.ranges.n w.if-n-lt0.true in
          put_negative h.is c.requires w.put_byte-start.ensures (rw (magnitude_neg c.ranges.n h.is c.unsigned_abs.ensures.value, w.out-is, w.start-is) at c.put_natural.ensures)
      | else-n-lt0 w ↦
          let h = nonneg _ c.ranges.n w.if-n-lt0.false in
          rw (integer_pos h.is) (rw (magnitude_pos c.ranges.n h.is c.unsigned_abs.ensures.value, w.out-is, w.start-is) at c.put_natural.ensures)
    ]
