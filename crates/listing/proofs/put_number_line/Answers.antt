-- `listing::put_number_line` meets its contract.
use native.Mathlib.Omega.{arith}
use Rattle.listing.proofs.Digits.{natural_length}
use Rattle.listing.proofs.Lining.{put_number_line_lem}
use Rattle.listing.proofs.put_number_line.Goals as goal

pub put_natural-end-requires : goal.put_natural-end-requires
put_natural-end-requires c = omega (arith, natural_length c.args.number c.ranges.number.fits)

pub put_byte-requires : goal.put_byte-requires
put_byte-requires c = omega (arith, natural_length c.args.number c.ranges.number.fits)

pub returns : goal.returns
returns c = put_number_line_lem c.ranges.number.fits c.requires c.put_bytes-space.ensures c.put_byte-start.ensures c.put_natural-end.ensures c.put_byte.ensures
