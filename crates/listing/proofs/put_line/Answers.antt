-- `listing::put_line` meets its contract.
use native.Mathlib.Omega.{arith}
use Rattle.listing.specs.Lines.{paired}
use Rattle.listing.proofs.Digits.{natural_length}
use Rattle.listing.proofs.Lining.{put_line_lem}
use Rattle.listing.proofs.put_line.Goals as goal

pub put_natural-first-requires : goal.put_natural-first-requires
put_natural-first-requires c = omega (arith, natural_length c.args.number c.ranges.number.fits)

pub put_numbers-second-requires : goal.put_numbers-second-requires
put_numbers-second-requires c = omega (arith, natural_length c.args.number c.ranges.number.fits)

pub put_pairs-third-requires : goal.put_pairs-third-requires
put_pairs-third-requires c = omega (arith, natural_length c.args.number c.ranges.number.fits)

pub put_byte-requires : goal.put_byte-requires
put_byte-requires c = omega (arith, natural_length c.args.number c.ranges.number.fits)

pub returns : goal.returns
returns c =
    let a = c.args in
    put_line_lem a.numbers.now (paired a.keys.now a.values.now) _ _ c.ranges.number.fits c.requires c.put_natural-first.ensures c.put_numbers-second.ensures c.put_pairs-third.ensures c.put_byte.ensures
