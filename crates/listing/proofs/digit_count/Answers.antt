-- `listing::digit_count` meets its contract: the digits counted so far and those of what is left are all of them, and one.
use native.Mathlib.Omega.{arith}
use Rattle.listing.proofs.Digits.{count_one, count_more, digits_some, natural_length}
use Rattle.listing.proofs.digit_count.Goals as goal

pub overflow_add-count : goal.overflow_add-count
overflow_add-count c = omega (arith, digits_some c.loop-rest.rest, natural_length c.args.n (omega arith))

pub loop-rest-preserved : goal.loop-rest-preserved
loop-rest-preserved c = omega (arith, count_more c.loop-rest.rest (omega arith))

pub returns : goal.returns
returns c = omega (arith, count_one c.loop-rest.rest (omega arith))
