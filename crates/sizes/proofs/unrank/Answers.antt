-- `rank::unrank` meets its contract.
use native.Mathlib.Omega.{arith}
use Rattle.sizes.proofs.Ranking.{key_low, key_high}
use Rattle.sizes.proofs.unrank.Goals as goal

pub returns-then-r-lt9223372036854775808 : goal.returns-then-r-lt9223372036854775808
returns-then-r-lt9223372036854775808 c = key_low c.args.r c.if-r-lt9223372036854775808.true

pub returns-else-r-lt9223372036854775808 : goal.returns-else-r-lt9223372036854775808
returns-else-r-lt9223372036854775808 c = key_high c.args.r (omega arith) c.if-r-lt9223372036854775808.false
