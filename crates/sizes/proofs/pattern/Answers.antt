-- `sizes::pattern` meets its contract.
use Rattle.sizes.proofs.Ranking.{pattern_low, pattern_high}
use Rattle.sizes.proofs.pattern.Goals as goal

pub returns-then-rank-lt9223372036854775808 : goal.returns-then-rank-lt9223372036854775808
returns-then-rank-lt9223372036854775808 c = pattern_low _ c.if-rank-lt9223372036854775808.true

pub returns-else-rank-lt9223372036854775808 : goal.returns-else-rank-lt9223372036854775808
returns-else-rank-lt9223372036854775808 c = pattern_high _ c.if-rank-lt9223372036854775808.false
