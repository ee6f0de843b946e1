-- `sizes::remainder` meets its contract.
use Rattle.sizes.proofs.Ranking.{by_halves}
use Rattle.sizes.proofs.remainder.Goals as goal

pub returns-in-2927 : goal.returns-in-2927
returns-in-2927 c = by_halves _ _ _ _ c.remainder_by.ensures c.in-2927.is

pub returns-in-1471 : goal.returns-in-1471
returns-in-1471 c = by_halves _ _ _ _ c.remainder_by-in-1471.ensures c.in-1471.is

pub returns-in-733 : goal.returns-in-733
returns-in-733 c = by_halves _ _ _ _ c.remainder_by-in-733.ensures c.in-733.is

pub returns-in-367 : goal.returns-in-367
returns-in-367 c = by_halves _ _ _ _ c.remainder_by-in-367.ensures c.in-367.is

pub returns-in-191 : goal.returns-in-191
returns-in-191 c = by_halves _ _ _ _ c.remainder_by-in-191.ensures c.in-191.is

pub returns-in-97 : goal.returns-in-97
returns-in-97 c = by_halves _ _ _ _ c.remainder_by-in-97.ensures c.in-97.is
