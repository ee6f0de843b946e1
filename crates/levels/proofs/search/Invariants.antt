-- `levels::search` meets its contract. Both loops have the same invariant, `Going`: the search stands at the end of a part of the order whose keys are up to the rank.
use Rattle.std.proofs.Common.{◌≡◌, ◌+◌}
use Rattle.rows.specs.Rows.{links}
use Rattle.levels.proofs.Searching.{Going, ahead}
use Rattle.levels.proofs.search.Given as goal

abbrev pub invariant-loop-l : goal.invariant-loop-l
invariant-loop-l l = Going l.keys l.rows l.cap l.levels l.rank l.n l.l l.pairs

abbrev pub invariant-loop-m : goal.invariant-loop-m
invariant-loop-m l = Going l.keys l.rows l.cap l.levels l.rank l.n (l.l + 1) l.pairs × (l.m ≡ links l.rows l.l 0 l.n)

abbrev pub decreases-loop-m : goal.decreases-loop-m
decreases-loop-m l = ahead l.rows l.cap l.n
