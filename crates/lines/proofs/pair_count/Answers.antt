-- `lines::pair_count` meets its contract.
use mathlib.Core.Path.{sym, ◌∙◌}
use Rattle.lines.proofs.Telling.{code_natural, result_natural, count_natural, count_is, refused_pairs, no_pairs}
use Rattle.lines.proofs.pair_count.Goals as goal

pub natural-requires : goal.natural-requires
natural-requires c = result_natural c.requires.celled

pub returns-then-natural-ne0 : goal.returns-then-natural-ne0
returns-then-natural-ne0 c = λ code answer k. refused_pairs k (code_natural k).is c.natural.ensures c.if-natural-ne0.true

pub natural-requires-2 : goal.natural-requires-2
natural-requires-2 c = code_natural c.requires.celled

pub natural-requires-then-hands_out : goal.natural-requires-then-hands_out
natural-requires-then-hands_out c = count_natural c.requires.celled c.natural-2.ensures c.natural.ensures c.if-natural-ne0.false (sym c.hands_out.ensures ∙ c.if-hands_out.true)

pub returns-then-hands_out : goal.returns-then-hands_out
returns-then-hands_out c = λ code answer k. count_is k c.natural-2.ensures c.natural.ensures c.if-natural-ne0.false (sym c.hands_out.ensures ∙ c.if-hands_out.true) c.natural-then-hands_out.ensures

pub returns : goal.returns
returns c = λ code answer k. no_pairs k c.natural-2.ensures c.natural.ensures c.if-natural-ne0.false (sym c.hands_out.ensures ∙ c.if-hands_out.false)
