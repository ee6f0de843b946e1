-- `lines::put_transaction` meets its contract.
use Rattle.lines.proofs.Telling.{code_natural, result_natural}
use Rattle.lines.proofs.Lining.{told_line}
use Rattle.lines.proofs.put_transaction.Goals as goal

pub natural-requires : goal.natural-requires
natural-requires c = code_natural c.requires.0.told.celled

pub natural-requires-2 : goal.natural-requires-2
natural-requires-2 c = result_natural c.requires.0.told.celled

pub returns : goal.returns
returns c = λ code answer k. told_line k _ c.natural.ensures c.natural-2.ensures c.shown_cells-count.ensures c.put_line.ensures
