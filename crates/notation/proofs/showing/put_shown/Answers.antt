-- `notation::showing::put_shown` meets its contract.
use mathlib.Core.Path.{sym}
use native.Mathlib.Omega.{arith}
use lib.Seq.{length-take-le}
use Rattle.notation.proofs.Telling.{shown_cut}
use Rattle.notation.proofs.showing.put_shown.Goals as goal

pub slice_bounds-put_bytes_shown-end : goal.slice_bounds-put_bytes_shown-end
slice_bounds-put_bytes_shown-end c = sym (length-take-le 40 c.args.word.now (omega (arith, c.if-word-le-SHOWN.false)))

pub put_bytes_shown-cut-requires : goal.put_bytes_shown-cut-requires
put_bytes_shown-cut-requires c = (rw (length-take-le 40 c.args.word.now (omega (arith, c.if-word-le-SHOWN.false))) (omega arith), omega arith)

pub returns : goal.returns
returns c = shown_cut c.args.word.now c.if-word-le-SHOWN.false c.requires c.put_bytes_shown-cut.ensures c.put_bytes.ensures
