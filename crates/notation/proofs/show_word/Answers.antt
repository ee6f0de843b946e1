-- `notation::show_word` meets its contract.
use mathlib.Core.Path.{sym}
use native.Mathlib.Omega.{arith}
use lib.Seq.{length-take-le}
use Rattle.listing.proofs.Putting.{put_shown_lem}
use Rattle.notation.proofs.show_word.Goals as goal

pub slice_bounds-write_text-end : goal.slice_bounds-write_text-end
slice_bounds-write_text-end c = let p = c.put_shown-end in sym (length-take-le p.result p.new.out (omega (arith, p.ensures.within, p.auto.out)))

pub returns : goal.returns
returns c = rw (← c.word_at-word.ensures.is) (rw (put_shown_lem (omega arith) c.put_shown-end.ensures) at c.write_text.ensures)
