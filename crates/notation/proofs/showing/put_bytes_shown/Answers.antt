-- `notation::showing::put_bytes_shown` meets its contract.
use native.Mathlib.Omega.{arith}
use Rattle.listing.proofs.Putting.{put_none_lem}
use Rattle.notation.proofs.Telling.{shown_next, shown_bytes}
use Rattle.notation.proofs.showing.put_bytes_shown.Goals as goal

pub loop-i-init : goal.loop-i-init
loop-i-init c = put_none_lem _ 0

pub loop-i-preserved : goal.loop-i-preserved
loop-i-preserved c = shown_next _ _ c.args.word.now _ _ (omega arith) (omega arith) c.loop-i-test.true c.loop-i.invariant c.shown_byte.ensures

pub returns : goal.returns
returns c = shown_bytes _ _ c.args.word.now _ c.requires.0 (omega arith) c.loop-i.invariant
