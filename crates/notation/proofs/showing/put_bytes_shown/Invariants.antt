-- `notation::showing::put_bytes_shown` meets its contract.
use mathlib.Core.List.{map}
use lib.ListN.{take}
use Rattle.listing.specs.Puts.{Put}
use Rattle.notation.specs.Showing.{shown_byte}
use Rattle.notation.proofs.showing.put_bytes_shown.Given as goal

abbrev pub invariant-loop-i : goal.invariant-loop-i
invariant-loop-i l = Put l.initial.out 0 l.i (take l.i (map shown_byte l.word)) l.out l.i
