-- `listing::put_numbers` meets its contract: those before the index are put.
use lib.ListN.{take}
use Rattle.listing.specs.Lines.{spaced}
use Rattle.listing.specs.Puts.{longest, Put}
use Rattle.listing.proofs.put_numbers.Given as goal

abbrev pub invariant-loop-number : goal.invariant-loop-number
invariant-loop-number l = Put l.initial.out l.at (longest l.number-index) (spaced (take l.number-index l.numbers)) l.out l.next
