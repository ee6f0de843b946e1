-- `notation::numerals::worth_of` meets its contract.
use mathlib.Core.Path.{◌≡◌}
use mathlib.Core.Bool.{true}
use Prim.Native.Nat.{◌≤◌}
use lib.ListN.{drop}
use Rattle.listing.specs.Decimals.{worth_from}
use Rattle.transactions.specs.Calls.{any}
use Rattle.notation.specs.Numerals.{all_digits}
use Rattle.notation.proofs.numerals.worth_of.Given as goal

abbrev pub invariant-loop-digit : goal.invariant-loop-digit
invariant-loop-digit l = (l.sum ≤ any) × (all_digits (drop l.digit-index l.digits) ≡ true) × (worth_from 0 l.digits ≡ worth_from l.sum (drop l.digit-index l.digits))
