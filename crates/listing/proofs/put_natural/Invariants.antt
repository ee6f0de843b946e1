-- `listing::put_natural` meets its contract: the digits left, written before those that stand, make the whole text.
use mathlib.Core.Path.{◌≡◌}
use Prim.Native.Nat.{◌-◌}
use Rattle.lists.specs.Buffers.{written}
use Rattle.listing.specs.Decimals.{digits}
use Rattle.listing.proofs.Digits.{last_digits}
use Rattle.listing.proofs.put_natural.Given as goal

abbrev pub invariant-loop-i : goal.invariant-loop-i
invariant-loop-i l = written l.out l.at (last_digits (l.i - l.at) l.rest) ≡ written l.initial.out l.at (digits l.n)
