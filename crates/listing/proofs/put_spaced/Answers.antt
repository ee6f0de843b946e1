-- `listing::put_spaced` meets its contract.
use native.Mathlib.Omega.{arith}
use mir.Syntax.{w64}
use mir.ValLaws.{to_z-of_z}
use Rattle.listing.proofs.Digits.{integer_length}
use Rattle.listing.proofs.Putting.{put_space}
use Rattle.listing.proofs.put_spaced.Goals as goal

pub put_integer-requires : goal.put_integer-requires
put_integer-requires c = let f = c.ranges.n in rw (to_z-of_z w64 _ f) (omega (arith, integer_length _ f))

pub returns : goal.returns
returns c = let f = c.ranges.n in put_space f c.requires c.put_byte-next.ensures (rw (to_z-of_z w64 _ f) at c.put_integer.ensures)
