-- `notation::forms::put_name` meets its contract.
use native.Mathlib.Omega.{arith}
use Rattle.listing.proofs.Putting.{put_wider}
use Rattle.notation.proofs.Forming.{name_short}
use Rattle.notation.proofs.forms.put_name.Goals as goal

pub put_bytes-requires : goal.put_bytes-requires
put_bytes-requires c = rw c.name_of.ensures (omega (arith, name_short c.args.number, c.requires.1))

pub returns : goal.returns
returns c = put_wider (name_short c.args.number) (rw c.name_of.ensures at c.put_bytes.ensures)
