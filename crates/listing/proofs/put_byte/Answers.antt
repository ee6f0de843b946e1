-- `listing::put_byte` meets its contract.
use Rattle.listing.proofs.Putting.{put_one}
use Rattle.listing.proofs.put_byte.Goals as goal

pub returns : goal.returns
returns c = put_one _ _ _ c.requires
