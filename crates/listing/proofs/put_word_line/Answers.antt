-- `listing::put_word_line` meets its contract.
use Rattle.listing.proofs.Lining.{put_word_line_lem}
use Rattle.listing.proofs.put_word_line.Goals as goal

pub returns : goal.returns
returns c = put_word_line_lem c.requires c.put_bytes-next.ensures c.put_byte.ensures
