-- `notation::write_text` meets its contract.
use Rattle.groups.proofs.Writing.{writes_short}
use Rattle.notation.proofs.Texting.{put_writes}
use Rattle.notation.proofs.write_text.Goals as goal

pub returns-then-buffer-text : goal.returns-then-buffer-text
returns-then-buffer-text c = writes_short _ _ c.if-buffer-text.true

pub returns : goal.returns
returns c = put_writes c.if-buffer-text.false c.put_bytes.ensures
