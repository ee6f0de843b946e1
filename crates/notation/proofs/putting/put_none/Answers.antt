-- `notation::putting::put_none` meets its contract.
use mathlib.Core.List.{[]}
use native.Mathlib.Omega.{arith}
use Rattle.notation.specs.Forms.{name_of}
use Rattle.notation.proofs.Texting.{line_name, line_end}
use Rattle.notation.proofs.putting.put_none.Goals as goal

pub returns : goal.returns
returns c = line_end (name_of c.args.code) [] c.requires.1 (line_name c.put_name-end.ensures) c.put_bytes.ensures (omega arith)
