-- `notation::putting::put_two` meets its contract.
use mathlib.Core.List.{[], ◌∷◌}
use native.Mathlib.Omega.{arith}
use Rattle.notation.specs.Forms.{name_of}
use Rattle.notation.proofs.Texting.{line_name, line_signed, line_end}
use Rattle.notation.proofs.putting.put_two.Goals as goal

pub returns : goal.returns
returns c =
    let a = c.args in
    let room = c.requires.1 in
    let w = name_of a.code in
    let first = line_signed 80 w [] a.a c.ranges.a room (line_name c.put_name-name.ensures) c.put_spaced-first.ensures (omega arith) in
    let second = line_signed 80 w (a.a ∷ []) a.b c.ranges.b room first c.put_spaced-end.ensures (omega arith) in
    line_end w (a.a ∷ a.b ∷ []) room second c.put_bytes.ensures (omega arith)
