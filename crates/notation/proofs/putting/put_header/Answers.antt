-- `notation::putting::put_header` meets its contract.
use mathlib.Core.Path.{◌∙◌}
use mathlib.Core.List.{[], ◌∷◌, ◌++◌}
use native.Mathlib.Omega.{arith}
use lib.IntN.{pos}
use Rattle.listing.specs.Lines.{spaced}
use Rattle.listing.proofs.Putting.{put_then}
use Rattle.notation.specs.Forms.{name_of, start}
use Rattle.notation.proofs.Texting.{line_name, line_number, line_end, handed}
use Rattle.notation.proofs.putting.put_header.Goals as goal

pub returns : goal.returns
unfolding start
returns c =
    let h = c.args.header in
    let room = c.requires in
    let w = name_of 14 in
    let capacity = rw (handed c.from.result c.from.type_inv ∙ c.from.ensures) at c.put_spaced-first.ensures in
    let first = line_number 80 w [] (pos h.capacity) room (line_name c.put_name-name.ensures) capacity (omega arith) in
    let word = put_then (omega arith) first c.put_bytes-word.ensures in
    let begun = (w ++ spaced (pos h.capacity ∷ [])) ++ (32 ∷ start) in
    let version = rw (handed c.from-2.result c.from-2.type_inv ∙ c.from-2.ensures) at c.put_spaced-end.ensures in
    let second = line_number 80 begun [] (pos h.start.0) room (line_name word) version (omega arith) in
    line_end begun (pos h.start.0 ∷ []) room second c.put_bytes.ensures (omega arith)
