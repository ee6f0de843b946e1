-- `notation::putting::put_insert` meets its contract.
use mathlib.Core.List.{[], ◌∷◌}
use native.Mathlib.Omega.{arith}
use Rattle.notation.specs.Forms.{name_of}
use lib.IntN.{pos}
use Rattle.listing.proofs.Digits.{natural_length}
use Rattle.notation.proofs.Texting.{line_name, line_number, line_signed, line_end, put_coin}
use Rattle.notation.proofs.putting.put_insert.Goals as goal

pub put_natural-end-requires : goal.put_natural-end-requires
put_natural-end-requires c = omega (arith, natural_length c.args.coin (omega (arith, c.ranges.coin)))

pub put_bytes-requires : goal.put_bytes-requires
put_bytes-requires c = omega (arith, natural_length c.args.coin (omega (arith, c.ranges.coin)))

pub returns : goal.returns
returns c =
    let a = c.args in
    let room = c.requires in
    let w = name_of 1 in
    let first = line_signed 80 w [] a.key c.ranges.key room (line_name c.put_name-name.ensures) c.put_spaced-first.ensures (omega arith) in
    let second = line_signed 80 w (a.key ∷ []) a.value c.ranges.value room first c.put_spaced-second.ensures (omega arith) in
    let coin = put_coin a.coin (omega (arith, c.ranges.coin)) c.put_bytes-space.ensures c.put_natural-end.ensures (omega arith) in
    let third = line_number 80 w (a.key ∷ a.value ∷ []) (pos a.coin) room second coin (omega arith) in
    line_end w (a.key ∷ a.value ∷ pos a.coin ∷ []) room third c.put_bytes.ensures (omega arith)
