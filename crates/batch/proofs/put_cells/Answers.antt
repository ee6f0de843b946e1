-- `batch::put_cells` meets its contract: five cells are copied.
use Rattle.std.proofs.Common.{◌≡◌, ◌+◌, ◌*◌, ◌-◌, length, arith, rules}
use lib.Seq.{drop-drop}
use Rattle.lists.specs.Buffers.{written}
use Rattle.batch.proofs.put_cells.Goals as goal

pub returns : goal.returns
unfolding written
returns c =
    let at = c.args.calls * 5 in
    let n : at + 5 - at ≡ 5 = omega arith in
    let five : length c.args.cells ≡ 5 = search rules in
    rw (n, c.copy_from_slice.ensures.after, drop-drop 5 at c.args.answers.now, five)
