-- `ranges::lay` meets its contract.
use Rattle.std.proofs.Common.{take}
use lib.Seq.{length-take-le}
use Rattle.ranges.proofs.Walking.{written_front}
use Rattle.ranges.proofs.lay.Goals as goal

pub returns : goal.returns
returns c =
    let a = c.args in
    rw (written_front a.target.now (take a.count a.source.now), length-take-le a.count a.source.now c.requires.0, c.copy_from_slice.ensures.after)
