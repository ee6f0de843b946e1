-- `changes::stitch_in` meets its contract.
use mathlib.Core.Path.{◌∙◌}
use Rattle.changes.specs.Insert.{stitched_in}
use Rattle.changes.proofs.Framing.{stitchable_same}
use Rattle.changes.proofs.stitch_in.Goals as goal

pub stitch-requires : goal.stitch-requires
stitch-requires c = stitchable_same c.args.rows.now _ _ _ _ (c.put-2.auto.rows ∙ c.put.auto.rows) c.requires

pub returns : goal.returns
unfolding stitched_in
returns c = rw (c.stitch.ensures, c.put-2.ensures, c.put.ensures)
