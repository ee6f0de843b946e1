-- `returns::free_node` meets its contract.
use mathlib.Core.Path.{ap, ◌∙◌}
use native.Mathlib.Omega.{arith}
use Rattle.rows.specs.Rows.{heights}
use Rattle.levels.specs.Stitch.{unstitched}
use Rattle.levels.proofs.Joining.{length_unstitched, unstitched_field}
use Rattle.returns.specs.Freeing.{freed}
use Rattle.returns.proofs.free_node.Goals as goal

pub release-requires : goal.release-requires
release-requires c =
    let rows = c.args.rows.now in
    let n = c.args.n in
    let e = c.unstitch.ensures ∙ ap (unstitched rows n) c.cell-height.ensures in (
      rw e (record { size = length_unstitched rows n (heights rows n) ∙ c.requires.sized.size; small = c.requires.sized.small }),
      c.requires.node,
      rw (e, unstitched_field rows n (heights rows n) 6 c.requires.linked.few (omega arith)) c.requires.room,
    )

pub returns : goal.returns
unfolding freed
returns c = rw (c.release.ensures, c.unstitch.ensures, c.cell-height.ensures)
