-- `soundness::ring_node` meets its contract.
use mathlib.Core.Path.{◌∙◌}
use Rattle.soundness.proofs.Ringing.{ring_low, ring_high, ring_node_lem}
use Rattle.soundness.proofs.ring_node.Goals as goal

pub returns-then-at-cap : goal.returns-then-at-cap
returns-then-at-cap c =
    let s = c.requires in
    let e = (rw c.cell.ensures at c.cell-then-at-cap.ensures) ∙ ring_low _ _ _ s.1 (rw c.cell.ensures at c.if-at-cap.true) in
    (e, rw e (ring_node_lem _ _ _ s.1 s.0.seated))

pub returns-else-at-cap : goal.returns-else-at-cap
returns-else-at-cap c =
    let s = c.requires in
    let e = (rw c.cell.ensures at c.cell-else-at-cap.ensures) ∙ ring_high _ _ _ s.1 (rw c.cell.ensures at c.if-at-cap.false) in
    (e, rw e (ring_node_lem _ _ _ s.1 s.0.seated))
