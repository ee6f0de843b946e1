-- `soundness::gone_ok` meets its contract. The invariant: the nodes passed were removed before the version.
use Prim.Native.Nat.{◌<◌, ◌≤◌}
use lib.ListN.{get_or}
use Rattle.lists.specs.Tests.{Each}
use Rattle.rows.specs.Rows.{removals}
use Rattle.places.specs.Places.{ring_of}
use Rattle.soundness.proofs.gone_ok.Given as goal

abbrev pub invariant-loop-i : goal.invariant-loop-i
invariant-loop-i l = Each l.i (λ k. l.start ≤ k → removals l.rows (get_or (ring_of l.rows l.cap) k 0) < l.version.0)
