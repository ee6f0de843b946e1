-- `soundness::lists_ok` meets its contract. The invariant: the ring is so listed exactly when what is left of it is.
use Prim.Native.Nat.{◌≤◌}
use mathlib.Core.Path.{◌≡◌}
use lib.ListN.{length, drop}
use Rattle.rows.specs.Rows.{removals}
use Rattle.places.specs.Places.{ring_of}
use Rattle.soundness.specs.Tested.{Listed}
use Rattle.soundness.proofs.lists_ok.Given as goal

abbrev pub invariant-loop-ticket : goal.invariant-loop-ticket
invariant-loop-ticket l =
    let removal = removals l.rows in
    let ring = ring_of l.rows l.cap in
    record {
      counted : l.count ≡ length ring;
      within : l.start ≤ length ring;
      back : Listed removal (drop l.start ring) l.size (drop l.ticket-index l.tickets) → Listed removal ring l.due l.tickets;
      forth : Listed removal ring l.due l.tickets → Listed removal (drop l.start ring) l.size (drop l.ticket-index l.tickets);
    }
