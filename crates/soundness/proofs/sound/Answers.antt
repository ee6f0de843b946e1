-- `soundness::sound` meets its contract: each part tests what it says, and all of it comes to `Sound`.
use native.Mathlib.Omega.{arith}
use Rattle.lists.proofs.Answers.{no, failed, passed, over}
use Rattle.levels.proofs.Orders.{linked_lowest}
use Rattle.tables.specs.Tables.{Tables, Lengths}
use Rattle.tables.proofs.Capacities.{capacity}
use Rattle.soundness.specs.Tested.{lent}
use Rattle.soundness.proofs.Deciding.{lengths_of_lem, measured_of, levels_ready, places_ready, cells_ready, ring_ready, tested_sound, sound_tested}
use Rattle.soundness.proofs.sound.Goals as goal
use Rattle.soundness.proofs.sound.Goals.{Start, Else-not-lengths_ok, then-not-nodes_ok-via-then-not-nodes_ok, then-not-nodes_ok-via-else-not-nodes_ok+then-coordinator-gt-TICKETS}

-- the tables as they are lent
abbrev given : Start → Tables
given c = lent c.args.keys.now c.args.values.now c.args.rows.now c.args.buckets.now c.args.tickets.now c.args.coordinator

-- the lengths, once they are tested
lengths : (c : Else-not-lengths_ok) → Lengths (lent c.args.keys.now c.args.values.now c.args.rows.now c.args.buckets.now c.args.tickets.now c.args.coordinator)
lengths c = lengths_of_lem _ (passed c.lengths_ok.ensures c.if-not-lengths_ok.false) c.told-tickets

pub returns-then-not-lengths_ok : goal.returns-then-not-lengths_ok
returns-then-not-lengths_ok c = no (λ S. failed c.lengths_ok.ensures c.if-not-lengths_ok.true (measured_of _ S.lengths))

pub overflow_cast-cap : goal.overflow_cast-cap
overflow_cast-cap c = omega (arith, (capacity _ (lengths (goal.at.overflow_cast-cap c).Else-not-lengths_ok).known).most)

pub levels_ok-requires : goal.levels_ok-requires
levels_ok-requires c = rw c.levels_of.ensures (levels_ready _ (lengths (goal.at.levels_ok-requires c).Else-not-lengths_ok))

pub places_ok-requires : goal.places_ok-requires
places_ok-requires c = places_ready _ (lengths (goal.at.places_ok-requires c).Else-not-lengths_ok)

pub counted_ok-requires : goal.counted_ok-requires
counted_ok-requires c = places_ready _ (lengths (goal.at.counted_ok-requires c).Else-not-lengths_ok)

pub nodes_ok-requires : goal.nodes_ok-requires
nodes_ok-requires c =
    let l = lengths (goal.at.nodes_ok-requires c).Else-not-lengths_ok in (
      cells_ready _ l,
      linked_lowest _ _ _ l.rows l.known (passed (rw c.levels_of.ensures at c.levels_ok.ensures) c.if-not-levels_ok.false),
      passed c.places_ok.ensures c.if-not-places_ok.false,
    )

pub returns-then-not-nodes_ok : goal.returns-then-not-nodes_ok
returns-then-not-nodes_ok c =
    no
    (λ S. elim c.then-not-nodes_ok.branch as (λ _. ⊥) [
      | then-not-nodes_ok-via-then-not-nodes_ok w ↦ failed c.nodes_ok.ensures w.if-not-nodes_ok.true (sound_tested _ S).nodes
      | then-not-nodes_ok-via-else-not-nodes_ok+then-coordinator-gt-TICKETS w ↦ omega (arith, S.few, w.if-coordinator-gt-TICKETS.true)
    ])

pub tickets_ok-requires : goal.tickets_ok-requires
tickets_ok-requires c = cells_ready _ (lengths (goal.at.tickets_ok-requires c).Else-not-lengths_ok)

pub lists_ok-requires : goal.lists_ok-requires
lists_ok-requires c = ring_ready _ (lengths (goal.at.lists_ok-requires c).Else-not-lengths_ok) (passed c.places_ok.ensures c.if-not-places_ok.false)

pub returns-then-tickets_ok : goal.returns-then-tickets_ok
returns-then-tickets_ok c =
    over
    (λ L.
    tested_sound (given (goal.at.returns-then-tickets_ok c).Start)
    (record {
      lengths = lengths (goal.at.returns-then-tickets_ok c).Else-not-lengths_ok;
      linked = passed (rw c.levels_of.ensures at c.levels_ok.ensures) c.if-not-levels_ok.false;
      seated = passed c.places_ok.ensures c.if-not-places_ok.false;
      counted = passed c.counted_ok.ensures c.if-not-counted_ok.false;
      hashed = passed c.buckets_ok.ensures c.if-not-buckets_ok.false;
      nodes = passed c.nodes_ok.ensures c.if-not-nodes_ok.false;
      few = c.if-coordinator-gt-TICKETS.false;
      opened = passed c.tickets_ok.ensures c.if-tickets_ok.true;
      listed = L;
    }))
    (λ S. (sound_tested (given (goal.at.returns-then-tickets_ok c).Start) S).listed) c.lists_ok.ensures

pub returns-else-tickets_ok : goal.returns-else-tickets_ok
returns-else-tickets_ok c =
    rw c.if-tickets_ok.false (no (λ S. failed c.tickets_ok.ensures c.if-tickets_ok.false (sound_tested (given (goal.at.returns-else-tickets_ok c).Start) S).opened))
