-- What is tested comes to `Sound`, exactly.
-- Assumes nothing.
use mathlib.Core.Path.{◌≡◌, refl, sym, ap, ◌∙◌}
use mathlib.Core.List.{List, map}
use Prim.Native.Nat.{ℕ, ◌≤◌, ◌<◌, ◌+◌, ◌*◌}
use native.Mathlib.Omega.{arith}
use lib.ListN.{length, take, length-map, length-take}
use Rattle.lists.specs.Holds.{All}
use Rattle.lists.proofs.Holding.{all_imp, all_imp₂, all_map, pairwise_image}
use Rattle.lists.proofs.Indexing.{map_all, map_pairwise}
use Rattle.sizes.proofs.Sizing.{size_rule}
use Rattle.rows.specs.Rows.{places}
use Rattle.levels.specs.Levels.{order_of}
use Rattle.levels.specs.Test as L
use Rattle.places.specs.Places as P
use Rattle.places.proofs.Lists.{free_length, ring_length}
use Rattle.model.specs.Model as M
use Rattle.model.specs.WellFormed.{Rested}
use Rattle.tables.specs.declared.Ticket.{Ticket}
use Rattle.tables.specs.Tables.{Tables, capacity_of, levels_of, buckets_of, node_at, range_of, view, Lengths, Used, Resting, Sound}
use Rattle.tables.proofs.Capacities.{capacity, capacity_of_lem}
use Rattle.soundness.specs.Tested.{Measured, Ready, Timed, Rests, Ringed, Tested}
use Rattle.soundness.proofs.Shown.{line_sorted, line_dated, line_of, retired_same}
use Rattle.soundness.proofs.Resting.{rests_resting, rests_rested, rested_rests}
use Rattle.soundness.proofs.Segments.{listed_sum, listed_behind, behind_listed}
use Rattle.soundness.proofs.Wells.{given, linked_in_lem, ring_in, well_there}

-- ---- lengths

module _ (t : Tables) where
  -- LAW: the lengths by themselves
  pub lengths_of_lem : Measured (capacity_of t) (length t.values) (length t.rows) (length t.buckets) → length t.tickets ≡ 16 → Lengths t
  unfolding buckets_of
  lengths_of_lem m e =
      let p = m.parts in
      record {
        known = capacity_of_lem (capacity_of t) m.size m.known;
        values = p.valued ∙ sym p.keyed;
        rows = p.rowed ∙ ap (λ (n : ℕ). (n + 2) * 32) (sym p.keyed);
        buckets = rw m.known p.bucketed;
        tickets = e;
      }

  pub measured_of : Lengths t → Measured (capacity_of t) (length t.values) (length t.rows) (length t.buckets)
  unfolding buckets_of
  measured_of l =
      let c = capacity (capacity_of t) l.known in
      let e = (size_rule (capacity_of t) c.size c.known).asked in
      record {
        size = c.size;
        known = c.known;
        parts = record { keyed = sym e; valued = l.values ∙ sym e; rowed = l.rows ∙ ap (λ (n : ℕ). (n + 2) * 32) (sym e); bucketed = rw c.known at l.buckets };
      }

  module _ (l : Lengths t) where
    -- what the tests rely on
    pub levels_ready : L.RightSize t.rows (capacity_of t) (levels_of (capacity_of t))
    levels_ready =
        let c = capacity (capacity_of t) l.known in
        record { size = l.rows; small = c.most; leveled = l.known; few = c.high }

    pub places_ready : P.Sized t.rows (capacity_of t)
    places_ready = record { size = l.rows; small = (capacity (capacity_of t) l.known).most }

    pub cells_ready : Ready t.keys t.rows (capacity_of t)
    cells_ready = record { keyed = refl; rowed = l.rows; small = (capacity (capacity_of t) l.known).most }

    pub ring_ready : P.Places t.rows (capacity_of t) → Ringed t.rows (capacity_of t)
    ring_ready s = record { rowed = l.rows; small = (capacity (capacity_of t) l.known).most; seated = s }

-- ---- all of it

module _ (t : Tables) where
  abbrev cap : ℕ
  cap = capacity_of t

  abbrev o : List ℕ
  o = order_of t.rows cap

  abbrev g : ℕ → M.Node
  g = node_at t.keys t.values t.rows

  abbrev counter : ℕ
  counter = t.coordinator.counter.0

  abbrev open' : List Ticket
  open' = take t.coordinator.ranges t.tickets

  -- LAW: what is tested makes tables sound
  pub tested_sound : Tested t → Sound t
  unfolding view range_of
  tested_sound w =
      let u : All (λ n. Used (places t.rows n)) o = all_imp (Timed t.rows counter) (λ n. Used (places t.rows n)) (λ n h. h.used) o w.nodes.line.timed in
      let full = w.nodes.full in
      let ring = ring_in t.keys t.values t.rows cap (levels_of cap) w.linked w.seated u full in
      let rest = given t.keys t.values t.rows cap (levels_of cap) w.linked w.seated u in
      record {
        lengths = w.lengths;
        memory = record { linked = w.linked; used = u; seated = w.seated; counted = w.counted };
        hashed = w.hashed;
        few = w.few;
        resting = all_imp (Rests t.keys t.rows cap) (Resting cap) (rests_resting t.keys t.values t.rows cap o) open' w.opened.rests;
        well =
            record {
              sorted = line_sorted t.keys t.values t.rows counter o w.nodes.line;
              apart = rest.apart;
              dated = line_dated t.keys t.values t.rows counter o w.nodes.line;
              tall = rest.tall;
              bounded = rest.bounded;
              spare = rest.spare;
              unlinked = rest.unlinked;
              below = rest.below;
              full = omega (arith, full, length-map o g, free_length t.rows cap);
              queued = rest.queued;
              single = rest.single;
              there = well_there t.keys t.values t.rows cap (levels_of cap) w.linked w.seated u full;
              whole = retired_same t.keys t.values t.rows o u ∙ (w.nodes.whole ∙ sym (ring_length t.rows cap));
              listed = listed_sum t.keys t.values t.rows cap o (P.ring_of t.rows cap) t.coordinator.due open' w.listed;
              behind = listed_behind t.keys t.values t.rows cap o (P.ring_of t.rows cap) t.coordinator.due open' ring w.listed;
              rising = pairwise_image (λ (r q : M.Range). r.version < q.version) (range_of cap) open' w.opened.rising;
              past = all_map (λ (r : M.Range). r.version ≤ counter) (range_of cap) open' w.opened.past;
              rested =
                  all_map (Rested (map g o)) (range_of cap) open'
                  (all_imp (Rests t.keys t.rows cap) (λ x. Rested (map g o) (range_of cap x))
                  (λ x. rests_rested t.keys t.values t.rows cap o x w.nodes.line.ordered (linked_in_lem t.keys t.values t.rows cap (levels_of cap) w.linked w.seated u full x.rest.0)) open' w.opened.rests);
              few = omega (arith, length-map open' (range_of cap), length-take t.coordinator.ranges t.tickets, w.few);
              grown = w.lengths.known;
            };
      }

  -- LAW: sound tables pass all that is tested
  pub sound_tested : Sound t → Tested t
  unfolding view range_of
  sound_tested S =
      let m = S.memory in
      let full : length o + P.free_count t.rows cap ≡ cap = omega (arith, S.well.full, length-map o g, free_length t.rows cap) in
      let ring = ring_in t.keys t.values t.rows cap (levels_of cap) m.linked m.seated m.used full in
      record {
        lengths = S.lengths;
        linked = m.linked;
        seated = m.seated;
        counted = m.counted;
        hashed = S.hashed;
        nodes =
            record {
              line = line_of t.keys t.values t.rows counter o m.used S.well.dated S.well.sorted;
              full = full;
              whole = sym (retired_same t.keys t.values t.rows o m.used) ∙ (S.well.whole ∙ ring_length t.rows cap);
            };
        few = S.few;
        opened =
            record {
              rising = map_pairwise (range_of cap) (λ (r q : M.Range). r.version < q.version) open' S.well.rising;
              past = map_all (range_of cap) (λ (r : M.Range). r.version ≤ counter) open' S.well.past;
              rests =
                  all_imp₂ (Resting cap) (λ x. Rested (map g o) (range_of cap x)) (Rests t.keys t.rows cap)
                  (λ x. rested_rests t.keys t.values t.rows cap o x m.used) open' S.resting (map_all (range_of cap) (Rested (map g o)) open' S.well.rested);
            };
        listed = behind_listed t.keys t.values t.rows cap o (P.ring_of t.rows cap) t.coordinator.due open' ring S.well.listed S.well.behind;
      }
