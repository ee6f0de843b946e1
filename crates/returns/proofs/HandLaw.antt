-- What the cells of a hand-over mean: the model's answer, the model's next state, and sound tables.
-- Assumes nothing.
use Rattle.std.specs.Prelude.{Result, Ok, Err}
use Rattle.model.specs.declared.Refusal.{Refusal}
use Rattle.model.specs.declared.Refusal.TheVariants.{NodeNotPending}
use mathlib.Core.Path.{◌≡◌, refl, ap, ◌∙◌, subst}
use mathlib.Core.Logic.{◌≢◌, ⊎_elim}
use mathlib.Core.Bool.{Bool, true, false, cond}
use mathlib.Core.List.{List, [], ◌∷◌}
use mathlib.Core.Option.{some}
use Prim.Native.Nat.{ℕ, zero, suc, ◌≤◌, ◌<◌, ◌+◌, ◌-◌, ◌*◌}
use native.Mathlib.Omega.{arith}
use native.Mathlib.Decide.{ℕ_discrete, dec_le}
use lib.ListN.{length, length-set, take, set}
use lib.Dec.{eqb}
use borrow.Author.Tests.{ne_eqb, le-leb, lt-leb}
use Rattle.lists.specs.Holds.{All}
use Rattle.lists.specs.Filters.{filter, first, last}
use Rattle.lists.specs.Members.{In, Differ, Split}
use Rattle.lists.proofs.Holding.{all_imp, all_every}
use Rattle.lists.proofs.Splits.{in_split, split_in}
use Rattle.rows.specs.Rows.{column, upd, heights, insertions, removals, places, links}
use Rattle.rows.proofs.Columns.{upd_same, upd_other}
use Rattle.levels.specs.Levels.{order_of}
use Rattle.levels.proofs.Orders.{order_kept, linked_kept}
use Rattle.places.specs.Places.{free_of, ring_of}
use Rattle.places.specs.Changes.{retired}
use Rattle.places.proofs.Stores.{Elsewhere}
use Rattle.places.proofs.Members.{not_free, not_retired, ring_room}
use Rattle.places.proofs.Retiring.{retired_length, retired_elsewhere, retired_free, retired_places, retired_ring, retired_kept}
use Rattle.places.proofs.Counting.{retired_counted}
use Rattle.places.proofs.Lists.{ring_length}
use Rattle.buckets.proofs.Keeping.{buckets_placed}
use Rattle.model.specs.Model as M
use Rattle.model.specs.Calls.{hand_over, refused, handed}
use Rattle.model.specs.Answers.{of_handed}
use Rattle.model.specs.declared.Handed.{Handed}
use Rattle.model.specs.declared.Handed.TheVariants.{Freed, Held}
use Rattle.tables.specs.declared.Ticket.{Ticket}
use Rattle.tables.specs.Tables.{Tables, capacity_of, levels_of, Memory, Used, Resting, Sound, Met, view, place_of, node_at, nodes_of, range_of, ranges_of, ticket_at, gained}
use Rattle.tables.proofs.Viewing.{shows, shows_none, nodes_moved}
use Rattle.tables.proofs.Ranging.{range_last, range_hold, range_held}
use Rattle.tables.proofs.Telling.{found_or_not, sound_sized, sound_covered, sound_whole}
use Rattle.tables.proofs.Meeting.{met, met_same}
use Rattle.returns.specs.HandOver.{handed_tickets, HandReady, handed_tables, handing_of}
use Rattle.returns.proofs.HandCases.{case_far, case_other, case_none, case_new, case_old}
use Rattle.returns.proofs.Freeing.{freeable, freed_size, freed_memory, freed_buckets, freed_free, freed_ring, freed_nodes}

-- LAW: what hand_over relies on
pub hand_ready : (t : Tables) → Sound t → HandReady t.rows (capacity_of t) t.tickets t.coordinator.ranges
hand_ready t S =
    let cap = capacity_of t in
    let size = sound_sized t S in
    record {
      sized = size;
      freeable = λ n l e. freeable t.rows cap n size S.lengths.known S.memory (split_in n (order_of t.rows cap) (sound_covered t S n l (omega arith)));
      front = S.memory.seated.front;
      room = λ n l e. ring_room t.rows cap S.memory.seated n l (not_retired t.rows cap S.memory.seated n (omega arith));
      few = S.few;
      held =
          λ l.
          omega
          (arith, range_held cap t.tickets t.coordinator.ranges (t.coordinator.ranges - 1) (omega arith) (omega (arith, S.lengths.tickets, S.few)), sound_whole t S, ring_length t.rows cap, S.memory.seated.few, size.small);
    }

-- ---- hand over, in the model

hand_none : (s : M.State) (n : ℕ) → filter (M.is n) s.order ≡ [] → M.apply s (hand_over n) ≡ (s, refused 12)
unfolding M.apply
hand_none s n e = rw e

hand_some : (s : M.State) (n : ℕ) (x : M.Node) → first (filter (M.is n) s.order) ≡ some x → M.apply s (hand_over n) ≡ M.hand_place s n x.inserted x.place
unfolding M.apply
hand_some s n x e = rw e

hand_other : (s : M.State) (n i p r : ℕ) → p ≢ 2 → M.hand_place s n i (place_of p r) ≡ (s, refused 12)
unfolding M.hand_place
hand_other s n i p r d = rw (ne_eqb p 2 d) (go (eqb p 1))
  where
    go : (b : Bool) → M.hand_place s n i (cond b M.present (M.retired r)) ≡ (s, refused 12)
    go true = refl
    go false = refl

hand_pending : (s : M.State) (n i p r : ℕ) → p ≡ 2 → M.hand_place s n i (place_of p r) ≡ M.handing s n r (M.unseen i (last s.ranges))
unfolding M.hand_place
hand_pending s n i p r e = rw e

-- a changed ticket rests where it did
resting_set : (cap : ℕ) (ts : List Ticket) (k j : ℕ) (x : Ticket) → All (Resting cap) (take k ts) → x.rest ≡ (ticket_at ts j).rest → j < k → j < length ts → All (Resting cap) (take k (set ts j x))
resting_set cap ts zero j x a e l h = absurd (omega arith)
resting_set cap [] (suc k) j x a e l h = absurd (omega arith)
resting_set cap (y ∷ ts) (suc k) zero x a e l h = (rw e a.0, a.1)
resting_set cap (y ∷ ts) (suc k) (suc j) x a e l h = (a.0, resting_set cap ts k j x a.1 e (omega arith) (omega arith))

-- ---- hand over, of the tables

module _ (t : Tables) (S : Sound t) (n : ℕ) where
  abbrev cap : ℕ
  cap = capacity_of t

  abbrev k : ℕ
  k = t.coordinator.ranges

  abbrev rows : List ℕ
  rows = t.rows

  abbrev Goal : Result Handed Refusal → Type 0
  Goal h = Met t (handed_tables h t n) (hand_over n) (of_handed h)

  finish : (h : Result Handed Refusal) → handing_of t n ≡ h → Goal h → Goal (handing_of t n)
  finish h e g = rw e g

  out : All (Differ n) (order_of rows cap) → Goal (Err NodeNotPending)
  unfolding view
  out a = met_same t (hand_over n) (refused 12) S (hand_none (view t) n (shows_none t.keys t.values rows n (order_of rows cap) a))

  find : Split n (order_of rows cap) → first (filter (M.is n) (view t).order) ≡ some (node_at t.keys t.values rows n)
  unfolding view
  find p = rw p.whole (shows t.keys t.values rows n p.front p.back)

  other : Split n (order_of rows cap) → places rows n ≢ 2 → Goal (Err NodeNotPending)
  unfolding node_at
  other p d =
      met_same t (hand_over n) (refused 12) S
      (hand_some (view t) n (node_at t.keys t.values rows n) (find p) ∙ hand_other (view t) n (insertions rows n) (places rows n) (removals rows n) d)

  module _ (l : n < cap) (e : places rows n ≡ 2) where
    p : Split n (order_of rows cap)
    p = sound_covered t S n l (omega arith)

    i : In n (order_of rows cap)
    i = split_in n (order_of rows cap) p

    off : In n (ring_of rows cap) → ⊥
    off = not_retired rows cap S.memory.seated n (omega arith)

    spare : In n (free_of rows cap) → ⊥
    spare = not_free rows cap S.memory.seated n (omega arith)

    judged : M.apply (view t) (hand_over n) ≡ M.handing (view t) n (removals rows n) (M.unseen (insertions rows n) (last (ranges_of cap t.tickets k)))
    unfolding node_at view
    judged =
        hand_some (view t) n (node_at t.keys t.values rows n) (find p)
        ∙ hand_pending (view t) n (insertions rows n) (places rows n) (removals rows n) e

    freeing : M.unseen (insertions rows n) (last (ranges_of cap t.tickets k)) ≡ true → Goal (Ok Freed)
    unfolding view
    freeing u =
        let size = sound_sized t S in
        met t (handed_tables (Ok Freed) t n) (hand_over n) (handed 1) S
        (record {
          known = S.lengths.known;
          values = S.lengths.values;
          rows = freed_size rows cap n size S.lengths.known S.memory i;
          buckets = S.lengths.buckets;
          tickets = S.lengths.tickets;
        })
        (freed_memory rows cap n size S.lengths.known S.memory i (omega arith) off)
        (freed_buckets rows cap n size S.lengths.known S.memory i (omega arith) t.keys t.buckets S.hashed)
        S.few S.resting
        (judged
        ∙ rw (
          u,
          freed_nodes t.keys t.values rows cap n refl size S.lengths.known S.memory i,
          freed_free rows cap n size S.lengths.known S.memory i,
          freed_ring rows cap n size S.lengths.known S.memory i,
        ))

    -- the rows after it is retired
    same : (f : ℕ) → Elsewhere f → column (retired rows cap n) f ≡ column rows f
    same f w = retired_elsewhere rows cap n f w

    linked : (l d : ℕ) → l < 12 → d ≤ 1 → links (retired rows cap n) l d ≡ links rows l d
    linked l d a b = same (8 + l * 2 + d) (omega arith)

    placed : places (retired rows cap n) ≡ upd (places rows) n 3
    placed = retired_places rows cap n (sound_sized t S) S.memory.seated l off

    ordered : order_of (retired rows cap n) cap ≡ order_of rows cap
    ordered = order_kept rows (retired rows cap n) cap linked

    used_still : All (λ x. Used (places (retired rows cap n) x)) (order_of rows cap)
    used_still = rw placed (all_imp (λ x. Used (places rows x)) (λ x. Used (upd (places rows) n 3 x)) (λ x w. upd_used x w (ℕ_discrete x n)) (order_of rows cap) S.memory.used)
      where
        upd_used : (x : ℕ) → Used (places rows x) → Dec (x ≡ n) → Used (upd (places rows) n 3 x)
        upd_used x w (yes q) = rw (q, upd_same (places rows) n 3) (omega arith)
        upd_used x w (no d) = rw (upd_other (places rows) n 3 x d) w

    memory : Memory (retired rows cap n) cap
    memory =
        record {
          linked =
              linked_kept rows (retired rows cap n) cap linked (levels_of cap)
              (all_every (λ x. heights (retired rows cap n) x ≡ heights rows x) (λ x. ap (λ g. g x) (same 0 (omega arith))) (order_of rows cap)) S.memory.linked;
          used = rw ordered used_still;
          seated = retired_kept rows cap n (sound_sized t S) S.memory.seated l off spare;
          counted = retired_counted rows cap n S.memory.counted l (sound_sized t S) S.memory.seated off (omega arith);
        }

    holding : k ≢ 0 → M.unseen (insertions rows n) (last (ranges_of cap t.tickets k)) ≡ false → Goal (Ok Held)
    unfolding view
    holding z u =
        let order : nodes_of t.keys t.values (retired rows cap n) ≡ M.retire n (removals rows n) (nodes_of t.keys t.values rows) =
        rw ordered (nodes_moved t.keys t.values rows (retired rows cap n) n 3 (same 0 (omega arith)) (same 1 (omega arith)) (same 2 (omega arith)) placed (order_of rows cap)) in
        let d : suc (k - 1) ≡ k = omega arith in
        let ranges : ranges_of cap (handed_tickets (Ok Held) t.tickets k) k ≡ M.hold (ranges_of cap t.tickets k) =
        subst (λ (j : ℕ). ranges_of cap (handed_tickets (Ok Held) t.tickets k) j ≡ M.hold (ranges_of cap t.tickets j)) d
        (range_hold cap t.tickets (k - 1) (omega (arith, S.lengths.tickets, S.few))) in
        met t (handed_tables (Ok Held) t n) (hand_over n) (handed 0) S
        (record {
          known = S.lengths.known;
          values = S.lengths.values;
          rows = retired_length rows cap n ∙ S.lengths.rows;
          buckets = S.lengths.buckets;
          tickets = length-set t.tickets (k - 1) _ ∙ S.lengths.tickets;
        })
        memory
        (buckets_placed t.keys rows t.buckets cap S.hashed n 3 (retired rows cap n) (omega (arith, retired_length rows cap n, S.lengths.rows)) (same 5 (omega arith)) placed (λ w. omega arith) (omega arith))
        S.few
        (resting_set cap t.tickets k (k - 1) (gained 1 (ticket_at t.tickets (k - 1))) S.resting refl (omega arith) (omega (arith, S.lengths.tickets, S.few)))
        (judged ∙ rw (u, order, ranges, retired_free rows cap n, retired_ring rows cap n (sound_sized t S) S.memory.seated l off))

    -- the latest ticket
    latest : k ≢ 0 → last (ranges_of cap t.tickets k) ≡ some (range_of cap (ticket_at t.tickets (k - 1)))
    latest z =
        let d : suc (k - 1) ≡ k = omega arith in
        subst (λ (j : ℕ). last (ranges_of cap t.tickets j) ≡ some (range_of cap (ticket_at t.tickets (k - 1)))) d
        (range_last cap t.tickets (k - 1) (omega (arith, S.lengths.tickets, S.few)))

    pending : Goal (handing_of t n)
    unfolding range_of
    pending = go (ℕ_discrete k 0)
      where
        later : k ≢ 0 → Dec ((ticket_at t.tickets (k - 1)).version.0 ≤ insertions rows n) → Goal (handing_of t n)
        later z (yes h) = finish (Ok Freed) (case_new rows cap t.tickets k n l e z h) (freeing (rw (latest z) (le-leb _ _ h)))
        later z (no h) =
            finish (Ok Held) (case_old rows cap t.tickets k n l e z (omega arith))
            (holding z (rw (latest z) (lt-leb (ticket_at t.tickets (k - 1)).version.0 (insertions rows n) (omega arith))))

        go : Dec (k ≡ 0) → Goal (handing_of t n)
        go (yes z) = finish (Ok Freed) (case_none rows cap t.tickets k n l e z) (freeing (rw z))
        go (no z) = later z (dec_le (ticket_at t.tickets (k - 1)).version.0 (insertions rows n))

  -- LAW: hand over meets the model
  pub hand_meets : Met t (handed_tables (handing_of t n) t n) (hand_over n) (of_handed (handing_of t n))
  hand_meets = go (dec_le cap n) (ℕ_discrete (places rows n) 2)
    where
      go : Dec (cap ≤ n) → Dec (places rows n ≡ 2) → Goal (handing_of t n)
      go (yes h) d = finish (Err NodeNotPending) (case_far rows cap t.tickets k n h) (out (all_imp (λ x. x < cap) (Differ n) (λ x j. omega arith) (order_of rows cap) S.memory.linked.nodes))
      go (no h) (yes e) = pending (omega arith) e
      go (no h) (no d) =
          finish (Err NodeNotPending) (case_other rows cap t.tickets k n (omega arith) d) (⊎_elim (λ j. other (in_split n (order_of rows cap) j) d) out (found_or_not n (order_of rows cap)))
