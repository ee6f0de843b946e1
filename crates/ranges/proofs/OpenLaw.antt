-- What an open does to the tickets and the coordinator means: the model's answer, the model's next state, and sound tables.
-- Assumes nothing.
use mathlib.Core.Path.{◌≡◌, refl, sym, ap, ◌∙◌}
use mathlib.Core.Logic.{inl, inr, ⊎_elim}
use mathlib.Core.Bool.{Bool, true, false}
use mathlib.Core.List.{List, [], ◌∷◌, ◌++◌}
use Prim.Native.Nat.{ℕ, zero, suc, ◌<◌, ◌+◌}
use native.Mathlib.Omega.{arith}
use native.Mathlib.Decide.{dec_lt}
use native.Mathlib.Numerals.{add-one}
use lib.ListN.{length, set, take, length-map, length-set}
use lib.Seq.{length-take-le}
use lib.Dec.{leb}
use lib.IntN.{ℤ}
use lib.Signed.{lt_z}
use mir.Syntax.{w64}
use mir.Val.{SFits}
use borrow.Author.Tests.{le-leb, lt-leb}
use Rattle.lists.specs.Holds.{All}
use Rattle.lists.proofs.Splits.{all_in}
use Rattle.sizes.specs.Rank.{rank_of}
use Rattle.sizes.proofs.Ranking.{key_rank}
use Rattle.levels.specs.Levels.{order_of}
use Rattle.model.specs.declared.Refusal.TheVariants.{BoundsReversed, AllTicketsOpen, LastVersion}
use Rattle.model.specs.Model as M
use Rattle.model.specs.WellFormed.{Rested}
use Rattle.model.specs.Calls.{«open», refused, opened}
use Rattle.model.specs.Answers.{of_opened}
use Rattle.model.proofs.Stops.{rested_new}
use Rattle.model.proofs.PlainMap.{refuses}
use Rattle.model.proofs.Applied.{open_begins}
use Rattle.tables.specs.declared.Ticket.{Ticket}
use Rattle.tables.specs.declared.Coordinator.{Coordinator}
use Rattle.tables.specs.Tables.{Tables, capacity_of, Resting, Sound, Met, view, range_of, ranges_of, nodes_of}
use Rattle.tables.proofs.Meeting.{met, met_same}
use Rattle.finds.specs.Near.{NearReady}
use Rattle.finds.proofs.NearLaw.{near_ready, rest_near}
use Rattle.finds.proofs.Walking.{near_walkable}
use Rattle.ranges.specs.Tickets.{with_tickets}
use Rattle.ranges.specs.Open as O

-- ---- one ticket more

ranges_opened : (cap : ℕ) (ts : List Ticket) (k : ℕ) (y : Ticket) → k < length ts → ranges_of cap (set ts k y) (suc k) ≡ ranges_of cap ts k ++ (range_of cap y ∷ [])
ranges_opened cap [] k y h = absurd (omega arith)
ranges_opened cap (x ∷ ts) zero y h = refl
ranges_opened cap (x ∷ ts) (suc k) y h = ap {B = List M.Range} (λ l. range_of cap x ∷ l) (ranges_opened cap ts k y (omega arith))

all_opened : (P : Ticket → Type 0) (ts : List Ticket) (k : ℕ) (y : Ticket) → P y → k < length ts → All P (take k ts) → All P (take (suc k) (set ts k y))
all_opened P [] k y p h a = tt
all_opened P (x ∷ ts) zero y p h a = (p, tt)
all_opened P (x ∷ ts) (suc k) y p h a = (a.0, all_opened P ts k y p (omega arith) a.1)

-- LAW: what open_range relies on
pub open_ready : (t : Tables) → Sound t → NearReady t.keys t.rows t.buckets
open_ready t S = near_ready t S

module _ (t : Tables) (S : Sound t) (low high : ℤ) (fl : SFits w64 low) (fh : SFits w64 high) where
  abbrev cap : ℕ
  cap = capacity_of t

  abbrev c : Coordinator
  c = t.coordinator

  abbrev k : ℕ
  k = c.ranges

  -- the ticket of a range that opens now
  abbrev pub fresh : Ticket
  fresh = O.new_ticket t.keys t.rows (c.counter.0 + 1) low high

  -- LAW: it is the model's new range
  pub new_range_lem : range_of cap fresh ≡ M.new_range (suc c.counter.0) low high (nodes_of t.keys t.values t.rows)
  unfolding range_of view
  new_range_lem = rw (key_rank low fl, key_rank high fh, add-one c.counter.0, sym (rest_near t S low fl))

  -- LAW: it rests on a node or on the tail
  pub new_resting : Resting cap fresh
  new_resting =
      ⊎_elim (λ i. inl (all_in (λ n. n < cap) (order_of t.rows cap) S.memory.linked.nodes _ i)) inr
      (near_walkable t.keys t.rows t.buckets (near_ready t S) 0 (omega arith) (rank_of low) true).on

  -- LAW: and where its range may
  pub new_rested : Rested (nodes_of t.keys t.values t.rows) (range_of cap fresh)
  unfolding view
  new_rested =
      rw new_range_lem (rested_new (suc c.counter.0) low high (nodes_of t.keys t.values t.rows) S.well.sorted S.well.apart)

  abbrev after : O.Open → Tables
  after r = with_tickets t r.tickets r.coordinator

  abbrev Goal : O.Open → Type 0
  Goal r = Met t (after r) («open» low high) (of_opened r.answer)

  counted : length (ranges_of cap t.tickets k) ≡ k
  counted = length-map (take k t.tickets) (range_of cap) ∙ length-take-le k t.tickets (omega (arith, S.lengths.tickets, S.few))

  crossed : lt_z high low ≡ true → Goal (O.open_refused BoundsReversed t.tickets c)
  unfolding view
  crossed e = met_same t («open» low high) (refused 6) S (refuses (view t) («open» low high) 6 (rw e))

  module _ (e : lt_z high low ≡ false) where
    full : leb 16 k ≡ true → Goal (O.open_refused AllTicketsOpen t.tickets c)
    unfolding view
    full h = met_same t («open» low high) (refused 9) S (refuses (view t) («open» low high) 9 (rw (e, counted, h)))

    module _ (room : leb 16 k ≡ false) where
      last : leb M.last_version c.counter.0 ≡ true → Goal (O.open_refused LastVersion t.tickets c)
      unfolding view
      last h = met_same t («open» low high) (refused 10) S (refuses (view t) («open» low high) 10 (rw (e, counted, room, h)))

      begins : k < 16 → leb M.last_version c.counter.0 ≡ false → Goal (O.opened t.keys t.rows t.tickets c low high)
      unfolding view
      begins l h =
          let few : k < length t.tickets = omega (arith, S.lengths.tickets) in
          met t (after (O.opened t.keys t.rows t.tickets c low high)) («open» low high) (opened (c.counter.0 + 1)) S
          (record {
            known = S.lengths.known;
            values = S.lengths.values;
            rows = S.lengths.rows;
            buckets = S.lengths.buckets;
            tickets = length-set t.tickets k fresh ∙ S.lengths.tickets;
          })
          S.memory S.hashed (omega arith)
          (rw (add-one k) (all_opened (Resting cap) t.tickets k fresh new_resting few S.resting))
          (open_begins (view t) low high e (rw counted room) h
          ∙ rw (add-one k, ranges_opened cap t.tickets k fresh few, new_range_lem, add-one c.counter.0))

  -- LAW: open meets the model
  pub open_meets : Met t (O.opened_tables t low high) («open» low high) (of_opened (O.opening_of t low high).answer)
  unfolding O.opening
  open_meets = go (lt_z high low) (leb M.last_version c.counter.0) refl refl (dec_lt k 16)
    where
      go : (a b : Bool) → lt_z high low ≡ a → leb M.last_version c.counter.0 ≡ b → Dec (k < 16) → Goal (O.opening_of t low high)
      go true b e f d = rw e (crossed e)
      go false b e f (no h) = let r = le-leb 16 k (omega arith) in rw (e, r) (full e r)
      go false true e f (yes h) = let r = lt-leb 16 k h in rw (e, r, f) (last e r f)
      go false false e f (yes h) = let r = lt-leb 16 k h in rw (e, r, f) (begins e r h f)
