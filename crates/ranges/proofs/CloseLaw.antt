-- What a close does to the tickets means: the model's answer, the model's next state, and sound tables.
-- Assumes nothing.
use mathlib.Core.Path.{◌≡◌, refl, sym, ap, ap₂, ◌∙◌}
use mathlib.Core.Bool.{Bool, true, false, cond}
use mathlib.Core.List.{List, [], ◌∷◌}
use Prim.Native.Nat.{ℕ, zero, suc, ◌≤◌, ◌<◌, ◌-◌}
use native.Mathlib.Omega.{arith}
use native.Mathlib.Decide.{dec_lt}
use lib.ListN.{length, set, take, length-set}
use lib.Dec.{eqb}
use borrow.Author.Tests.{lt-ltb, le-ltb}
use Rattle.lists.specs.Holds.{All}
use Rattle.lists.specs.Filters.{lacks}
use Rattle.places.proofs.Lists.{ring_length}
use Rattle.model.specs.Model as M
use Rattle.model.specs.Calls.{close, refused, made_due}
use Rattle.model.specs.Answers.{of_closed}
use Rattle.model.proofs.PlainMap.{refuses}
use Rattle.model.proofs.Applied.{close_ends}
use Rattle.tables.specs.declared.Ticket.{Ticket}
use Rattle.tables.specs.declared.Coordinator.{Coordinator}
use Rattle.tables.specs.Tables.{Tables, capacity_of, Lengths, Resting, Sound, Met, view, range_of, ranges_of, ticket_at, gained}
use Rattle.tables.proofs.Ranging.{range_held, range_gained}
use Rattle.tables.proofs.Telling.{sound_whole, sound_sized}
use Rattle.tables.proofs.Meeting.{met, met_same}
use Rattle.ranges.specs.Tickets.{index_of, slide, with_tickets}
use Rattle.ranges.specs.Close.{Close, CloseReady, close_at, closing, closing_of, closed_tables}
use Rattle.ranges.proofs.Tickets.{length_slide, named_ticket, held_ticket, range_found, range_lost, all_at, all_set, all_slide}

-- ---- the ranges that are left

ranges_first : (cap n : ℕ) (x : Ticket) (us : List Ticket) → n ≤ length us → ranges_of cap (slide 0 (suc n) (x ∷ us)) n ≡ ranges_of cap us n
ranges_first cap zero x us l = refl
ranges_first cap (suc n) x [] l = absurd (omega arith)
ranges_first cap (suc n) x (y ∷ us) l = ap {B = List M.Range} (λ r. range_of cap y ∷ r) (ranges_first cap n y us (omega arith))

-- the tickets with the list of the one behind i given to the one at i
abbrev given : List Ticket → ℕ → List Ticket
given ts i = set ts i (gained (ticket_at ts (suc i)).held (ticket_at ts i))

ranges_later : (cap v n i : ℕ) (x : Ticket) (us : List Ticket) → n ≤ length us → i < n → index_of v n us ≡ i
    → ranges_of cap (slide (suc i) (suc n) (given (x ∷ us) i)) n ≡ M.shut v (range_of cap x) (ranges_of cap us n)
ranges_later cap v zero i x us l h e = absurd (omega arith)
ranges_later cap v (suc n) i x [] l h e = absurd (omega arith)
ranges_later cap v (suc n) i x (y ∷ us) l h e =
    rw (named_ticket cap v y) (go (eqb y.version.0 v) i e h (λ j k q. ranges_later cap v n j y us (omega arith) k q))
  where
    go : (b : Bool) (i : ℕ) → cond b 0 (suc (index_of v n us)) ≡ i → i < suc n
        → ((j : ℕ) → j < n → index_of v n us ≡ j → ranges_of cap (slide (suc j) (suc n) (given (y ∷ us) j)) n ≡ M.shut v (range_of cap y) (ranges_of cap us n))
        → ranges_of cap (slide (suc i) (suc (suc n)) (given (x ∷ y ∷ us) i)) (suc n)
        ≡ cond b (M.gain (range_of cap y).held (range_of cap x) ∷ ranges_of cap us n) (range_of cap x ∷ M.shut v (range_of cap y) (ranges_of cap us n))
    go true zero e h ih =
        ap₂ {C = List M.Range} (λ a r. a ∷ r) (range_gained cap y.held x ∙ rw (held_ticket cap y)) (ranges_first cap n y us (omega arith))
    go true (suc i) e h ih = absurd (omega arith)
    go false zero e h ih = absurd (omega arith)
    go false (suc i) e h ih = ap {B = List M.Range} (λ r. range_of cap x ∷ r) (ih i (omega arith) (omega arith))

-- ---- close, of the tables

-- LAW: what close_range relies on
pub close_ready : (t : Tables) → Sound t → CloseReady t.tickets t.coordinator
close_ready t S =
    let cap = capacity_of t in
    let whole = sound_whole t S in
    let long = ring_length t.rows cap in
    let few = S.memory.seated.few in
    let small = (sound_sized t S).small in
    record {
      few = S.few;
      held =
          λ i l.
          let h = range_held cap t.tickets t.coordinator.ranges i l (omega (arith, S.lengths.tickets, S.few)) in
          omega arith;
      ripe = omega arith;
    }

module _ (t : Tables) (S : Sound t) (v : ℕ) where
  abbrev cap : ℕ
  cap = capacity_of t

  abbrev c : Coordinator
  c = t.coordinator

  abbrev k : ℕ
  k = c.ranges

  abbrev j : ℕ
  j = index_of v k t.tickets

  abbrev after : Close → Tables
  after r = with_tickets t r.tickets r.coordinator

  abbrev Goal : Close → Type 0
  Goal r = Met t (after r) (close v) (of_closed r.answer)

  none_found : k ≤ j → Goal (close_at false j t.tickets c)
  unfolding view
  none_found h =
      met_same t (close v) (refused 11) S
      (refuses (view t) (close v) 11 (rw (range_lost cap v k t.tickets (omega (arith, S.lengths.tickets, S.few)) h)))

  found : (ts : List Ticket) (n i : ℕ) → t.tickets ≡ ts → k ≡ n → n ≤ length ts → index_of v n ts ≡ i → i < n → Goal (close_at true i ts c)
  unfolding view
  found ts zero i e f l q h = absurd (omega arith)
  found [] (suc n) i e f l q h = absurd (omega arith)
  found (x ∷ us) (suc n) i e f l q h = go (eqb x.version.0 v) refl i q h
    where
      fewer : k - 1 ≡ n
      fewer = omega (arith, f)

      small : k - 1 ≤ 16
      small = omega (arith, S.few)

      sixteen : length (x ∷ us) ≡ 16
      sixteen = ap length (sym e) ∙ S.lengths.tickets

      now_ranges : ranges_of cap t.tickets k ≡ range_of cap x ∷ ranges_of cap us n
      now_ranges = rw (e, f)

      resting : All (Resting cap) (take (suc n) (x ∷ us))
      resting = rw (e, f) at S.resting

      -- the range is there
      there : index_of v (suc n) (x ∷ us) < suc n → lacks (M.range v (range_of cap x ∷ ranges_of cap us n)) ≡ false
      there u = ap lacks (range_found cap v (suc n) (x ∷ us) u)

      lengths : (ts' : List Ticket) (c' : Coordinator) → length ts' ≡ 16 → Lengths (with_tickets t ts' c')
      lengths ts' c' u =
          record { known = S.lengths.known; values = S.lengths.values; rows = S.lengths.rows; buckets = S.lengths.buckets; tickets = u }

      go : (b : Bool) → eqb x.version.0 v ≡ b → (i : ℕ) → cond b 0 (suc (index_of v n us)) ≡ i → i < suc n → Goal (close_at true i (x ∷ us) c)
      go true b zero q h =
          met t (after (close_at true 0 (x ∷ us) c)) (close v) (made_due x.held) S
          (lengths _ _ (length_slide 0 k (x ∷ us) ∙ sixteen)) S.memory S.hashed small
          (rw (fewer, f) (all_slide (Resting cap) 0 n (x ∷ us) (omega arith) resting))
          (close_ends (view t) v (range_of cap x) (ranges_of cap us n) now_ranges (there (rw b (omega arith)))
          ∙ rw (named_ticket cap v x, b, held_ticket cap x, fewer, f, ranges_first cap n x us (omega arith)))
      go true b (suc i) q h = absurd (omega arith)
      go false b zero q h = absurd (omega arith)
      go false b (suc i) q h =
          met t (after (close_at true (suc i) (x ∷ us) c)) (close v) (made_due 0) S
          (lengths _ _ (length_slide (suc i) k (given (x ∷ us) i) ∙ length-set (x ∷ us) i _ ∙ sixteen)) S.memory S.hashed small
          (rw (fewer, f) (all_slide (Resting cap) (suc i) n (given (x ∷ us) i) (omega arith)
          (all_set (Resting cap) (x ∷ us) (suc n) i _ (all_at (Resting cap) (x ∷ us) (suc n) i (omega arith) (omega arith) resting) resting)))
          (close_ends (view t) v (range_of cap x) (ranges_of cap us n) now_ranges (there (rw (b, q) h))
          ∙ rw (named_ticket cap v x, b, fewer, f, ranges_later cap v n i x us (omega arith) (omega arith) (omega arith)))

  -- LAW: close meets the model
  pub close_meets : Met t (closed_tables t v) (close v) (of_closed (closing_of t v).answer)
  unfolding closing
  close_meets = go (dec_lt j k)
    where
      go : Dec (j < k) → Met t (closed_tables t v) (close v) (of_closed (closing_of t v).answer)
      go (yes h) = rw (lt-ltb j k h) (found t.tickets k j refl refl (omega (arith, S.lengths.tickets, S.few)) refl h)
      go (no h) = rw (le-ltb j k (omega arith)) (none_found (omega arith))
