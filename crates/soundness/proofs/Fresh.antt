-- Set-up makes sound tables that show the model's state after set-up; a refusal leaves them as they were.
-- Assumes nothing.
use mathlib.Core.Path.{◌≡◌, refl, sym, ap, ◌∙◌}
use mathlib.Core.Bool.{Bool, true, false, cond}
use mathlib.Core.List.{List, []}
use mathlib.Core.Option.{none, some}
use Rattle.std.specs.Prelude.{Option, Some, None, Result, Ok, Err, ⊤}
use Prim.Native.Nat.{ℕ, ◌<◌, ◌+◌, ◌*◌}
use native.Mathlib.Omega.{arith}
use lib.ListN.{length, replicate, length-replicate}
use lib.Dec.{eqb}
use borrow.Author.Tests.{eqb-true, eq-eqb}
use Rattle.lists.specs.Filters.{count}
use Rattle.lists.specs.Tests.{Says}
use Rattle.lists.proofs.Comparing.{one_answer}
use Rattle.sizes.specs.declared.Version.{Version}
use Rattle.sizes.specs.declared.Size.{Size}
use Rattle.sizes.specs.Sizes.{size_of}
use Rattle.sizes.proofs.Sizing.{size_rule}
use Rattle.rows.specs.Rows.{column, places}
use Rattle.levels.specs.Levels.{order_of, Linked}
use Rattle.levels.specs.Stitch as L
use Rattle.levels.proofs.Joining.{length_cleared, cleared_field}
use Rattle.levels.proofs.Stitching.{clear_linked}
use Rattle.places.specs.Places.{Sized, free_of, ring_of}
use Rattle.places.specs.Changes as P
use Rattle.places.proofs.Clearing.{cleared_length, cleared_places, cleared_free, cleared_ring, cleared_kept}
use Rattle.places.proofs.Counting.{cleared_counted}
use Rattle.places.proofs.Frames.{Same, same_free, same_ring, same_counted, same_kept}
use Rattle.buckets.specs.Buckets.{Buckets, Present}
use Rattle.buckets.proofs.Keeping.{buckets_fresh}
use Rattle.model.specs.declared.Refusal.{Refusal}
use Rattle.model.specs.declared.Refusal.TheVariants.{NotSound, NoSuchCapacity}
use Rattle.model.specs.Model as M
use Rattle.model.proofs.Order.{and_left, and_right}
use Rattle.model.proofs.Reached.{well_fresh}
use Rattle.tables.specs.declared.Ticket.{Ticket}
use Rattle.tables.specs.Tables.{Tables, no_ticket, levels_in, levels_of, buckets_in, buckets_of, view, Memory, Sound}
use Rattle.tables.proofs.Capacities.{capacity, capacity_of_lem}
use Rattle.soundness.specs.Tested.{lent, Parts}
use Rattle.soundness.specs.SetUp.{fresh_rows, fresh_buckets, fresh_tickets, fresh_coordinator, fresh_tables, fits, answer_in, set_up_answer, tables_after, SetUpBy}

-- ---- the rows

module _ (rows : List ℕ) (cap : ℕ) (size : length rows ≡ (cap + 2) * 32) (known : 0 < levels_of cap) where
  abbrev free : List ℕ
  free = P.cleared rows cap

  sized : Sized rows cap
  sized = record { size = size; small = (capacity cap known).most }

  free_size : length free ≡ (cap + 2) * 32
  free_size = cleared_length rows cap ∙ size

  rows_size : length (fresh_rows rows cap) ≡ (cap + 2) * 32
  unfolding fresh_rows
  rows_size = length_cleared free cap (levels_of cap) ∙ free_size

  field : (f : ℕ) → f < 8 → column (fresh_rows rows cap) f ≡ column free f
  unfolding fresh_rows
  field f l = cleared_field free cap (levels_of cap) f (capacity cap known).high l

  same : Same free (fresh_rows rows cap)
  same = record { place = field 3 (omega arith); seat = field 4 (omega arith); free = field 6 (omega arith); ring = field 7 (omega arith) }

  linked : (order_of (fresh_rows rows cap) cap ≡ []) × Linked (fresh_rows rows cap) cap (levels_of cap)
  unfolding fresh_rows
  linked = clear_linked free cap (levels_of cap) free_size known (capacity cap known).high

  memory : Memory (fresh_rows rows cap) cap
  memory =
      record {
        linked = linked.1;
        used = rw linked.0 tt;
        seated = same_kept free (fresh_rows rows cap) cap same (cleared_kept rows cap sized (omega (arith, (capacity cap known).least)));
        counted = same_counted free (fresh_rows rows cap) cap same (cleared_counted rows cap sized);
      }

  free_list : free_of (fresh_rows rows cap) cap ≡ count 0 cap
  free_list = same_free free (fresh_rows rows cap) cap same ∙ cleared_free rows cap sized

  ring_list : ring_of (fresh_rows rows cap) cap ≡ []
  ring_list = same_ring free (fresh_rows rows cap) cap same ∙ cleared_ring rows cap sized

  none_present : (n : ℕ) → n < cap → Present (fresh_rows rows cap) n → ⊥
  none_present n l p = let e : places free n ≡ 1 = rw (field 3 (omega arith)) at p in omega (arith, cleared_places rows cap sized n l)

  chains : (keys : List ℕ) → length keys ≡ cap → Buckets keys (fresh_rows rows cap) (fresh_buckets cap) cap
  chains keys e =
      buckets_fresh keys (fresh_rows rows cap) (buckets_of cap) cap
      (record { keyed = omega arith; rowed = omega (arith, rows_size); some = (capacity cap known).some }) none_present

-- ---- the tables

-- what clearing the rows relies on
pub rows_sized : (rows : List ℕ) (cap : ℕ) (s : Size) → size_of cap ≡ Some s → {keys values buckets : ℕ} → Parts s keys values (length rows) buckets → Sized rows cap
rows_sized rows cap s e p = sized rows cap (p.rowed ∙ ap (λ (n : ℕ). (n + 2) * 32) (size_rule cap s e).asked) (capacity_of_lem cap s e)

module _ (t : Tables) (cap : ℕ) (start : Version) (s : Size) (e : size_of cap ≡ Some s) (p : Parts s (length t.keys) (length t.values) (length t.rows) (length t.buckets)) where
  asked : s.capacity ≡ cap
  asked = (size_rule cap s e).asked

  known : 0 < levels_of cap
  known = capacity_of_lem cap s e

  keyed : length t.keys ≡ cap
  keyed = p.keyed ∙ asked

  rowed : length t.rows ≡ (cap + 2) * 32
  rowed = p.rowed ∙ ap (λ (n : ℕ). (n + 2) * 32) asked

  abbrev new : Tables
  new = fresh_tables t cap start

  -- the view is the model's fresh state
  fresh_view : view new ≡ M.fresh cap (levels_of cap) start.0
  unfolding view M.fresh fresh_tables
  fresh_view =
      rw (keyed, (linked t.rows cap rowed known).0, free_list t.rows cap rowed known, ring_list t.rows cap rowed known)

  -- LAW: what set-up makes is sound
  pub fresh_sound : Sound new
  unfolding fresh_tables
  fresh_sound =
      record {
        lengths =
            record {
              known = rw keyed known;
              values = p.valued ∙ sym p.keyed;
              rows = rw keyed (rows_size t.rows cap rowed known);
              buckets = rw keyed (length-replicate (buckets_of cap) cap);
              tickets = length-replicate 16 no_ticket;
            };
        memory = rw keyed (memory t.rows cap rowed known);
        hashed = rw keyed (chains t.rows cap rowed known t.keys keyed);
        few = omega arith;
        resting = tt;
        well = rw fresh_view (well_fresh cap (levels_of cap) start.0 known);
      }

  -- LAW: and shows the model's state after set-up
  pub fresh_model : M.set_up cap start.0 ≡ some (view new)
  unfolding M.set_up levels_of
  fresh_model =
      let l : levels_of cap ≡ s.levels = ap levels_in e in
      rw (e, fresh_view, asked, l)

-- ---- the answer

-- LAW: the test of the parts is that of their lengths
pub fits_says : (s : Size) (t : Tables) → Says (fits s t) (Parts s (length t.keys) (length t.values) (length t.rows) (length t.buckets))
fits_says s t =
    record {
      holds =
          λ e.
          let b = and_right (eqb (length t.keys) s.capacity) _ e in
          let d = and_right (eqb (length t.values) s.capacity) _ b in
          record {
            keyed = eqb-true _ _ (and_left _ _ e);
            valued = eqb-true _ _ (and_left _ _ b);
            rowed = eqb-true _ _ (and_left _ _ d);
            bucketed = eqb-true _ _ (and_right (eqb (length t.rows) ((s.capacity + 2) * 32)) _ d);
          };
      told =
          λ p.
          rw (
            eq-eqb (length t.keys) s.capacity p.keyed,
            eq-eqb (length t.values) s.capacity p.valued,
            eq-eqb (length t.rows) ((s.capacity + 2) * 32) p.rowed,
            eq-eqb (length t.buckets) s.buckets p.bucketed,
          );
    }

-- LAW: refused for its capacity exactly where the model's set-up gives no state
pub unknown_model : (t : Tables) (cap start : ℕ) → set_up_answer t cap ≡ Err NoSuchCapacity → M.set_up cap start ≡ none
unfolding set_up_answer M.set_up
unknown_model t cap start e = go (size_of cap) e
  where
    other : (b : Bool) → cond {A = Result ⊤ Refusal} b (Ok tt) (Err NotSound) ≡ Err NoSuchCapacity → ⊥
    other true f = cc
    other false f = cc

    go : (z : Option Size) → answer_in z t ≡ Err NoSuchCapacity → M.fresh_of start z ≡ none
    go None f = refl
    go (Some s) f = absurd (other (fits s t) f)

pub model_unknown : (t : Tables) (cap start : ℕ) → M.set_up cap start ≡ none → set_up_answer t cap ≡ Err NoSuchCapacity
unfolding set_up_answer M.set_up
model_unknown t cap start e = go (size_of cap) e
  where
    go : (z : Option Size) → M.fresh_of start z ≡ none → answer_in z t ≡ Err NoSuchCapacity
    go None f = refl
    go (Some s) f = cc

module _ (t : Tables) (cap : ℕ) (start : Version) where
  refused : (n : Refusal) → set_up_answer t cap ≡ Err n → SetUpBy t t cap start (Err n)
  refused n e = record { answer = sym e; tables = rw e; sound = λ d. cc; model = λ d. cc }

  -- LAW: no such capacity
  pub set_up_unknown : size_of cap ≡ None → SetUpBy t t cap start (Err NoSuchCapacity)
  unfolding set_up_answer
  set_up_unknown e = refused NoSuchCapacity (rw e)

  module _ (s : Size) (e : size_of cap ≡ Some s) (r : Bool) (h : Says r (Parts s (length t.keys) (length t.values) (length t.rows) (length t.buckets))) where
    tested : (b : Bool) → r ≡ b → set_up_answer t cap ≡ cond b (Ok tt) (Err NotSound)
    unfolding set_up_answer
    tested b q = rw (e, one_answer (fits s t) r (fits_says s t) h, q)

    -- LAW: a part has the wrong length
    pub set_up_short : r ≡ false → SetUpBy t t cap start (Err NotSound)
    set_up_short q = refused NotSound (tested false q)

    done : r ≡ true → SetUpBy t (fresh_tables t cap start) cap start (Ok tt)
    done q =
        record {
          answer = sym (tested true q);
          tables = rw (tested true q);
          sound = λ d. fresh_sound t cap start s e (h.holds q);
          model = λ d. fresh_model t cap start s e (h.holds q);
        }

    -- LAW: the tables are fresh, as the code comes to them
    pub set_up_done : r ≡ true → (rows buckets : List ℕ) (tickets : List Ticket) → rows ≡ L.cleared (P.cleared t.rows cap) cap s.levels → buckets ≡ replicate (length t.buckets) cap → tickets ≡ fresh_tickets
        → SetUpBy t (lent t.keys t.values rows buckets tickets (fresh_coordinator start)) cap start (Ok tt)
    unfolding fresh_tables fresh_rows levels_of buckets_of
    set_up_done q rows buckets tickets a b c =
        let l : levels_of cap ≡ s.levels = ap levels_in e in
        let n : length t.buckets ≡ buckets_of cap = (h.holds q).bucketed ∙ sym (ap buckets_in e) in
        rw (a, b, c, n, ← l) (done q)

-- LAW: a refused set-up leaves the tables as they were, cell by cell
pub set_up_unchanged : (t t' : Tables) (capacity : ℕ) (start : Version) (n : Refusal) → SetUpBy t t' capacity start (Err n) → t' ≡ t
set_up_unchanged t t' capacity start n o = o.tables ∙ ap (λ a. tables_after a t capacity start) (sym o.answer)
