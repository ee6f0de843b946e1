-- The rows after the present node of a key left its bucket and is pending.
-- Assumes nothing.
use mathlib.Core.Path.{◌≡◌, ap, ◌∙◌}
use mathlib.Core.Logic.{◌≢◌}
use mathlib.Core.List.{List}
use Prim.Native.Nat.{ℕ, ◌+◌, ◌-◌, ◌*◌, ◌≤◌, ◌<◌}
use native.Mathlib.Omega.{arith}
use lib.ListN.{length}
use Rattle.rows.specs.Rows.{column, put, upd, heights, insertions, removals, places, chains, frees, rings, links, link_column}
use Rattle.rows.proofs.Columns.{length_put, column_same, column_other}
use Rattle.buckets.specs.Buckets.{first_of}
use Rattle.buckets.specs.Finding.{Holds}
use Rattle.buckets.specs.Changes.{rows_without, OnChain}
use Rattle.buckets.proofs.Framing.{without_column, without_rows, chains_without, chains_without_lem}
use Rattle.buckets.proofs.Keeping.{on_chain}
use Rattle.places.specs.Places.{Sized, present_count, free_of, ring_of, Places, Counted}
use Rattle.places.specs.Changes.{made_pending}
use Rattle.places.proofs.Members.{not_free, not_retired}
use Rattle.places.proofs.Stores.{Elsewhere}
use Rattle.places.proofs.Marking.{marked_length, marked_elsewhere, marked_places, marked_ring, marked_free, marked_kept}
use Rattle.places.proofs.Counting.{present_some, pending_counted}
use Rattle.changes.specs.Remove.{RemoveReady, taken_out}
use Rattle.changes.proofs.Framing.{places_same, counted_same}

-- what taking n out does to the rows
pub record Taken_out (rows buckets rows' : List ℕ) (cap rank n counter : ℕ) : Type 0 where
  pub long : length rows' ≡ length rows
  -- the levels
  pub same : (l d : ℕ) → l < 12 → d ≤ 1 → links rows' l d ≡ links rows l d
  -- the places
  pub seated : Places rows cap → Places rows' cap
  pub counted : Counted rows' cap
  pub free : Places rows cap → free_of rows' cap ≡ free_of rows cap
  pub ring : ring_of rows' cap ≡ ring_of rows cap
  -- the fields
  pub tall : heights rows' ≡ heights rows
  pub born : insertions rows' ≡ insertions rows
  pub left : removals rows' ≡ upd (removals rows) n counter
  pub placed : places rows' ≡ upd (places rows) n 2
  pub chained : chains rows' ≡ chains_without (chains rows) cap (first_of buckets rank) n

module _ {keys rows buckets : List ℕ} {rank n : ℕ} (counter : ℕ) (r : RemoveReady keys rows buckets) (h : Holds keys rows (length keys) rank n) where
  abbrev cap : ℕ
  cap = length keys

  -- the rows one step after another
  abbrev dropped : List ℕ
  dropped = rows_without rows buckets cap rank n

  abbrev dated : List ℕ
  dated = put dropped n 2 counter

  abbrev done : List ℕ
  done = made_pending dated cap n

  pub take_reaches : OnChain rows buckets cap rank n
  take_reaches = on_chain keys rows buckets cap r.hashed rank n h

  long_dropped : length dropped ≡ length rows
  long_dropped = without_rows rows buckets rank n cap

  pub take_row : n * 32 + 32 ≤ length dropped
  take_row = rw long_dropped (omega (arith, h.node, r.sized.size))

  long_dated : length dated ≡ length rows
  long_dated = length_put dropped n 2 counter ∙ long_dropped

  dated_rows : (f : ℕ) → f < 32 → 2 ≢ f → 5 ≢ f → column dated f ≡ column rows f
  dated_rows f l a b = column_other dropped n 2 counter f (omega arith) l a ∙ without_column rows buckets rank n cap f l b

  done_dated : (f : ℕ) → Elsewhere f → column done f ≡ column dated f
  done_dated f e = marked_elsewhere dated cap n 2 (present_count dated cap - 1) f e

  done_rows : (f : ℕ) → Elsewhere f → 2 ≢ f → 5 ≢ f → column done f ≡ column rows f
  done_rows f e a b = done_dated f e ∙ dated_rows f e.below a b

  places₂ : places dated ≡ places rows
  places₂ = dated_rows 3 (omega arith) (omega arith) (omega arith)

  frees₂ : frees dated ≡ frees rows
  frees₂ = dated_rows 6 (omega arith) (omega arith) (omega arith)

  rings₂ : rings dated ≡ rings rows
  rings₂ = dated_rows 7 (omega arith) (omega arith) (omega arith)

  here : places dated n ≡ 1
  here = ap (λ g. g n) places₂ ∙ h.here

  counted₂ : Counted dated cap
  counted₂ = counted_same rows dated cap places₂ frees₂ r.counted

  seated₂ : Places rows cap → Places dated cap
  seated₂ = places_same rows dated cap places₂ (dated_rows 4 (omega arith) (omega arith) (omega arith)) frees₂ rings₂

  pub take_sized : Sized dated cap
  take_sized = record { size = long_dated ∙ r.sized.size; small = r.sized.small }

  pub take_some : 0 < present_count dated cap
  take_some = present_some dated cap n counted₂ h.node here

  -- LAW: what taking out does
  pub take_done : Taken_out rows buckets (taken_out rows buckets cap rank n counter) cap rank n counter
  unfolding taken_out
  take_done =
      record {
        long = marked_length dated cap n 2 (present_count dated cap - 1) ∙ long_dated;
        same = λ l d i u. done_rows (link_column l d) (omega arith) (omega arith) (omega arith);
        seated =
            λ P.
            marked_kept dated cap n 2 (present_count dated cap - 1) take_sized h.node (seated₂ P)
            (not_free dated cap (seated₂ P) n (λ e. let z = here in omega arith))
            (not_retired dated cap (seated₂ P) n (λ e. let z = here in omega arith));
        counted = pending_counted dated cap n counted₂ h.node take_sized here;
        free = λ P. marked_free dated cap n 2 (present_count dated cap - 1) take_sized h.node (seated₂ P) ∙ rw frees₂;
        ring = marked_ring dated cap n 2 (present_count dated cap - 1) ∙ rw rings₂;
        tall = done_rows 0 (omega arith) (omega arith) (omega arith);
        born = done_rows 1 (omega arith) (omega arith) (omega arith);
        left =
            done_dated 2 (omega arith)
            ∙ column_same dropped n 2 counter (omega arith) take_row
            ∙ ap (λ g. upd g n counter) (without_column rows buckets rank n cap 2 (omega arith) (omega arith));
        placed = marked_places dated cap n 2 (present_count dated cap - 1) take_sized h.node ∙ ap (λ g. upd g n 2) places₂;
        chained =
            done_dated 5 (omega arith)
            ∙ column_other dropped n 2 counter 5 (omega arith) (omega arith) (omega arith)
            ∙ chains_without_lem rows buckets cap rank n take_reaches;
      }
