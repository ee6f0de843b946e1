-- A change of other columns leaves the places as they are.
-- Assumes nothing.
use mathlib.Core.Path.{◌≡◌}
use mathlib.Core.List.{List}
use Prim.Native.Nat.{ℕ}
use Rattle.rows.specs.Rows.{places, seats, frees, rings}
use Rattle.places.specs.Places.{present_count, free_of, ring_of, Places, Counted}

-- the columns that the places are in are the same
pub record Same (rows rows' : List ℕ) : Type 0 where
  pub place : places rows' ≡ places rows
  pub seat : seats rows' ≡ seats rows
  pub free : frees rows' ≡ frees rows
  pub ring : rings rows' ≡ rings rows

module _ (rows rows' : List ℕ) (cap : ℕ) (s : Same rows rows') where
  pub same_free : free_of rows' cap ≡ free_of rows cap
  same_free = rw s.free

  pub same_ring : ring_of rows' cap ≡ ring_of rows cap
  same_ring = rw s.ring

  pub same_present : present_count rows' cap ≡ present_count rows cap
  same_present = rw s.free

  pub same_counted : Counted rows cap → Counted rows' cap
  same_counted C = rw (s.free, s.place) C

  pub same_kept : Places rows cap → Places rows' cap
  same_kept P =
      record {
        spares = rw s.free P.spares;
        idle = rw (s.free, s.place, s.seat) P.idle;
        front = rw s.ring P.front;
        few = rw s.ring P.few;
        gone = rw (s.ring, s.place, s.seat) P.gone;
      }
