-- Laws of reading the next number, and of the loop that reads some with the same limit.
-- Assumes nothing.
use Prim.Native.Nat.{ℕ, zero, suc, ◌+◌, ◌≤◌, ◌<◌}
use mathlib.Core.Path.{◌≡◌, refl, sym, ap, subst, ◌∙◌}
use mathlib.Core.Bool.{Bool}
use mathlib.Core.List.{List, [], ◌∷◌, ◌++◌}
use mathlib.Core.Option.{Option, some}
use native.Mathlib.Omega.{arith}
use lib.ListN.{length, set, take, drop, get_elem?, replicate, length-set}
use lib.Seq.{length-take-le, take-suc-set, drop-drop}
use native.Mathlib.Numerals.{add-one}
use Rattle.groups.specs.Groups.{Begun, Stands}
use Rattle.groups.proofs.Standing.{stands_begun}
use Rattle.transactions.specs.Sequences.{listed, Reached, Stops}
use Rattle.transactions.specs.Readings.{Halts}
use Rattle.transactions.specs.Inner.{NumberRead}
use Rattle.std.specs.Prelude.{Err}
use Rattle.transactions.specs.declared.Halt.{Halt}
use Rattle.transactions.specs.declared.Halt.TheVariants.{Stop, More}
use Rattle.transactions.proofs.Sequencing.{reached_more}

-- the numbers before the place are reached, and one more is due there
pub record Due (limit : List ℕ → Option ℕ) (bytes : List ℕ) (at place most : ℕ) : Type 0 where
  pub numbers : List ℕ
  pub offset : ℕ
  pub is : place ≡ at + offset
  pub reached : Reached limit (drop at bytes) numbers offset
  pub due : limit numbers ≡ some most

module _ {limit : List ℕ → Option ℕ} {bytes : List ℕ} {at place most : ℕ} (d : Due limit bytes at place most) where
  -- the bytes left at the place
  left : drop d.offset (drop at bytes) ≡ drop place bytes
  left = drop-drop d.offset at bytes ∙ ap (λ k. drop k bytes) (sym d.is)

  -- the number there is within its limit
  pub due_well : {n len : ℕ} → Stands (drop place bytes) n len → n ≤ most → Reached limit (drop at bytes) (d.numbers ++ n ∷ []) (d.offset + len)
  due_well {n} {len} s l = reached_more d.reached d.due (subst (λ (r : List ℕ). Stands r n len) (sym left) s) l

  stop_here : ((n len : ℕ) → Stands (drop place bytes) n len → n ≤ most → ⊥) → Stops limit (drop at bytes) d.offset
  stop_here bad = record {
    numbers = d.numbers;
    reached = d.reached;
    most = most;
    due = d.due;
    bad = λ n len s. bad n len (subst (λ (r : List ℕ). Stands r n len) left s);
  }

  -- no number within its limit is read there
  pub due_halts : (more : Bool) (h : Halt) → NumberRead most (drop place bytes) place more (Err h) → Halts limit (drop at bytes) at more h
  due_halts more (Stop p) r = record {
    offset = d.offset;
    is = r.0 ∙ d.is;
    stopped = record { stops = stop_here r.1.none; final = λ w z. r.1.final w (subst Begun left z) };
  }
  due_halts more More r = record { follows = r.0; offset = d.offset; stops = stop_here (λ n len s l. stands_begun s r.1); begun = subst Begun (sym left) r.1 }

-- the first i of count numbers are found, and the next begins at place
pub record Found (count most : ℕ) (bytes found : List ℕ) (at place i : ℕ) : Type 0 where
  pub offset : ℕ
  pub is : place ≡ at + offset
  pub few : i ≤ count
  pub room : count ≤ length found
  pub reached : Reached (listed (replicate count most)) (drop at bytes) (take i found) offset

limit_at : (count most i : ℕ) → i < count → get_elem? (replicate count most) i ≡ some most
limit_at zero most i h = absurd (omega arith)
limit_at (suc count) most zero h = refl
limit_at (suc count) most (suc i) h = limit_at count most i (omega arith)

module _ {count most : ℕ} {bytes found : List ℕ} {at place i : ℕ} (f : Found count most bytes found at place i) where
  module _ (more : i < count) where
    pub found_due : Due (listed (replicate count most)) bytes at place most
    found_due = record {
      numbers = take i found;
      offset = f.offset;
      is = f.is;
      reached = f.reached;
      due = rw (length-take-le i found (omega (arith, f.room))) (limit_at count most i more);
    }

    -- one number more, in its place
    pub found_with : {found' : List ℕ} {n len : ℕ} → Stands (drop place bytes) n len → n ≤ most → found' ≡ set found i n → Found count most bytes found' at (place + len) (i + 1)
    unfolding found_due
    found_with {found'} {n} {len} s l e = rw e (record {
      offset = f.offset + len;
      is = omega (arith, f.is);
      few = omega arith;
      room = rw length-set f.room;
      reached = rw (add-one, take-suc-set found i n (omega (arith, f.room))) (due_well found_due s l);
    })
