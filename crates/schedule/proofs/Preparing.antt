-- Set-up on memory that is cut to the capacity: its result, and the tables afterwards.
-- Assumes nothing.
use Rattle.std.specs.Prelude.{Result, Ok, Err, Some, None, ⊤, Option}
use mathlib.Core.Path.{◌≡◌, refl, ap, ap₂, ◌∙◌, subst}
use mathlib.Core.Bool.{Bool, true, false, cond}
use mathlib.Core.List.{List, [], ◌∷◌, ◌++◌}
use Prim.Native.Nat.{ℕ, ◌+◌, ◌*◌, ◌≤◌, min}
use native.Mathlib.Omega.{arith}
use lib.Dec.{leb, eqb}
use lib.ListN.{length, take, drop, take-append-drop}
use lib.Seq.{length-take-le, take_at}
use borrow.Author.Tests.{leb-true, leb-false, eq-eqb, ne_eqb}
use Rattle.lists.specs.Holds.{All}
use Rattle.sizes.specs.declared.Version.{Version}
use Rattle.sizes.specs.declared.Size.{Size}
use Rattle.sizes.specs.Sizes.{sizes, seek, size_of}
use Rattle.model.specs.declared.Refusal.{Refusal}
use Rattle.model.specs.declared.Refusal.TheVariants.{NotSound}
use Rattle.model.specs.Answers.{refusal_number}
use Rattle.tables.specs.declared.Ticket.{Ticket}
use Rattle.tables.specs.declared.Coordinator.{Coordinator}
use Rattle.tables.specs.Tables.{Tables}
use Rattle.soundness.specs.Tested.{lent}
use Rattle.soundness.specs.SetUp.{fits, answer_in, set_up_answer, set_up_tables, SetUpBy}
use Rattle.schedule.specs.declared.Lengths.{Lengths}
use Rattle.schedule.specs.declared.Memory.{Memory}
use Rattle.schedule.specs.declared.Session.{Session}
use Rattle.schedule.specs.SetUps.{result_in, set_up_result, answer_number, Whole, lengths_of, cut, PreparedBy}

-- ---- the parts that are lent are parts of the memory

pub lengths_fit : (s : Option Size) → ((lengths_of s).nodes ≤ 256) × ((lengths_of s).rows ≤ 8256) × ((lengths_of s).buckets ≤ 367)
lengths_fit (Some size) = (omega arith, omega arith, omega arith)
lengths_fit None = (omega arith, omega arith, omega arith)

pub record Fits (l : Lengths) (m : Memory) : Type 0 where
  pub of_keys : l.nodes ≤ length m.keys
  pub of_values : l.nodes ≤ length m.values
  pub of_rows : l.rows ≤ length m.rows
  pub of_buckets : l.buckets ≤ length m.buckets

-- LAW: the lengths that a capacity asks for
pub memory_fits : (s : Option Size) {l : Lengths} {m : Memory} → l ≡ lengths_of s → Whole m → Fits l m
memory_fits s e m =
    let f = lengths_fit s in
    rw e (record { of_keys = omega (arith, f.0, m.keyed); of_values = omega (arith, f.0, m.valued); of_rows = omega (arith, f.1, m.rowed); of_buckets = omega (arith, f.2, m.bucketed) })

-- a part that came back is at the front
pub part_front : {A : Type 0} (d e : List A) (n : ℕ) → length e ≡ length (take n d) → n ≤ length d → take n (e ++ drop n d) ≡ e
part_front d e n h f = take_at e (drop n d) n (h ∙ length-take-le n d f)

-- ---- the result

-- what holds of each entry of the table holds of the one that is sought
seek_all : (P : Size → Type 0) (ss : List Size) → All P ss → (c : ℕ) (s : Size) → seek ss c ≡ Some s → P s
seek_all P [] a c s e = let z : ◌≡◌ {A = ℕ} 0 1 = cc in absurd (omega arith)
seek_all P (x ∷ xs) a c s e = go (eqb x.capacity c) refl (seek_all P xs a.1 c s)
  where
    go : (b : Bool) → eqb x.capacity c ≡ b → (seek xs c ≡ Some s → P s) → P s
    go true f r =
        let g : Some x ≡ Some s = rw f at e in
        let h : x ≡ s = cc in
        subst P h a.0
    go false f r = r (rw f at e)

-- a capacity that there is memory for has buckets that there is memory for
small_buckets : (c : ℕ) (s : Size) → size_of c ≡ Some s → s.capacity ≤ 256 → s.buckets ≤ 367
unfolding size_of
small_buckets c s e =
    seek_all (λ (s : Size). s.capacity ≤ 256 → s.buckets ≤ 367) sizes
    (λ h. omega arith, (λ h. omega arith, (λ h. omega arith, (λ h. omega arith, (λ h. omega arith, (λ h. omega arith, (λ h. omega arith, tt)))))))
    c
    s
    e

-- the parts have their lengths exactly where there is memory for them
fits_is : (size : Size) (t : Tables) → (size.capacity ≤ 256 → size.buckets ≤ 367) → length t.keys ≡ min size.capacity 256 → length t.values ≡ min size.capacity 256
    → length t.rows ≡ min ((size.capacity + 2) * 32) 8256 → length t.buckets ≡ min size.buckets 367 → fits size t ≡ leb size.capacity 256
fits_is size t small k v r b = go (leb size.capacity 256) refl
  where
    go : (x : Bool) → leb size.capacity 256 ≡ x → fits size t ≡ x
    go true e =
        let l = leb-true size.capacity 256 e in
        let m = small l in
        rw
        (eq-eqb (length t.keys) size.capacity (omega (arith, k)), eq-eqb (length t.values) size.capacity (omega (arith, v)), eq-eqb (length t.rows) ((size.capacity + 2) * 32) (omega (arith, r)), eq-eqb (length t.buckets) size.buckets (omega (arith, b)))
    go false e = let l = leb-false size.capacity 256 e in rw (ne_eqb (length t.keys) size.capacity (λ x. omega (arith, k)))

-- the number of an answer of set-up is 0 only where it is done
number_some : (r : Refusal) → refusal_number r ≡ 0 → ⊥
number_some r e = grind arith

number_done : (a : Result ⊤ Refusal) → answer_number a ≡ 0 → a ≡ Ok tt
number_done (Ok tt) e = refl
number_done (Err r) e = absurd (number_some r e)

module _ {m : Memory} (capacity : ℕ) (start : Version) {l : Lengths} {tickets tickets' : List Ticket} {co co' : Coordinator} {a : Result ⊤ Refusal} {rows' buckets' : List ℕ}
    (s : Session) (w : Whole m) (e : l ≡ lengths_of (size_of capacity))
    (y : SetUpBy (cut m l tickets co) (lent (take l.nodes m.keys) (take l.nodes m.values) rows' buckets' tickets' co') capacity start a)
    (r : length rows' ≡ l.rows) (b : length buckets' ≡ l.buckets) where
  abbrev t : Tables
  t = cut m l tickets co

  f : Fits l m
  f = memory_fits (size_of capacity) e w

  answer_is : a ≡ answer_in (size_of capacity) t
  unfolding set_up_answer
  answer_is = y.answer

  result_is : answer_number a ≡ set_up_result capacity
  result_is = ap answer_number answer_is ∙ go (size_of capacity) refl
    where
      go : (x : Option Size) → size_of capacity ≡ x → answer_number (answer_in x t) ≡ result_in x
      go None q = refl
      go (Some size) q =
          let n : l ≡ lengths_of (Some size) = e ∙ ap lengths_of q in
          let i = fits_is size t (small_buckets capacity size q)
          (length-take-le l.nodes m.keys f.of_keys ∙ ap (λ (x : Lengths). x.nodes) n)
          (length-take-le l.nodes m.values f.of_values ∙ ap (λ (x : Lengths). x.nodes) n)
          (length-take-le l.rows m.rows f.of_rows ∙ ap (λ (x : Lengths). x.rows) n)
          (length-take-le l.buckets m.buckets f.of_buckets ∙ ap (λ (x : Lengths). x.buckets) n) in
          rw i (by (leb size.capacity 256))
        where
          by : (x : Bool) → answer_number (cond x (Ok tt) (Err NotSound)) ≡ cond x 0 1
          by true = refl
          by false = refl

  tables_same : (answer_number a ≡ 0 → ⊥) → set_up_tables t capacity start ≡ t
  tables_same n = go (set_up_answer t capacity) refl
    where
      go : (x : Result ⊤ Refusal) → set_up_answer t capacity ≡ x → set_up_tables t capacity start ≡ t
      go (Ok tt) q = absurd (n (ap answer_number (y.answer ∙ q)))
      go (Err k) q = rw q

  -- LAW: what set-up leaves of the memory, and its result
  pub prepared : PreparedBy m s (record m { rows = rows' ++ drop l.rows m.rows; buckets = buckets' ++ drop l.buckets m.buckets })
      (record s { lengths = l; tickets = tickets'; coordinator = co' }) capacity start (answer_number a)
  prepared =
      record {
        result = result_is;
        lengths = e;
        fresh =
            λ z.
            (let d = number_done a z in
            rw (take_at rows' (drop l.rows m.rows) l.rows r, take_at buckets' (drop l.buckets m.buckets) l.buckets b)
            (record { sound = y.sound d; shows = y.model d }));
        same =
            λ z.
            (let q = y.tables ∙ tables_same z in
            ap₂ (λ (x y : List ℕ). record m { rows = x; buckets = y })
            (ap (λ (x : Tables). x.rows ++ drop l.rows m.rows) q ∙ take-append-drop l.rows m.rows)
            (ap (λ (x : Tables). x.buckets ++ drop l.buckets m.buckets) q ∙ take-append-drop l.buckets m.buckets));
        window = refl;
      }
