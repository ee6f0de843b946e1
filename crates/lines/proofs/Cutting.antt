-- A stop is a stop whatever bytes follow: what stops reading where more may follow is not only cut off.
-- Assumes nothing.
use mathlib.Core.Path.{◌≡◌, refl, sym, ap, ◌∙◌}
use mathlib.Core.Bool.{Bool, true, false, true≢false}
use mathlib.Core.List.{List, [], ◌∷◌, ◌++◌, append-nil}
use mathlib.Core.Option.{Option}
use Prim.Native.Nat.{ℕ, ◌≤◌, ◌<◌}
use native.Mathlib.Omega.{arith}
use native.Mathlib.Decide.{dec_lt}
use lib.ListN.{length, take, drop, length-append}
use lib.Seq.{length-take-le, take-append-le, drop-append-le, take-append_seam, take-take}
use Rattle.lists.proofs.Holding.{all_take}
use Rattle.groups.specs.Groups.{High, Begun, Stands}
use Rattle.transactions.specs.Sequences.{Stops, Stopped}

-- a number that ends behind these bytes is only begun in them
begun_in : (rest later : List ℕ) {n len : ℕ} → Stands (rest ++ later) n len → length rest < len → Begun rest
begun_in rest later {n} {len} s h =
    let w = s.written in
    let l = length-take-le len (rest ++ later) s.inside in
    let k = ap length w.whole ∙ length-append w.front (w.last ∷ []) in
    let e : rest ≡ take (length rest) w.front =
    sym (take-append_seam rest later)
    ∙ (sym (take-take (length rest) len (rest ++ later) (omega arith))
    ∙ (ap (take (length rest)) w.whole ∙ take-append-le (length rest) w.front (w.last ∷ []) (omega arith))) in
    record { high = rw e (all_take High (length rest) w.front w.high); short = omega (arith, w.short) }

-- a number that ends in them stands in them alone
stands_in : (rest later : List ℕ) {n len : ℕ} → Stands (rest ++ later) n len → len ≤ length rest → Stands rest n len
stands_in rest later {n} {len} s h = record { inside = h; written = rw (take-append-le len rest later h) at s.written }

module _ {limit : List ℕ → Option ℕ} {rest : List ℕ} {offset : ℕ} (later : List ℕ) where
  stops_later : (s : Stops limit rest offset) → (Begun (drop offset rest) → ⊥) → Stops limit (rest ++ later) offset
  stops_later s f =
      let i = s.reached.inside in
      record {
        numbers = s.numbers;
        reached =
            record {
              inside = omega (arith, length-append rest later);
              before = rw (take-append-le offset rest later i) s.reached.before;
              within = s.reached.within;
            };
        most = s.most;
        due = s.due;
        bad = λ n len w m. go n len (rw (drop-append-le offset rest later i) at w) m (dec_lt (length (drop offset rest)) len);
      }
    where
      go : (n len : ℕ) → Stands (drop offset rest ++ later) n len → n ≤ s.most → Dec (length (drop offset rest) < len) → ⊥
      go n len w m (yes h) = f (begun_in (drop offset rest) later w h)
      go n len w m (no h) = s.bad n len (stands_in (drop offset rest) later w (omega arith)) m

  -- LAW: with all that follows, it stops there too
  pub stopped_later : (more : Bool) → (more ≡ false → later ≡ []) → Stopped limit rest more offset → Stopped limit (rest ++ later) false offset
  stopped_later true e s = record { stops = stops_later s.stops (s.final refl); final = λ x. absurd (true≢false (sym x)) }
  stopped_later false e s = rw (e refl, append-nil rest) s
