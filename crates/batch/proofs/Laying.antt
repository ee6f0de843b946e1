-- A call of a list behind others: its cells and its pairs in the whole buffers.
-- Assumes nothing.
use mathlib.Core.Path.{◌≡◌, ap, ◌∙◌}
use mathlib.Core.List.{List, ◌++◌}
use Prim.Native.Nat.{ℕ, ◌≤◌, ◌*◌}
use native.Mathlib.Omega.{arith}
use lib.ListN.{length, take, drop, length-map}
use lib.IntN.{ℤ}
use Rattle.lists.specs.Buffers.{written}
use Rattle.transactions.specs.declared.Call.{Call}
use Rattle.model.specs.Plain.{Pair}
use Rattle.tables.specs.Tables.{Tables}
use Rattle.batch.specs.Turns.{room, pairs_of, keys_in, values_in, Turned}
use Rattle.batch.specs.Lists.{Room, Laid}
use Rattle.batch.proofs.Parts.{part_written}

-- LAW: a turn in the next places of the buffers lays its pairs behind the others
pub turn_laid : {t t' : Tables} {call : Call} {calls pairs : ℕ} (answers ks vs : List ℤ) → Room (length answers) (length ks) (length vs) calls pairs → (k : ℕ) → k ≡ room
    → {answers' ks' vs' cells : List ℤ} {count : ℕ} → Turned t t' call (take k (drop pairs ks)) (take k (drop pairs vs)) ks' vs' cells count → answers' ≡ written answers (calls * 5) cells
    → Laid t t' call calls pairs answers ks vs answers' (take pairs ks ++ (ks' ++ drop k (drop pairs ks))) (take pairs vs ++ (vs' ++ drop k (drop pairs vs))) count
turn_laid {t} {call = call} {calls = calls} {pairs = pairs} answers ks vs r k e u w =
    let few : length (pairs_of t call) ≤ k = omega (arith, u.counts, u.few) in
    let own = length-map (pairs_of t call) (λ (p : Pair). p.0) in
    let other = length-map (pairs_of t call) (λ (p : Pair). p.1) in
    record {
      tables = u.tables;
      met = u.met;
      counts = u.counts;
      few = u.few;
      cells = w ∙ ap (written answers (calls * 5)) u.answers;
      keys_out = rw u.keys_out (part_written ks pairs k (keys_in (pairs_of t call)) (omega arith) (omega (arith, r.for_keys)));
      values_out = rw u.values_out (part_written vs pairs k (values_in (pairs_of t call)) (omega arith) (omega (arith, r.for_values)));
    }
