-- Ceil, floor, succ and pred: one call with a direction and whether the key itself counts.
-- Assumes nothing.
use Rattle.std.specs.Prelude.{Result, Ok, Err}
use Rattle.model.specs.declared.Refusal.{Refusal}
use Rattle.model.specs.declared.Refusal.TheVariants.{NoPresentKey}
use Rattle.std.specs.Prelude.{Bool, true, false, cond, List, ℕ, zero, suc, length, get_or, ltb, ℤ}
use Rattle.std.proofs.Math.Option.{Option, none, some}
use Rattle.sizes.specs.Rank.{rank_of, key_of}
use Rattle.model.specs.Plain.{Pair, Map, ceil_of, floor_of, succ_of, pred_of}
use Rattle.model.specs.Calls.{Call, ceil, floor, succ, pred}
use Rattle.model.specs.Model.{pair_of}
use Rattle.tables.specs.Tables.{Tables, capacity_of, node_at}
use Rattle.finds.specs.Near.{near_of}

-- the call that asks in the direction d, the key itself included where `at`
abbrev pub nearest_call : ℕ → Bool → ℤ → Call
nearest_call zero true = ceil
nearest_call (suc d) true = floor
nearest_call zero false = succ
nearest_call (suc d) false = pred

-- what the plain map answers to it
abbrev pub nearest_pair : ℕ → Bool → ℤ → Map → Option Pair
nearest_pair zero true = ceil_of
nearest_pair (suc d) true = floor_of
nearest_pair zero false = succ_of
nearest_pair (suc d) false = pred_of

-- the key of the node, or 13 at a sentinel
unfoldable pub nearest_key : List ℕ → ℕ → Result ℤ Refusal
nearest_key keys n = cond (ltb n (length keys)) (Ok (key_of (get_or keys n 0))) (Err NoPresentKey)

abbrev pub nearest_answer : Tables → ℤ → ℕ → Bool → Result ℤ Refusal
nearest_answer t key d at = nearest_key t.keys (near_of t.keys t.rows (capacity_of t) (rank_of key) d at)

-- the pair of the node n, or none at a sentinel
abbrev pub pair_at : Tables → ℕ → Option Pair
pair_at t n = cond (ltb n (capacity_of t)) (some (pair_of (node_at t.keys t.values t.rows n))) none
