-- A call of a file is the same call to the model: its code, which the cells and the lines show, and its numbers are those that the file has.
-- Assumes nothing.
use mathlib.Core.Path.{◌≡◌, refl}
use Prim.Native.Nat.{ℕ}
use Rattle.transactions.specs.declared.Call.{Call}
use Rattle.transactions.specs.declared.Call.TheVariants.{Lookup, Insert, Remove, HandOver, Ceil, Floor, Succ, Pred, Fast, Open, Step, Close, Sweep, Tally}
use Rattle.transactions.specs.Calls.{numbers_of}
use Rattle.batch.specs.Turns.{meant, in_file, with_room}

-- LAW: of every call
pub codes_agree : (places : ℕ) (c : Call) → in_file (meant places c) ≡ with_room places (numbers_of c)
codes_agree places (Lookup k) = refl
codes_agree places (Insert k v coin) = refl
codes_agree places (Remove k) = refl
codes_agree places (HandOver n) = refl
codes_agree places (Ceil k) = refl
codes_agree places (Floor k) = refl
codes_agree places (Succ k) = refl
codes_agree places (Pred k) = refl
codes_agree places (Fast l r) = refl
codes_agree places (Open l r) = refl
codes_agree places (Step v n) = refl
codes_agree places (Close v) = refl
codes_agree places Sweep = refl
codes_agree places Tally = refl
