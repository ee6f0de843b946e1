-- One call of a list: what it asks of the model, and what it does to sound tables and to the places of the pair buffers that it is lent.
-- Assumes nothing.
use Rattle.std.specs.Prelude.{◌≡◌, cond, Result, List, [], ◌∷◌, ◌++◌, map, ℕ, min, ◌≤◌, length, get_or, take, drop, eqb, ℤ}
use Rattle.std.specs.Int.Signed.{mag}
use Rattle.lists.specs.Buffers.{written}
use Rattle.groups.specs.Signs.{turned}
use Rattle.transactions.specs.declared.Call.{Call}
use Rattle.transactions.specs.declared.Call.TheVariants.{Lookup, Insert, Remove, HandOver, Ceil, Floor, Succ, Pred, Fast, Open, Step, Close, Sweep, Tally}
use Rattle.model.specs.declared.Refusal.{Refusal}
use Rattle.model.specs.Plain.{Pair}
use Rattle.model.specs.Calls as C
use Rattle.model.specs.Model as M
use Rattle.tables.specs.Tables.{Tables, Met, view}
use Rattle.model.specs.Answers.{of_result, told_stepped}
use Rattle.returns.specs.HandOver.{handing_of, handed_tables}
use Rattle.returns.specs.Sweep.{swept_tables}
use Rattle.changes.specs.Insert.{insert_tables}
use Rattle.changes.specs.Remove.{remove_tables}
use Rattle.ranges.specs.Fast.{RangedBy}
use Rattle.ranges.specs.Open.{opened_tables}
use Rattle.ranges.specs.Step.{stepping, step_end, step_nodes, stepped_tables}
use Rattle.ranges.specs.Walk.{keys_of, values_of}
use Rattle.ranges.specs.Close.{closed_tables}
use Rattle.tables.specs.declared.Ticket.{Ticket}
use Rattle.batch.specs.declared.Reply.{Reply}
use Rattle.batch.specs.Cells.{cells_of, ranged_count, stepped_count}

-- each call has this many places of both pair buffers
abbrev pub room : ℕ
room = 64

-- the call with its room: a step has as many places as it asks for, if there are that many
abbrev pub meant : ℕ → Call → C.Call
meant places (Lookup k) = C.lookup k
meant places (Insert k v coin) = C.insert k v coin
meant places (Remove k) = C.remove k
meant places (HandOver n) = C.hand_over n.0
meant places (Ceil k) = C.ceil k
meant places (Floor k) = C.floor k
meant places (Succ k) = C.succ k
meant places (Pred k) = C.pred k
meant places (Fast l r) = C.fast l r places
meant places (Open l r) = C.«open» l r
meant places (Step v n) = C.step v.0 (min n places)
meant places (Close v) = C.close v.0
meant places Sweep = C.sweep
meant places Tally = C.tally

-- how many of the numbers behind a code are keys and values, which come first
abbrev pub signed_behind : ℕ → ℕ
signed_behind code = get_or (1 ∷ 2 ∷ 1 ∷ 0 ∷ 1 ∷ 1 ∷ 1 ∷ 1 ∷ 2 ∷ 2 ∷ 0 ∷ 0 ∷ 0 ∷ 0 ∷ []) code 0

-- numbers as a file has them: so many turned, the others as they are
abbrev pub filed : ℕ → List ℤ → List ℕ
filed signed xs = map turned (take signed xs) ++ map mag (drop signed xs)

-- the code and the numbers that a file has for a call of the model
abbrev pub in_file : C.Call → List ℕ
in_file c = C.code c ∷ filed (signed_behind (C.code c)) (C.written c).1

-- a call's code and numbers, but a step's room is at most so many places
abbrev pub with_room : ℕ → List ℕ → List ℕ
with_room places ns = cond (eqb (get_or ns 0 0) 10) (take 2 ns ++ (min (get_or ns 2 0) places ∷ [])) ns

-- the tables after the call
unfoldable pub turn_tables : Tables → Call → Tables
turn_tables t (Lookup k) = t
turn_tables t (Insert k v coin) = insert_tables t k v coin
turn_tables t (Remove k) = remove_tables t k
turn_tables t (HandOver n) = handed_tables (handing_of t n.0) t n.0
turn_tables t (Ceil k) = t
turn_tables t (Floor k) = t
turn_tables t (Succ k) = t
turn_tables t (Pred k) = t
turn_tables t (Fast l r) = t
turn_tables t (Open l r) = opened_tables t l r
turn_tables t (Step v n) = stepped_tables t v.0 (min n room)
turn_tables t (Close v) = closed_tables t v.0
turn_tables t Sweep = swept_tables t.coordinator.due t
turn_tables t Tally = t

-- the model's answer, and the pairs in it
unfoldable pub answer_of : Tables → Call → C.Answer
answer_of t call = M.answer (view t) (meant room call)

abbrev pub pairs_of : Tables → Call → List Pair
pairs_of t call = C.pairs_in (answer_of t call)

abbrev pub keys_in : List Pair → List ℤ
keys_in ps = map (λ (p : Pair). p.0) ps

abbrev pub values_in : List Pair → List ℤ
values_in ps = map (λ (p : Pair). p.1) ps

-- the call made on t leaves t', meets the model, answers with these cells and so many pairs, and lays the pairs at the front of its places: ks and vs become ks' and vs'
pub record Turned (t t' : Tables) (call : Call) (ks vs ks' vs' cells : List ℤ) (count : ℕ) : Type 0 where
  pub tables : t' ≡ turn_tables t call
  pub met : Met t t' (meant room call) (answer_of t call)
  pub answers : cells ≡ cells_of (C.code (meant room call)) (answer_of t call)
  pub counts : count ≡ length (pairs_of t call)
  pub few : count ≤ room
  pub keys_out : ks' ≡ written ks 0 (keys_in (pairs_of t call))
  pub values_out : vs' ≡ written vs 0 (values_in (pairs_of t call))

-- ---- the calls that hand out pairs, each as a reply

-- a reply of these parts
abbrev pub reply_of : List ℤ → ℕ → Reply
reply_of cells pairs = record { cells = cells; pairs = pairs }

-- a fast range
pub record FastReply (keys : List ℕ) (values : List ℤ) (rows : List ℕ) (counter : ℕ) (low high : ℤ) (ks vs ks' vs' : List ℤ) (r : Reply) : Type 0 where
  pub answer : Result ℕ Refusal
  pub by : RangedBy keys values rows counter low high ks vs ks' vs' answer
  pub is : r ≡ reply_of (cells_of 8 (of_result C.made_due answer)) (ranged_count answer)

-- a step with so many places, at the front of both buffers: k ranges are open
pub record StepReply (keys : List ℕ) (values : List ℤ) (rows : List ℕ) (ts ts' : List Ticket) (k v places : ℕ) (ks vs ks' vs' : List ℤ) (r : Reply) : Type 0 where
  pub is :
      r
      ≡ reply_of (cells_of 10 (of_result told_stepped (step_end (stepping ts k v places) keys rows ts places).answer))
      (stepped_count (step_end (stepping ts k v places) keys rows ts places).answer)
  pub tickets : ts' ≡ (step_end (stepping ts k v places) keys rows ts places).tickets
  pub keys_out : ks' ≡ written ks 0 (keys_of keys (step_nodes (stepping ts k v places) keys rows ts places))
  pub values_out : vs' ≡ written vs 0 (values_of values (step_nodes (stepping ts k v places) keys rows ts places))
