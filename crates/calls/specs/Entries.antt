-- The entry points' outcomes: the call, the tables afterwards and the answer on sound tables, and the refusal 1 on all others.
-- Assumes nothing.
use Rattle.sizes.specs.declared.Node.{Node}
use Rattle.sizes.specs.declared.Version.{Version}
use Rattle.model.specs.declared.Refusal.{Refusal}
use Rattle.model.specs.declared.Refusal.TheVariants.{NotSound}
use Rattle.std.specs.Prelude.{Result, Ok, Err, Bool, List, ℕ, ℤ}
use Rattle.model.specs.declared.Tallied.{Tallied}
use Rattle.model.specs.declared.Handed.{Handed}
use Rattle.model.specs.declared.Swept.{Swept}
use Rattle.model.specs.declared.Stepped.{Stepped}
use Rattle.model.specs.Calls as C
use Rattle.model.specs.Answers.{of_found, of_nearest, of_tallied, of_inserted, of_removed, of_handed, of_swept, of_closed, of_opened, of_stepped, of_ranged}
use Rattle.tables.specs.Tables.{Tables}
use Rattle.finds.specs.Lookup.{lookup_answer}
use Rattle.finds.specs.Nearest.{nearest_call, nearest_answer}
use Rattle.finds.specs.Tally.{tally_answer}
use Rattle.changes.specs.Insert.{insert_answer, insert_tables}
use Rattle.changes.specs.Remove.{remove_answer, remove_tables}
use Rattle.returns.specs.HandOver.{handing_of, handed_tables}
use Rattle.returns.specs.Sweep.{sweeping, swept_tables}
use Rattle.lists.specs.Buffers.{written}
use Rattle.ranges.specs.Walk.{keys_of, values_of}
use Rattle.ranges.specs.Close.{closing_of, closed_tables}
use Rattle.ranges.specs.Open.{opening_of, opened_tables}
use Rattle.ranges.specs.Step.{room_of, step_given, stepping_of, stepped_tables}
use Rattle.ranges.specs.Fast.{fast_of, fast_given}
use Rattle.calls.specs.Outcome.{Outcome}

-- the tables are all that is lent
abbrev pub itself : Tables → Tables
itself t = t

-- the calls that change nothing: t before, t' at exit, r the answer
abbrev pub Looks : Tables → Tables → ℤ → Result ℤ Refusal → Type 0
Looks t t' k r = Outcome itself of_found (C.lookup k) t t' t r (lookup_answer t k) (Err NotSound)

-- ceil, floor, succ and pred by their direction and whether the key itself counts
abbrev pub Nears : Tables → Tables → ℤ → ℕ → Bool → Result ℤ Refusal → Type 0
Nears t t' k d at r = Outcome itself of_nearest (nearest_call d at k) t t' t r (nearest_answer t k d at) (Err NotSound)

abbrev pub Tallies : Tables → Tables → Result Tallied Refusal → Type 0
Tallies t t' r = Outcome itself of_tallied C.tally t t' t r (Ok (tally_answer t)) (Err NotSound)

-- the calls that change the tables
abbrev pub Inserts : Tables → Tables → ℤ → ℤ → ℕ → Result Node Refusal → Type 0
Inserts t t' k v coin r =
    Outcome itself of_inserted (C.insert k v coin) t t' (insert_tables t k v coin) r (insert_answer t.keys t.rows t.buckets k) (Err NotSound)

abbrev pub Removes : Tables → Tables → ℤ → Result Node Refusal → Type 0
Removes t t' k r = Outcome itself of_removed (C.remove k) t t' (remove_tables t k) r (remove_answer t.keys t.rows t.buckets k) (Err NotSound)

abbrev pub HandsOver : Tables → Tables → ℕ → Result Handed Refusal → Type 0
HandsOver t t' n r = Outcome itself of_handed (C.hand_over n) t t' (handed_tables (handing_of t n) t n) r (handing_of t n) (Err NotSound)

abbrev pub Sweeps : Tables → Tables → Result Swept Refusal → Type 0
Sweeps t t' r = Outcome itself of_swept C.sweep t t' (swept_tables t.coordinator.due t) r (Ok (sweeping t.coordinator.due)) (Err NotSound)

abbrev pub Closes : Tables → Tables → ℕ → Result ℕ Refusal → Type 0
Closes t t' v r = Outcome itself of_closed (C.close v) t t' (closed_tables t v) r (closing_of t v).answer (Err NotSound)

abbrev pub Opens : Tables → Tables → ℤ → ℤ → Result Version Refusal → Type 0
Opens t t' l h r = Outcome itself of_opened (C.«open» l h) t t' (opened_tables t l h) r (opening_of t l h).answer (Err NotSound)

-- ---- the calls that hand out pairs: the pair buffers are lent too

pub record Lent : Type 0 where
  pub tables : Tables
  pub keys_out : List ℤ
  pub values_out : List ℤ

abbrev pub with : Tables → List ℤ → List ℤ → Lent
with t ks vs = record { tables = t; keys_out = ks; values_out = vs }

-- the pairs of these nodes at the front of the two buffers, the rest kept
abbrev pub keys_laid : Tables → List ℕ → List ℤ → List ℤ
keys_laid t nodes ks = written ks 0 (keys_of t.keys nodes)

abbrev pub values_laid : Tables → List ℕ → List ℤ → List ℤ
values_laid t nodes vs = written vs 0 (values_of t.values nodes)

-- the nodes whose pairs a step hands out
abbrev pub stepped : Tables → ℕ → List ℤ → List ℤ → List ℕ
stepped t v ks vs = step_given t.keys t.rows t.tickets t.coordinator.ranges v (room_of ks vs)

abbrev pub Steps : Tables → List ℤ → List ℤ → Tables → List ℤ → List ℤ → ℕ → Result Stepped Refusal → Type 0
Steps t ks vs t' ks' vs' v r =
    Outcome (λ (x : Lent). x.tables) (of_stepped (keys_laid t (stepped t v ks vs) ks) (values_laid t (stepped t v ks vs) vs)) (C.step v (room_of ks vs))
    (with t ks vs) (with t' ks' vs')
    (with (stepped_tables t v (room_of ks vs)) (keys_laid t (stepped t v ks vs) ks) (values_laid t (stepped t v ks vs) vs)) r
    (stepping_of t v (room_of ks vs)).answer (Err NotSound)

-- the nodes whose pairs a fast range hands out
abbrev pub fastly : Tables → ℤ → ℤ → List ℤ → List ℤ → List ℕ
fastly t l h ks vs = fast_given t.keys t.rows t.coordinator.counter.0 l h (room_of ks vs)

abbrev pub Ranges : Tables → List ℤ → List ℤ → List ℤ → List ℤ → ℤ → ℤ → Result ℕ Refusal → Type 0
Ranges t ks vs ks' vs' l h r =
    Outcome (λ (x : Lent). x.tables) (of_ranged (keys_laid t (fastly t l h ks vs) ks) (values_laid t (fastly t l h ks vs) vs)) (C.fast l h (room_of ks vs))
    (with t ks vs) (with t ks' vs') (with t (keys_laid t (fastly t l h ks vs) ks) (values_laid t (fastly t l h ks vs) vs)) r
    (fast_of t.keys t.rows t.coordinator.counter.0 l h (room_of ks vs)) (Err NotSound)
