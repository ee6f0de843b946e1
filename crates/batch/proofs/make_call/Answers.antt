-- `batch::make_call` meets its contract: each call is made ready by one law and turned by another.
use mathlib.Core.Path.{refl}
use mathlib.Core.Bool.{true, false}
use native.Mathlib.Omega.{arith}
use Rattle.transactions.specs.declared.Call.TheVariants.{Ceil, Floor, Succ, Pred}
use Rattle.tables.specs.Tables.{Tables}
use Rattle.tables.proofs.Telling.{sound_capacity}
use Rattle.soundness.specs.Tested.{lent}
use Rattle.finds.proofs.LookupLaw.{lookup_ready}
use Rattle.finds.proofs.NearLaw.{near_ready}
use Rattle.finds.proofs.TallyLaw.{tally_ready}
use Rattle.changes.proofs.InsertLaw.{insert_ready}
use Rattle.changes.proofs.RemoveLaw.{remove_ready}
use Rattle.returns.proofs.HandLaw.{hand_ready}
use Rattle.returns.proofs.SweepLaw.{sweep_ready}
use Rattle.ranges.proofs.FastLaw.{fast_ready}
use Rattle.ranges.proofs.OpenLaw.{open_ready}
use Rattle.ranges.proofs.StepLaw.{step_ready}
use Rattle.ranges.proofs.CloseLaw.{close_ready}
use Rattle.batch.specs.Turns.{turn_tables}
use Rattle.batch.proofs.Turning.{lookup_turned, insert_turned, remove_turned, nearest_turned, tally_turned, hand_turned, open_turned, close_turned, sweep_turned}
use Rattle.batch.proofs.Pairing.{fast_turned, step_turned}
use Rattle.batch.proofs.make_call.Goals as goal
use Rattle.batch.proofs.make_call.Goals.{Start}

-- the tables that are lent
abbrev tables : Start → Tables
tables st =
    lent st.args.keys.now st.args.values.now st.args.rows.now st.args.buckets.now st.args.tickets.now st.args.coordinator.now

pub overflow_cast-cap : goal.overflow_cast-cap
overflow_cast-cap c = record { fits = omega (arith, (sound_capacity (tables (goal.at.overflow_cast-cap c).Start) c.requires.0).most) }

pub lookup-requires : goal.lookup-requires
lookup-requires c = lookup_ready (tables (goal.at.lookup-requires c).Start) c.requires.0

pub insert-requires : goal.insert-requires
insert-requires c = insert_ready (tables (goal.at.insert-requires c).Start) c.requires.0

pub remove-requires : goal.remove-requires
remove-requires c = remove_ready (tables (goal.at.remove-requires c).Start) c.requires.0

pub hand_over-requires : goal.hand_over-requires
hand_over-requires c = hand_ready (tables (goal.at.hand_over-requires c).Start) c.requires.0

pub nearest-requires : goal.nearest-requires
nearest-requires c = near_ready (tables (goal.at.nearest-requires c).Start) c.requires.0

pub nearest-requires-in-Floor : goal.nearest-requires-in-Floor
nearest-requires-in-Floor c = near_ready (tables (goal.at.nearest-requires-in-Floor c).Start) c.requires.0

pub nearest-requires-in-Succ : goal.nearest-requires-in-Succ
nearest-requires-in-Succ c = near_ready (tables (goal.at.nearest-requires-in-Succ c).Start) c.requires.0

pub nearest-requires-in-Pred : goal.nearest-requires-in-Pred
nearest-requires-in-Pred c = near_ready (tables (goal.at.nearest-requires-in-Pred c).Start) c.requires.0

pub fast_reply-requires : goal.fast_reply-requires
fast_reply-requires c = fast_ready (tables (goal.at.fast_reply-requires c).Start) c.requires.0

pub open_range-requires : goal.open_range-requires
open_range-requires c = open_ready (tables (goal.at.open_range-requires c).Start) c.requires.0

pub step_reply-requires : goal.step_reply-requires
step_reply-requires c = (step_ready (tables (goal.at.step_reply-requires c).Start) c.requires.0, c.requires.1, c.requires.2)

pub close_range-requires : goal.close_range-requires
close_range-requires c = close_ready (tables (goal.at.close_range-requires c).Start) c.requires.0

pub sweep_one-requires : goal.sweep_one-requires
sweep_one-requires c = sweep_ready (tables (goal.at.sweep_one-requires c).Start) c.requires.0

pub tally-requires : goal.tally-requires
tally-requires c = tally_ready (tables (goal.at.tally-requires c).Start) c.requires.0

pub returns-in-Lookup : goal.returns-in-Lookup
returns-in-Lookup c = lookup_turned (tables (goal.at.returns-in-Lookup c).Start) c.requires.0 c.args.out_keys.now c.args.out_values.now c.in-Lookup.key (omega arith) c.in-Lookup.is c.lookup.ensures c.plain.ensures

pub returns-in-Insert : goal.returns-in-Insert
returns-in-Insert c = insert_turned (tables (goal.at.returns-in-Insert c).Start) c.requires.0 c.args.out_keys.now c.args.out_values.now c.in-Insert.key c.in-Insert.value c.in-Insert.coin (omega arith) (omega arith) c.in-Insert.is c.insert.ensures c.plain-in-Insert.ensures

pub returns-in-Remove : goal.returns-in-Remove
returns-in-Remove c = remove_turned (tables (goal.at.returns-in-Remove c).Start) c.requires.0 c.args.out_keys.now c.args.out_values.now c.in-Remove.key (omega arith) c.in-Remove.is c.remove.ensures c.plain-in-Remove.ensures

pub returns-in-HandOver : goal.returns-in-HandOver
returns-in-HandOver c = hand_turned (tables (goal.at.returns-in-HandOver c).Start) c.requires.0 c.args.out_keys.now c.args.out_values.now c.in-HandOver.node c.in-HandOver.is c.hand_over.ensures c.plain-in-HandOver.ensures

pub returns-in-Ceil : goal.returns-in-Ceil
unfolding turn_tables
returns-in-Ceil c =
    nearest_turned (tables (goal.at.returns-in-Ceil c).Start) c.requires.0 c.args.out_keys.now c.args.out_values.now Ceil 0 true (omega arith) (λ k. refl) (λ k. refl) c.in-Ceil.key (omega arith) c.in-Ceil.is c.nearest.ensures c.plain-in-Ceil.ensures

pub returns-in-Floor : goal.returns-in-Floor
unfolding turn_tables
returns-in-Floor c =
    nearest_turned (tables (goal.at.returns-in-Floor c).Start) c.requires.0 c.args.out_keys.now c.args.out_values.now Floor 1 true (omega arith) (λ k. refl) (λ k. refl) c.in-Floor.key (omega arith) c.in-Floor.is c.nearest-in-Floor.ensures c.plain-in-Floor.ensures

pub returns-in-Succ : goal.returns-in-Succ
unfolding turn_tables
returns-in-Succ c =
    nearest_turned (tables (goal.at.returns-in-Succ c).Start) c.requires.0 c.args.out_keys.now c.args.out_values.now Succ 0 false (omega arith) (λ k. refl) (λ k. refl) c.in-Succ.key (omega arith) c.in-Succ.is c.nearest-in-Succ.ensures c.plain-in-Succ.ensures

pub returns-in-Pred : goal.returns-in-Pred
unfolding turn_tables
returns-in-Pred c =
    nearest_turned (tables (goal.at.returns-in-Pred c).Start) c.requires.0 c.args.out_keys.now c.args.out_values.now Pred 1 false (omega arith) (λ k. refl) (λ k. refl) c.in-Pred.key (omega arith) c.in-Pred.is c.nearest-in-Pred.ensures c.plain-in-Pred.ensures

pub returns-in-Fast : goal.returns-in-Fast
returns-in-Fast c = fast_turned (tables (goal.at.returns-in-Fast c).Start) c.requires.0 c.in-Fast.low c.in-Fast.high (omega arith) (omega arith) c.in-Fast.is c.args.out_keys.now c.args.out_values.now c.requires.1 c.requires.2 c.fast_reply.ensures

pub returns-in-Open : goal.returns-in-Open
returns-in-Open c = open_turned (tables (goal.at.returns-in-Open c).Start) c.requires.0 c.args.out_keys.now c.args.out_values.now c.in-Open.low c.in-Open.high (omega arith) (omega arith) c.in-Open.is c.open_range.ensures.answer c.open_range.ensures.tickets c.open_range.ensures.coordinator c.plain-in-Open.ensures

pub returns-in-Step : goal.returns-in-Step
returns-in-Step c = step_turned (tables (goal.at.returns-in-Step c).Start) c.requires.0 c.in-Step.version c.in-Step.n c.in-Step.is c.args.out_keys.now c.args.out_values.now c.requires.1 c.requires.2 c.step_reply.ensures

pub returns-in-Close : goal.returns-in-Close
returns-in-Close c = close_turned (tables (goal.at.returns-in-Close c).Start) c.requires.0 c.args.out_keys.now c.args.out_values.now c.in-Close.version c.in-Close.is c.close_range.ensures.answer c.close_range.ensures.tickets c.close_range.ensures.coordinator c.plain-in-Close.ensures

pub returns-in-Sweep : goal.returns-in-Sweep
returns-in-Sweep c = sweep_turned (tables (goal.at.returns-in-Sweep c).Start) c.requires.0 c.args.out_keys.now c.args.out_values.now c.in-Sweep.is c.sweep_one.ensures c.plain-in-Sweep.ensures

pub returns-in-Tally : goal.returns-in-Tally
returns-in-Tally c = tally_turned (tables (goal.at.returns-in-Tally c).Start) c.requires.0 c.args.out_keys.now c.args.out_values.now c.in-Tally.is c.tally.ensures c.plain-in-Tally.ensures
