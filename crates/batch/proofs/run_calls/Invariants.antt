-- `batch::run_calls` meets its contract. The invariant: what was made so far, on tables that are sound; the measure is how many bytes are left.
use mathlib.Core.Path.{◌≡◌}
use Prim.Native.Nat.{◌-◌}
use lib.ListN.{length}
use Rattle.soundness.specs.Tested.{lent}
use Rattle.batch.specs.Lists.{input_of}
use Rattle.batch.proofs.Listing.{Sofar}
use Rattle.batch.proofs.run_calls.Given as goal

abbrev pub invariant-loop-call : goal.invariant-loop-call
invariant-loop-call l =
    Sofar (input_of (lent l.initial.keys l.initial.values l.initial.rows l.initial.buckets l.initial.tickets l.initial.coordinator) l.bytes l.more l.initial.answers l.initial.out_keys l.initial.out_values) (lent l.keys l.values l.rows l.buckets l.tickets l.coordinator) l.answers l.out_keys l.out_values l.used l.calls l.pairs
    × (length l.keys ≡ length l.initial.keys) × (length l.values ≡ length l.initial.values) × (length l.rows ≡ length l.initial.rows) × (length l.buckets ≡ length l.initial.buckets)

abbrev pub decreases-loop-call : goal.decreases-loop-call
decreases-loop-call l = length l.bytes - l.used
