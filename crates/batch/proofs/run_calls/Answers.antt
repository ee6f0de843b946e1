-- `batch::run_calls` meets its contract. The invariant: what was made so far, on tables that are sound; the measure is how many bytes are left.
use mathlib.Core.Path.{refl, ◌∙◌}
use Rattle.batch.proofs.Listing.{sofar_none, sofar_turn, sofar_ends, next_less}
use Rattle.batch.proofs.run_calls.Goals as goal

pub loop-call-init : goal.loop-call-init
loop-call-init c = (sofar_none _ c.requires, refl, refl, refl, refl)

pub loop-call-smaller : goal.loop-call-smaller
loop-call-smaller c = next_less c.loop-call.invariant.0 c.in-Ok.ensures

pub loop-call-preserved : goal.loop-call-preserved
loop-call-preserved c =
    let v = c.loop-call.invariant in
    let k = c.take_call-pairs.auto in
    (sofar_turn v.0 c.in-Ok.ensures c.take_call-pairs.ensures, k.keys ∙ v.1, k.values ∙ v.2, k.rows ∙ v.3, k.buckets ∙ v.4)

pub returns-in-Err : goal.returns-in-Err
returns-in-Err c = sofar_ends c.loop-call.invariant.0 c.in-Err.end c.in-Err.ensures
