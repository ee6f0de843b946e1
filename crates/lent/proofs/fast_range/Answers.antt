-- `lent::fast_range` meets its contract: with sixteen tickets as `calls::fast_range`; of any other number the run is refused before.
use mathlib.Core.Path.{refl, subst}
use mathlib.Core.List.{List}
use mir.Syntax.{w64}
use mir.ValLaws.{to_z-of_z}
use Rattle.tables.specs.declared.Ticket.{Ticket}
use Rattle.soundness.specs.Tested.{lent}
use Rattle.calls.specs.Entries.{Ranges}
use Rattle.lent.proofs.fast_range.Goals as goal

pub returns : goal.returns
returns c =
    let a = c.args in
    let n = c.fast_range.new in
    record {
      sixteen = λ e. (
        refl,
        subst (λ (ts : List Ticket). Ranges (lent a.keys.now a.values.now a.rows.now a.buckets.now ts a.coordinator.now) a.out_keys.now a.out_values.now n.out_keys n.out_values a.low a.high c.fast_range.result)
            (c.in_ok-sixteen.ensures.sixteen e) (rw (to_z-of_z w64 a.low c.ranges.low, to_z-of_z w64 a.high c.ranges.high) at c.fast_range.ensures),
      );
      others = λ k. let z = c.in_ok-sixteen.ensures.others k in (cc, cc);
    }
