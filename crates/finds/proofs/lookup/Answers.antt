-- `finds::lookup` meets its contract: the value of the node that the bucket has, or none.
use mathlib.Core.Path.{refl, ap, ◌∙◌}
use mir.Syntax.{w64}
use mir.ValLaws.{to_z-of_z}
use Rattle.sizes.specs.Rank.{rank_of}
use Rattle.finds.proofs.LookupLaw.{value_known, value_found, value_lost}
use Rattle.finds.proofs.lookup.Goals as goal

pub bounds-values-n : goal.bounds-values-n
bounds-values-n c = value_known _ _ _ _ c.rank.ensures c.find.ensures c.requires c.in-Some.is refl

pub returns-in-Some : goal.returns-in-Some
returns-in-Some c =
    value_found _ c.args.values.now _ _ (c.rank.ensures ∙ ap rank_of (to_z-of_z w64 c.args.key c.ranges.key))
    c.find.ensures c.in-Some.is refl (to_z-of_z w64 _ (record { sfits = c.result-1.given }))

pub returns-in-None : goal.returns-in-None
returns-in-None c =
    value_lost _ c.args.values.now _ _ (c.rank.ensures ∙ ap rank_of (to_z-of_z w64 c.args.key c.ranges.key))
    c.find.ensures c.in-None.is
