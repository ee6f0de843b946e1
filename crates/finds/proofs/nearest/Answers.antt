-- `finds::nearest` meets its contract: the key of the nearest node, or 13 at a sentinel.
use mathlib.Core.Path.{refl, ap, ◌∙◌}
use mir.Syntax.{w64}
use mir.ValLaws.{to_z-of_z}
use Rattle.sizes.specs.Rank.{rank_of}
use Rattle.finds.proofs.NearestLaw.{key_found, key_none}
use Rattle.finds.proofs.nearest.Goals as goal

pub returns-then-i-keys : goal.returns-then-i-keys
returns-then-i-keys c =
    key_found _ _ _ _ (c.rank.ensures ∙ ap rank_of (to_z-of_z w64 c.args.key c.ranges.key)) c.near-i.ensures refl c.if-i-keys.true
    (to_z-of_z w64 _ (record { sfits = c.unrank.type_inv }) ∙ c.unrank.ensures)

pub returns : goal.returns
returns c = key_none _ _ _ _ (c.rank.ensures ∙ ap rank_of (to_z-of_z w64 c.args.key c.ranges.key)) c.near-i.ensures refl c.if-i-keys.false
