-- `finds::near` meets its contract: the node that the bucket has, the nearest beside it, or the nearest beside the place that the search found.
use mathlib.Core.Path.{sym, ap, ◌∙◌}
use native.Mathlib.Omega.{arith}
use Rattle.rows.specs.Columns.{way}
use Rattle.levels.specs.Nearest.{nearest_of}
use Rattle.finds.proofs.Nearing.{way_most, held, unheld, near_here, near_beside, walk_beside, near_after, near_before, walk_after, walk_before}
use Rattle.finds.proofs.near.Goals as goal

pub returns-then-at : goal.returns-then-at
returns-then-at c =
    let s = c.requires in
    sym (near_here _ _ _ s _ (way_most c.args.d) _ _ _ (held _ _ _ s _ c.find.ensures c.in-Some.is) c.if-at.true)

pub link-requires : goal.link-requires
link-requires c =
    let s = c.requires in
    let h = held _ _ _ s _ c.find.ensures c.in-Some.is in
    (omega arith, omega (arith, h.node, s.searchable.size))

pub nearest-requires : goal.nearest-requires
nearest-requires c =
    let s = c.requires in
    rw c.link.ensures (walk_beside _ _ _ s _ (way_most c.args.d) _ c.args.at _ (held _ _ _ s _ c.find.ensures c.in-Some.is))

pub returns-in-Some : goal.returns-in-Some
returns-in-Some c =
    let s = c.requires in
    c.nearest.ensures
    ∙ (ap (nearest_of _ _ _) c.link.ensures
    ∙ sym (near_beside _ _ _ s _ (way_most c.args.d) _ _ _ (held _ _ _ s _ c.find.ensures c.in-Some.is) c.if-at.false))

pub search-found-requires : goal.search-found-requires
search-found-requires c = rw c.levels_of.ensures c.requires.searchable

pub nearest-requires-in-After : goal.nearest-requires-in-After
nearest-requires-in-After c = rw (ap way c.in-After.is) (walk_after _ _ _ c.requires _ c.levels_of.ensures c.search-found.ensures)

pub returns-in-After : goal.returns-in-After
returns-in-After c =
    let s = c.requires in
    rw (ap way c.in-After.is) at c.nearest-in-After.ensures
    ∙ sym (near_after _ _ _ s _ c.levels_of.ensures c.search-found.ensures _ (unheld _ _ _ s _ c.find.ensures c.in_default.is) (ap way c.in-After.is))

pub nearest-requires-in-Before : goal.nearest-requires-in-Before
nearest-requires-in-Before c = rw (ap way c.in-Before.is) (walk_before _ _ _ c.requires _ c.levels_of.ensures c.search-found.ensures)

pub returns-in-Before : goal.returns-in-Before
returns-in-Before c =
    let s = c.requires in
    rw (ap way c.in-Before.is) at c.nearest-in-Before.ensures
    ∙ sym (near_before _ _ _ s _ c.levels_of.ensures c.search-found.ensures _ (unheld _ _ _ s _ c.find.ensures c.in_default.is) (ap way c.in-Before.is))
