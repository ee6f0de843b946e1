-- `soundness::set_up` meets its contract.
use mathlib.Core.Path.{◌≡◌, sym, ◌∙◌}
use lib.ListN.{replicate}
use borrow.Author.Rules.{rules}
use Rattle.std.specs.Prelude.{None, Err}
use Rattle.lists.proofs.Answers.{passed}
use Rattle.sizes.specs.Sizes.{size_of}
use Rattle.sizes.proofs.Sizing.{size_rule}
use Rattle.model.specs.declared.Refusal.TheVariants.{NoSuchCapacity}
use Rattle.tables.specs.Tables.{no_ticket}
use Rattle.soundness.proofs.Fresh.{rows_sized, set_up_unknown, set_up_short, set_up_done}
use Rattle.soundness.proofs.set_up.Goals as goal

pub returns-in_err-size : goal.returns-in_err-size
returns-in_err-size c =
    let e : size_of c.args.capacity ≡ None = search rules in
    let r : c.from_residual.result ≡ Err NoSuchCapacity = search rules in
    rw r (set_up_unknown _ _ _ e)

pub returns-then-not-parts_ok : goal.returns-then-not-parts_ok
returns-then-not-parts_ok c = set_up_short _ _ _ _ (sym c.size_of.ensures ∙ c.in_ok-size.ensures.ok_part) _ c.parts_ok.ensures c.if-not-parts_ok.true

pub clear_places-requires : goal.clear_places-requires
clear_places-requires c = rows_sized _ _ _ (sym c.size_of.ensures ∙ c.in_ok-size.ensures.ok_part) (passed c.parts_ok.ensures c.if-not-parts_ok.false)

pub clear_levels-requires : goal.clear_levels-requires
clear_levels-requires c =
    let e = sym c.size_of.ensures ∙ c.in_ok-size.ensures.ok_part in
    let z = rows_sized _ _ _ e (passed c.parts_ok.ensures c.if-not-parts_ok.false) in
    (c.clear_places.auto.rows ∙ z.size, z.small, (size_rule _ _ e).rule.high)

pub returns : goal.returns
returns c =
    let t : c.fill.new.self ≡ replicate 16 no_ticket = search rules in
    set_up_done _ _ _ _ (sym c.size_of.ensures ∙ c.in_ok-size.ensures.ok_part) _ c.parts_ok.ensures c.if-not-parts_ok.false _ _ _
    (rw c.clear_places.ensures at c.clear_levels.ensures) c.clear.ensures t
