-- `sizes::size_of` meets its contract.
use Rattle.std.proofs.Common.{eqb, ◌∙◌, rules, tests}
use Rattle.std.proofs.lemmas.Iterator.{YieldsList-from_slice}
use Rattle.std.proofs.lemmas.Iterator.Search.{find_from_yields_List}
use Rattle.sizes.specs.Sizes.{sizes, size_of}
use Rattle.sizes.proofs.Sizing.{seek_finds}
use Rattle.sizes.proofs.size_of.Goals as goal

pub returns : goal.returns
unfolding size_of
returns c =
    c.copied.ensures
    ∙ find_from_yields_List (λ s. eqb s.capacity c.args.capacity) _ _ c.find.result c.find.ensures.ran (YieldsList-from_slice sizes cc) (λ x b q k. search (rules, tests))
    ∙ seek_finds sizes c.args.capacity
