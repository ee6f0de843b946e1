-- `places::clear_places` meets its contract.
use mathlib.Core.Path.{◌≡◌, refl, ◌∙◌}
use native.Mathlib.Omega.{arith}
use native.Mathlib.Numerals.{add-one}
use Rattle.places.specs.Stores.{stored}
use Rattle.places.specs.Changes.{cleared_nodes, cleared}
use Rattle.places.proofs.clear_places.Goals as goal

pub loop-i-init : goal.loop-i-init
unfolding cleared_nodes
loop-i-init c = refl

pub loop-i-preserved : goal.loop-i-preserved
unfolding cleared_nodes stored
loop-i-preserved c = rw add-one (c.put-in-loop-i-2.ensures ∙ rw (c.put-in-loop-i.ensures, c.put.ensures, c.loop-i.invariant))

pub returns : goal.returns
unfolding cleared stored
returns c =
    let all : c.loop-i.i ≡ c.args.cap = omega arith in
    rw (c.put-5.ensures, c.put-4.ensures, c.put-3.ensures, c.put-2.ensures, c.loop-i.invariant, all)
