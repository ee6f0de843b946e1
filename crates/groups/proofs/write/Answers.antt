-- `groups::write` meets its contract.
use mathlib.Core.Path.{◌∙◌}
use native.Mathlib.Omega.{arith}
use native.Mathlib.Nat.{zero-add}
use Rattle.groups.specs.Groups.{groups_of}
use Rattle.groups.proofs.Writing.{writes_whole}
use Rattle.groups.proofs.write.Goals as goal

pub returns : goal.returns
returns c =
    let a = c.args in
    let p = c.put in
    writes_whole (groups_of a.n) a.buffer.now p.new.buffer p.result (omega arith) (p.ensures.0 ∙ zero-add _) p.ensures.1
