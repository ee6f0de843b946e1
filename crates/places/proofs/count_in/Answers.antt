-- `places::count_in` meets its contract.
use mathlib.Core.Path.{sym, ◌∙◌}
use native.Mathlib.Omega.{arith}
use Rattle.rows.specs.Rows.{places}
use Rattle.places.proofs.Counting.{nodes_yes, nodes_no}
use Rattle.places.proofs.count_in.Goals as goal
use Rattle.places.proofs.count_in.Goals.{then-cell-p, else-cell-p}

pub loop-n-preserved : goal.loop-n-preserved
loop-n-preserved c =
    let place = places c.args.rows.now in
    let e = c.cell.ensures in
    elim c.if-cell-p.branch [
      | then-cell-p w ↦ (omega arith, omega (arith, nodes_yes place c.args.p c.loop-n.n (sym e ∙ w.if-cell-p.true)))
      | else-cell-p w ↦ (omega arith, omega (arith, nodes_no place c.args.p c.loop-n.n (λ q. w.if-cell-p.false (e ∙ q))))
    ]
