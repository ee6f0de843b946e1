-- `notation::words::next_word` meets its contract.
use mathlib.Core.Path.{◌≡◌}
use Prim.Native.Nat.{◌<◌}
use native.Mathlib.Omega.{arith}
use lib.ListN.{length, get_or}
use Rattle.notation.proofs.Wording.{next_word, run_remark, run_word}
use Rattle.notation.proofs.words.next_word.Goals as goal
use Rattle.notation.proofs.words.next_word.Goals.{else-start-line-via-then-start-line+else-line-start-eq-REMARK, else-start-line-via-else-start-line}

pub returns-then-line-start-eq-REMARK : goal.returns-then-line-start-eq-REMARK
returns-then-line-start-eq-REMARK c = next_word _ _ _ _ c.run_end-start.ensures.0 (run_remark _ _ c.if-start-line.true c.if-line-start-eq-REMARK.true) c.run_end-start.ensures.1

pub returns : goal.returns
returns c =
    let e = c.run_end-end.ensures in
    let no_remark : c.run_end-start.result < length c.args.line.now → get_or c.args.line.now c.run_end-start.result 0 ≡ 35 → ⊥ =
    λ h n. elim c.else-start-line.branch [ else-start-line-via-then-start-line+else-line-start-eq-REMARK w ↦ w.if-line-start-eq-REMARK.false n | else-start-line-via-else-start-line w ↦ omega (arith, w.if-start-line.false) ] in
    next_word _ _ _ _ c.run_end-start.ensures.0 (run_word _ _ _ no_remark e.0) e.1
