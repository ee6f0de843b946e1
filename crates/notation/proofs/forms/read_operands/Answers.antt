-- `notation::forms::read_operands` meets its contract.
use mathlib.Core.Path.{sym, ap, ◌∙◌}
use mathlib.Core.List.{◌∷◌}
use native.Mathlib.Omega.{arith}
use lib.ListN.{length, length-set}
use Prim.Native.Nat.{◌<◌}
use Rattle.notation.specs.declared.Kind.TheVariants.{Key}
use Rattle.notation.proofs.Forming.{found_missing, found_wrong, found_next, found_more, found_all, kinds_few, counted_all}
use Rattle.notation.specs.Forms.{numbers}
use Rattle.notation.proofs.forms.read_operands.Goals as goal

pub returns-then-word : goal.returns-then-word
returns-then-word c = rw (← c.kinds_of-kinds.ensures) (found_missing c.loop-i.invariant.1 c.next_word-word.result c.next_word-word.ensures _ c.args.code c.loop-i-test.true c.if-word.true _ c.missing_of.ensures)

pub bounds-found-i : goal.bounds-found-i
bounds-found-i c = omega (arith, c.loop-i-test.true, ap length c.kinds_of-kinds.ensures, kinds_few c.args.code)

pub returns-in-Err : goal.returns-in-Err
returns-in-Err c =
    let w = c.next_word-word.ensures in
    rw (← c.kinds_of-kinds.ensures) (found_wrong c.loop-i.invariant.1 c.next_word-word.result w _ c.args.code c.loop-i-test.true (omega (arith, w.order, c.if-word.false)) _ (sym c.read_operand.ensures ∙ c.in-Err.is))

pub loop-i-preserved : goal.loop-i-preserved
loop-i-preserved c =
    let l = c.loop-i in
    let w = c.next_word-word.ensures in
    let few : l.i < length l.found = omega (arith, l.invariant.0, c.loop-i-test.true, ap length c.kinds_of-kinds.ensures, kinds_few c.args.code) in
    (simp length-set l.invariant.0, found_next l.invariant.1 c.next_word-word.result w _ c.loop-i-test.true few (omega (arith, w.order, c.if-word.false)) _ (sym c.read_operand.ensures ∙ c.in-Ok.is))

pub returns-then-more : goal.returns-then-more
returns-then-more c =
    let w = c.next_word-more.ensures in
    rw (← c.kinds_of-kinds.ensures) (found_more c.loop-i.invariant.1 c.next_word-more.result w Key c.args.code _ c.loop-i-test.false (omega arith) (omega (arith, w.order, c.if-more.true)))

pub returns : goal.returns
returns c =
    let l = c.loop-i in
    let k = c.kinds_of-kinds.ensures in
    ap (λ ns. numbers (c.args.code ∷ ns)) (counted_all c.args.code l.i c.kinds_of-kinds.result.now l.found k (omega arith) l.invariant.0)
    ∙ rw (← k) (found_all l.invariant.1 c.next_word-more.result c.next_word-more.ensures Key c.args.code c.loop-i-test.false c.if-more.false)
