-- `notation::read_line` meets its contract.
use mathlib.Core.Path.{refl, sym, ◌∙◌}
use mathlib.Core.List.{[]}
use native.Mathlib.Omega.{arith}
use lib.ListN.{get_or, drop}
use Rattle.std.proofs.lemmas.Result.{err_from_is_err_and}
use Rattle.notation.specs.Forms.{kinds, operands}
use Rattle.notation.specs.Words.{words}
use Rattle.notation.proofs.Sensing.{ranged, sense_none, sense_unknown, sense_form, uncoded}
use Rattle.notation.proofs.read_line.Goals as goal

pub returns-then-word : goal.returns-then-word
returns-then-word c = sense_none _ c.next_word-word.result c.next_word-word.ensures c.if-word.true

pub returns-in_default : goal.returns-in_default
returns-in_default c = let w = c.next_word-word.ensures in sense_unknown _ c.next_word-word.result w (omega (arith, w.order, c.if-word.false)) 15 c.in_default.ensures.is refl

pub returns-in_err-a : goal.returns-in_err-a
returns-in_err-a c =
    let p = err_from_is_err_and c.from_residual.result c.from_residual.ensures.1 in
    let w = c.next_word-word.ensures in
    let d = c.in-Some.ensures in
    rw (p.1, p.2) (c.in_err-a.ensures ∙ sym (sense_form _ c.next_word-word.result w (omega (arith, w.order, c.if-word.false)) c.in-Some.code d.is (λ e. omega (arith, d.below))))

pub line_of-requires : goal.line_of-requires
line_of-requires c =
    let code = c.in-Some.code in
    let behind = words (drop c.next_word-word.result.end c.args.line.now) in
    (c.in-Some.ensures.below, ranged (get_or kinds code []) behind _ (uncoded code (operands (get_or kinds code []) behind) _ c.in_ok-a.ensures))

pub returns : goal.returns
returns c =
    let w = c.next_word-word.ensures in
    let d = c.in-Some.ensures in
    c.line_of.ensures ∙ c.in_ok-a.ensures ∙ sym (sense_form _ c.next_word-word.result w (omega (arith, w.order, c.if-word.false)) c.in-Some.code d.is (λ e. omega (arith, d.below)))
