-- An exported function is determined by the input: what it leaves and the numbers it answers, since its lent form is.
-- Assumes nothing.
use mathlib.Core.Path.{sym, ap, ◌∙◌}
use Rattle.lent.proofs.Once.{Determined}
use Rattle.lopresnik.specs.Exports.{Gives}

-- LAW: so it is where the lent form is: with lent's laws call_once, set_up_once, fast_once and list_once, of each exported function
pub gives_once : {X E R : Type 0} {Form : X → E → Type 0} (numbers : E → R) → Determined Form → Determined (λ x r. Gives (Form x) numbers r)
gives_once numbers once x y r s g h =
    let same = once x y g.made h.made g.form h.form in
    (same.0, g.is ∙ (ap numbers same.1 ∙ sym h.is))
