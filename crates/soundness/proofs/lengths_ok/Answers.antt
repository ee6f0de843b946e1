-- `soundness::lengths_ok` meets its contract.
use native.Mathlib.Omega.{arith}
use Rattle.lists.proofs.Answers.{no}
use Rattle.sizes.proofs.Sizing.{size_rule}
use Rattle.soundness.proofs.lengths_ok.Goals as goal

pub returns-then-keys-gt-MOST : goal.returns-then-keys-gt-MOST
returns-then-keys-gt-MOST c = no (λ P. let s = size_rule _ _ P.known in omega (arith, s.asked, s.rule.most))
