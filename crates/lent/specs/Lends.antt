-- What a call over lent tickets does, by what the call does on sixteen.
-- Assumes nothing.
use Rattle.std.specs.Prelude.{◌≡◌, ℕ}

-- `before` is what is lent, `exit` the same afterwards, with so many tickets. Sixteen tickets: what the call of them does. Any other number of them: nothing changes, and the answer is `refuse`.
pub record Lends {X E : Type 0} (tickets : ℕ) (OnSixteen : X → X → E → Type 0) (refuse : E) (before exit : X) (answer : E) : Type 0 where
  pub sixteen : tickets ≡ 16 → OnSixteen before exit answer
  pub others : (tickets ≡ 16 → ⊥) → (exit ≡ before) × (answer ≡ refuse)
