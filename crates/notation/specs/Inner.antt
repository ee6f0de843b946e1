-- What the inner functions say, which the public contracts do not cite.
-- Assumes nothing.
use Rattle.std.specs.Prelude.{ℕ, ◌≤◌, ◌≡◌, List, [], ◌∷◌, length, get_or, take, Result, Ok, Err}
use Rattle.transactions.specs.Calls.{small}
use Rattle.notation.specs.declared.Kind.{Kind}
use Rattle.notation.specs.declared.Misread.{Misread}
use Rattle.notation.specs.Forms.{kinds, Sense, numbers, wrong}

-- the first numbers of three, as many as stand behind a name
abbrev pub counted : ℕ → List ℕ → List ℕ
counted code three = take (length (get_or kinds code [])) (get_or three 0 0 ∷ get_or three 1 0 ∷ get_or three 2 0 ∷ [])

-- what an answer on a name and the words behind it says
abbrev pub operands_of : ℕ → Result (List ℕ) Misread → Sense
operands_of code (Ok three) = numbers (code ∷ counted code three)
operands_of code (Err misread) = wrong misread.fault misread.word

-- numbers of these kinds: one below 2 ^ 32 is, and the word `start` counts as 0
abbrev pub Ranged : List Kind → List ℕ → Type 0
Ranged [] ns = Unit {0}
Ranged (kind ∷ rest) [] = ⊥
Ranged (kind ∷ rest) (n ∷ ns) = (kind ≡ Kind.Small → n ≤ small) × (kind ≡ Kind.Start → n ≡ 0) × Ranged rest ns
