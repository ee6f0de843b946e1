-- The answers of the calls as the document has them: the refusal's number, or the answer's numbers in their order and the pairs.
-- Assumes nothing.
use Rattle.std.specs.Prelude.{cond, List, [], ◌∷◌, ℕ, zero, suc, ℤ, pos, Result, Ok, Err, ⊤}
use Rattle.sizes.specs.declared.Node.{Node}
use Rattle.sizes.specs.declared.Version.{Version}
use Rattle.model.specs.declared.Refusal.{Refusal}
use Rattle.model.specs.declared.Handed.{Handed}
use Rattle.model.specs.declared.Stepped.{Stepped}
use Rattle.model.specs.declared.Swept.{Swept}
use Rattle.model.specs.declared.Tallied.{Tallied}
use Rattle.model.specs.Plain.{Pair}
use Rattle.model.specs.Calls.{Answer, refused, answered, told, found, node, handed, nearest, opened, made_due, swept, counts}

-- the numbers of the refusals
abbrev pub refusal_number : Refusal → ℕ
refusal_number Refusal.NotSound = 1
refusal_number Refusal.NoSuchCapacity = 2
refusal_number Refusal.KeyPresent = 3
refusal_number Refusal.KeyAbsent = 4
refusal_number Refusal.NoFreeNode = 5
refusal_number Refusal.BoundsReversed = 6
refusal_number Refusal.TooManyPairs = 7
refusal_number Refusal.TooFewPlaces = 8
refusal_number Refusal.AllTicketsOpen = 9
refusal_number Refusal.LastVersion = 10
refusal_number Refusal.NoSuchRange = 11
refusal_number Refusal.NodeNotPending = 12
refusal_number Refusal.NoPresentKey = 13

-- what is answered, or the refusal by its number
abbrev pub of_result : {A : Type 0} → (A → Answer) → Result A Refusal → Answer
of_result f (Ok a) = f a
of_result f (Err r) = refused (refusal_number r)

abbrev pub of_set_up : Result ⊤ Refusal → Answer
of_set_up = of_result (λ x. told [])

abbrev pub of_found : Result ℤ Refusal → Answer
of_found = of_result found

abbrev pub of_inserted : Result Node Refusal → Answer
of_inserted = of_result (λ (i : Node). node i.0)

abbrev pub of_removed : Result Node Refusal → Answer
of_removed = of_result (λ (i : Node). node i.0)

abbrev pub told_handed : Handed → Answer
told_handed Handed.Freed = handed 1
told_handed Handed.Held = handed 0

abbrev pub of_handed : Result Handed Refusal → Answer
of_handed = of_result told_handed

abbrev pub of_nearest : Result ℤ Refusal → Answer
of_nearest = of_result nearest

abbrev pub of_opened : Result Version Refusal → Answer
of_opened = of_result (λ (v : Version). opened v.0)

abbrev pub of_closed : Result ℕ Refusal → Answer
of_closed = of_result made_due

abbrev pub of_swept : Result Swept Refusal → Answer
of_swept = of_result (λ (s : Swept). swept s.freed s.due)

abbrev pub of_tallied : Result Tallied Refusal → Answer
of_tallied = of_result (λ (t : Tallied). counts t.present t.held t.free)

-- ---- with pairs: the first n of the two pair buffers, keys and values

abbrev pub paired : ℕ → List ℤ → List ℤ → List Pair
paired zero ks vs = []
paired (suc n) [] vs = []
paired (suc n) (k ∷ ks) [] = []
paired (suc n) (k ∷ ks) (v ∷ vs) = (k, v) ∷ paired n ks vs

abbrev pub of_ranged : List ℤ → List ℤ → Result ℕ Refusal → Answer
of_ranged ks vs = of_result (λ n. answered (pos n ∷ []) (paired n ks vs))

-- a step's numbers alone
abbrev pub told_stepped : Stepped → Answer
told_stepped s = told (s.pairs ∷ cond s.finished 1 0 ∷ [])

abbrev pub of_stepped : List ℤ → List ℤ → Result Stepped Refusal → Answer
of_stepped ks vs = of_result (λ (s : Stepped). answered (pos s.pairs ∷ pos (cond s.finished 1 0) ∷ []) (paired s.pairs ks vs))
