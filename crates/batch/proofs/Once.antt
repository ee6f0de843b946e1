-- A list of calls is determined by the input: two outcomes are equal.
-- Assumes nothing.
use Rattle.std.specs.Prelude.{Result, Ok, Err}
use mathlib.Core.Path.{◌≡◌, refl, sym, ap, ap₂, ◌∙◌, subst}
use mathlib.Core.Bool.{Bool, true, false}
use mathlib.Core.List.{List, [], ◌∷◌, ◌++◌, append_assoc, append-nil}
use Prim.Native.Nat.{ℕ, ◌<◌, ◌≤◌}
use native.Mathlib.Omega.{arith}
use lib.ListN.{length, drop}
use Rattle.transactions.specs.declared.Call.{Call}
use Rattle.transactions.specs.declared.Halt.{Halt}
use Rattle.transactions.specs.Sequences.{bytes_of}
use Rattle.transactions.specs.Calls.{numbers_of}
use Rattle.transactions.specs.Readings.{CallRead}
use Rattle.transactions.proofs.Trips.{call_read_same}
use Rattle.calls.proofs.Once.{says_once}
use Rattle.batch.specs.declared.End.{End}
use Rattle.batch.specs.declared.End.TheVariants.{Ended, Stop, More, Full, Refused}
use Rattle.batch.specs.Lists.{Input, Output, Room, Goes, ended_by, Comes, Follows, Made, leaves, Listed, Ran}

-- ---- what comes next

-- a call and its length, or why the list ends
abbrev Next : Type 0
Next = Result (Call × ℕ) End

-- what comes where a reading answers this
then_of : Result (Call × ℕ) Halt → Next
then_of (Ok next) = Ok next
then_of (Err halt) = Err (ended_by halt)

module _ (bytes : List ℕ) (more : Bool) (answers keys values used calls pairs : ℕ) where
  -- no byte is left, no room is left, or a reading answers
  data Came : Next → Type 0 where
    ended : length bytes ≤ used → Came (Err Ended)
    full : used < length bytes → (Room answers keys values calls pairs → ⊥) → Came (Err Full)
    read : (r : Result (Call × ℕ) Halt) → Goes bytes answers keys values used calls pairs → CallRead (drop used bytes) used more r → Came (then_of r)

  came : (x : Next) → Comes bytes more answers keys values used calls pairs x → Came x
  unfolding then_of
  came (Ok next) n = read (Ok next) n.0 n.1
  came (Err Ended) n = ended n
  came (Err (Stop place)) n = read (Err (Halt.Stop place)) n.0 n.1
  came (Err More) n = read (Err Halt.More) n.0 n.1
  came (Err Full) n = full n.0 n.1
  came (Err (Refused k)) n = absurd n

  same : (x y : Next) → Came x → Came y → x ≡ y
  same x y (ended l) (ended m) = refl
  same x y (ended l) (full m r) = absurd (omega arith)
  same x y (ended l) (read r g c) = absurd (omega (arith, g.left))
  same x y (full l r) (ended m) = absurd (omega arith)
  same x y (full l r) (full m q) = refl
  same x y (full l r) (read q g c) = absurd (r g.has_room)
  same x y (read r g c) (ended m) = absurd (omega (arith, g.left))
  same x y (read r g c) (full m q) = absurd (q g.has_room)
  same x y (read r g c) (read q h d) = ap then_of (call_read_same (drop used bytes) used more r q c d)

  -- LAW: only one thing comes next
  pub comes_once : (x y : Next) → Comes bytes more answers keys values used calls pairs x → Comes bytes more answers keys values used calls pairs y → x ≡ y
  comes_once x y m n = same x y (came x m) (came y n)

-- ---- the calls that are made

-- of a call as it is written
abbrev length_of : Call → ℕ
length_of c = length (bytes_of (numbers_of c))

same_end : (e f : End) → ◌≡◌ {A = Next} (Err e) (Err f) → e ≡ f
same_end e f q = cc

same_call : (c d : Call) (l k : ℕ) → ◌≡◌ {A = Next} (Ok (c, l)) (Ok (d, k)) → c ≡ d
same_call c d l k q = let p : ◌≡◌ {A = Call × ℕ} (c, l) (d, k) = cc in ap (λ (x : Call × ℕ). x.0) p

not_both : (e : End) (c : Call) (l : ℕ) → ◌≡◌ {A = Next} (Err e) (Ok (c, l)) → ⊥
not_both e c l q = let z : ◌≡◌ {A = ℕ} 0 1 = cc in omega arith

module _ (i : Input) where
  follows_once : (cs : List Call) (x y : Next) → Follows i cs x → Follows i cs y → x ≡ y
  follows_once cs x y = comes_once i.bytes i.more _ _ _ _ _ _ x y

  -- LAW: the same calls are made, and the list ends for the same reason
  pub made_once : (before cs ds : List Call) (e f : End) → Made i before cs → Made i before ds → Follows i (before ++ cs) (Err e) → Follows i (before ++ ds) (Err f) → (cs ≡ ds) × (e ≡ f)
  made_once before [] [] e f m n u v = (refl, same_end e f (follows_once (before ++ []) (Err e) (Err f) u v))
  made_once before [] (d ∷ ds) e f m n u v =
      absurd (not_both e d (length_of d) (follows_once before (Err e) (Ok (d, length_of d)) (subst (λ x. Follows i x (Err e)) (append-nil before) u) n.0))
  made_once before (c ∷ cs) [] e f m n u v =
      absurd (not_both f c (length_of c) (follows_once before (Err f) (Ok (c, length_of c)) (subst (λ x. Follows i x (Err f)) (append-nil before) v) m.0))
  made_once before (c ∷ cs) (d ∷ ds) e f m n u v =
      let p : d ≡ c = same_call d c (length_of d) (length_of c) (follows_once before (Ok (d, length_of d)) (Ok (c, length_of c)) n.0 m.0) in
      let r =
      made_once (before ++ (c ∷ [])) cs ds e f m.1 (subst (λ x. Made i (before ++ (x ∷ [])) ds) p n.1) (subst (λ x. Follows i x (Err e)) (sym (append_assoc before (c ∷ []) cs)) u)
      (subst (λ x. Follows i x (Err f)) (sym (append_assoc before (c ∷ []) ds)) (subst (λ x. Follows i (before ++ (x ∷ ds)) (Err f)) p v)) in
      (ap₂ {C = List Call} (λ a l. a ∷ l) (sym p) r.0, r.1)

  -- LAW: two outcomes on sound tables are equal
  pub listed_once : (x y : Output) → Listed i x → Listed i y → x ≡ y
  listed_once x y l k =
      let r = made_once [] l.made k.made x.end y.end l.in_turn k.in_turn l.ends k.ends in
      l.is ∙ (ap₂ (leaves i) r.0 r.1 ∙ sym k.is)

  -- LAW: two outcomes of one input are equal
  pub ran_once : (x y : Output) → Ran i x → Ran i y → x ≡ y
  ran_once x y a b = go a.tested refl (says_once a.tested b.tested a.says b.says)
    where
      go : (t : Bool) → a.tested ≡ t → a.tested ≡ b.tested → x ≡ y
      go false e f = a.refuses e ∙ sym (b.refuses (sym f ∙ e))
      go true e f = listed_once x y (a.lists e) (b.lists (sym f ∙ e))
