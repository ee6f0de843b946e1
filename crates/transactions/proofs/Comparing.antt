-- Two ways to read the same bytes are one: the numbers read are the same, or one of the two could go on.
-- Assumes nothing.
use Prim.Native.Nat.{ℕ, ◌^◌, ◌<◌}
use mathlib.Core.Path.{◌≡◌, refl, sym, ap, ap₂, subst, ◌∙◌}
use mathlib.Core.Logic.{◌⊎◌, inl, inr, ⊎_elim}
use mathlib.Core.Bool.{Bool}
use mathlib.Core.List.{List, [], ◌∷◌, ◌++◌, append_assoc}
use mathlib.Core.Option.{Option, none, some}
use native.Mathlib.Omega.{arith}
use lib.ListN.{length, take, drop}
use lib.Seq.{drop-append_seam}
use Rattle.lists.specs.Holds.{All}
use Rattle.groups.specs.Groups.{Begun, Stands, groups_of}
use Rattle.groups.proofs.Standing.{stands_same}
use Rattle.groups.proofs.Grouping.{groups_stand}
use Rattle.transactions.specs.Sequences.{bytes_of, Within, Reached, Stops, Stopped, Waits}
use Rattle.transactions.proofs.Sequencing.{Limited, limited, sequence_fits, reached_whole, reached_length}

-- a number within its limit stands behind these
pub record Goes (limit : List ℕ → Option ℕ) (ns rest : List ℕ) : Type 0 where
  pub n : ℕ
  pub len : ℕ
  pub stands : Stands rest n len
  pub limited : Limited n (limit ns)

Compared : (List ℕ → Option ℕ) → List ℕ → List ℕ → List ℕ → List ℕ → Type 0
Compared limit ns ms s t = (ns ≡ ms) ⊎ (Goes limit ns s ⊎ Goes limit ms t)

both : (limit : List ℕ → Option ℕ) (n m : ℕ) (ns ms s t : List ℕ) → n ≡ m → Compared (λ ks. limit (n ∷ ks)) ns ms s t → Compared limit (n ∷ ns) (m ∷ ms) s t
unfolding Compared
both limit n m ns ms s t p c =
    ⊎_elim (λ e. inl (ap₂ {C = List ℕ} (λ k ks. k ∷ ks) p e))
    (λ d. inr (⊎_elim (λ g. inl (record { n = g.n; len = g.len; stands = g.stands; limited = g.limited }))
    (λ g. inr (record { n = g.n; len = g.len; stands = g.stands; limited = subst (λ k. Limited g.n (limit (k ∷ ms))) p g.limited })) d))
    c

compare : (limit : List ℕ → Option ℕ) (ns ms s t : List ℕ) → bytes_of ns ++ s ≡ bytes_of ms ++ t → All (λ n. n < 2 ^ 64) ns → All (λ n. n < 2 ^ 64) ms → Within limit ns → Within limit ms → Compared limit ns ms s t
unfolding Compared
compare limit [] [] s t e f g v w = inl refl
compare limit [] (m ∷ ms) s t e f g v w =
    let q : s ≡ groups_of m ++ (bytes_of ms ++ t) = e ∙ append_assoc (groups_of m) (bytes_of ms) t in
    inr (inl (record { n = m; len = length (groups_of m); stands = rw q (groups_stand m (bytes_of ms ++ t) g.0); limited = limited m (limit []) w.0 }))
compare limit (n ∷ ns) [] s t e f g v w =
    let q : t ≡ groups_of n ++ (bytes_of ns ++ s) = sym e ∙ append_assoc (groups_of n) (bytes_of ns) s in
    inr (inr (record { n = n; len = length (groups_of n); stands = rw q (groups_stand n (bytes_of ns ++ s) f.0); limited = limited n (limit []) v.0 }))
compare limit (n ∷ ns) (m ∷ ms) s t e f g v w =
    let X = bytes_of ns ++ s in
    let Y = bytes_of ms ++ t in
    let q : groups_of n ++ X ≡ groups_of m ++ Y = sym (append_assoc (groups_of n) (bytes_of ns) s) ∙ e ∙ append_assoc (groups_of m) (bytes_of ms) t in
    let p : n ≡ m = (stands_same (groups_stand n X f.0) (subst (λ (l : List ℕ). Stands l m (length (groups_of m))) (sym q) (groups_stand m Y g.0))).0 in
    let r : X ≡ Y = sym (drop-append_seam (groups_of n) X) ∙ ap (drop (length (groups_of n))) (q ∙ ap (λ k. groups_of k ++ Y) (sym p)) ∙ drop-append_seam (groups_of n) Y in
    both limit n m ns ms s t p (compare (λ ks. limit (n ∷ ks)) ns ms s t r f.1 g.1 v.1 (subst (λ k. Within (λ ks. limit (k ∷ ks)) ms) (sym p) w.1))

-- two readings of the same bytes
module _ {limit : List ℕ → Option ℕ} {rest ns ms : List ℕ} {o q : ℕ} (a : Reached limit rest ns o) (b : Reached limit rest ms q) where
  ways : Compared limit ns ms (drop o rest) (drop q rest)
  ways = compare limit ns ms (drop o rest) (drop q rest) (sym (reached_whole a) ∙ reached_whole b) (sequence_fits ns (take o rest) a.before) (sequence_fits ms (take q rest) b.before) a.within b.within

  -- LAW: where neither can go on, the numbers and the offsets are the same
  pub reached_same : (Goes limit ns (drop o rest) → ⊥) → (Goes limit ms (drop q rest) → ⊥) → (ns ≡ ms) × (o ≡ q)
  unfolding Compared
  reached_same x y = let e = ⊎_elim (λ e. e) (λ g. absurd (⊎_elim x y g)) ways in (e, reached_length a ∙ ap (λ k. length (bytes_of k)) e ∙ sym (reached_length b))

-- nothing goes on where all is there, and where reading stops
pub whole_ends : {limit : List ℕ → Option ℕ} {ns rest : List ℕ} → limit ns ≡ none → Goes limit ns rest → ⊥
whole_ends {limit} {ns} {rest} e g = let z : none ≡ some g.limited.most = sym e ∙ g.limited.is in let y : ◌≡◌ {A = ℕ} 0 1 = cc in omega arith

pub stops_ends : {limit : List ℕ → Option ℕ} {bytes : List ℕ} {o : ℕ} (s : Stops limit bytes o) → Goes limit s.numbers (drop o bytes) → ⊥
stops_ends {limit} {bytes} {o} s g =
    let e : some s.most ≡ some g.limited.most = sym s.due ∙ g.limited.is in
    let m : s.most ≡ g.limited.most = cc in
    s.bad g.n g.len g.stands (omega (arith, g.limited.below))

-- LAW: the offset at which reading stops is one
pub stops_same : {limit : List ℕ → Option ℕ} {bytes : List ℕ} {o q : ℕ} → Stops limit bytes o → Stops limit bytes q → o ≡ q
stops_same s t = (reached_same s.reached t.reached (stops_ends s) (stops_ends t)).1

-- LAW: what can be read whole does not stop
pub whole_stops : {limit : List ℕ → Option ℕ} {bytes ns : List ℕ} {o q : ℕ} → Reached limit bytes ns o → limit ns ≡ none → Stops limit bytes q → ⊥
whole_stops {limit} {bytes} {ns} {o} {q} r e s =
    let n = (reached_same r s.reached (whole_ends e) (stops_ends s)).0 in
    let z : none ≡ some s.most = sym e ∙ ap limit n ∙ s.due in
    let y : ◌≡◌ {A = ℕ} 0 1 = cc in
    omega arith

-- LAW: it stops for good or waits for more, not both
pub stopped_waits : {limit : List ℕ → Option ℕ} {bytes : List ℕ} {more : Bool} {o : ℕ} → Stopped limit bytes more o → Waits limit bytes more → ⊥
stopped_waits {limit} {bytes} {more} {o} s w = s.final w.follows (subst (λ k. Begun (drop k bytes)) (sym (stops_same s.stops w.stops)) w.begun)
