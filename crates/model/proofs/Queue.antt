-- The document's lists in the one queue: what each change does to them, and that each node was removed before the version of the range whose list comes next.
-- Assumes nothing.
use mathlib.Core.Path.{◌≡◌, refl, ap}
use mathlib.Core.Bool.{Bool, true, false, cond}
use mathlib.Core.List.{List, [], ◌∷◌, ◌++◌}
use mathlib.Core.Option.{some}
use Prim.Native.Nat.{ℕ, ◌≤◌, ◌<◌, ◌+◌}
use native.Mathlib.Omega.{arith}
use lib.ListN.{length, take, drop, length-append, length-drop}
use lib.Seq.{take-add, drop-drop, take-append-le, drop-append-le, take_all}
use lib.Dec.{eqb}
use borrow.Author.Tests.{leb-false, lt-leb}
use Rattle.lists.specs.Holds.{All, Pairwise}
use Rattle.lists.specs.Filters.{filter, first}
use Rattle.lists.proofs.Holding.{all_imp, all_append, all_take, all_drop}
use Rattle.lists.proofs.Filtering.{first_passes, first_all}
use Rattle.model.specs.Model.{Place, present, pending, retired, Node, lasts, is, Rest, Range, State, lists, due_list, range_lists, gain, hold, named, move_on, shut, closing, handing, held_in}
use Rattle.model.specs.WellFormed.{Apart, Gone, Behind, Earlier}
use Rattle.model.specs.Demands.{joined, closed}
use Rattle.model.proofs.Nodes.{only}
use Rattle.model.proofs.Ranges.{cond_version, cond_held}

abbrev pub Listed : Type 0
Listed = ℕ × List ℕ

-- ---- the lists of the ranges

pub all_lists : (Q : ℕ → Type 0) (q : List ℕ) (rs : List Range) → All Q q → All (λ (l : Listed). All Q l.1) (lists q rs)
all_lists Q q [] a = tt
all_lists Q q (r ∷ rs) a = (all_take Q r.held q a, all_lists Q (drop r.held q) rs (all_drop Q r.held q a))

-- their versions are those of the ranges
pub all_versions : (P : ℕ → Type 0) (q : List ℕ) (rs : List Range) → All (λ (l : Listed). P l.0) (lists q rs) → All (λ (r : Range). P r.version) rs
all_versions P q [] a = tt
all_versions P q (r ∷ rs) a = (a.0, all_versions P (drop r.held q) rs a.1)

all_versioned : (P : ℕ → Type 0) (q : List ℕ) (rs : List Range) → All (λ (r : Range). P r.version) rs → All (λ (l : Listed). P l.0) (lists q rs)
all_versioned P q [] a = tt
all_versioned P q (r ∷ rs) a = (a.0, all_versioned P (drop r.held q) rs a.1)

abbrev pub Rise : Listed → Listed → Type 0
Rise l m = l.0 < m.0

pub rise_lists : (q : List ℕ) (rs : List Range) → Pairwise Earlier rs → Pairwise Rise (lists q rs)
rise_lists q [] a = tt
rise_lists q (r ∷ rs) a = (all_versioned (λ v. r.version < v) (drop r.held q) rs a.0, rise_lists (drop r.held q) rs a.1)

-- ---- the changes of the ranges

-- a node joins the latest range's list at its end
pub lists_hold : (q : List ℕ) (i : ℕ) (r : Range) (rs : List Range) → held_in (r ∷ rs) ≡ length q → lists (q ++ (i ∷ [])) (hold (r ∷ rs)) ≡ joined i (lists q (r ∷ rs))
lists_hold q i r [] e =
    rw (take_all (r.held + 1) (q ++ (i ∷ [])) (omega (arith, length-append q (i ∷ []))), take_all r.held q (omega arith))
lists_hold q i r (p ∷ rs) e =
    rw (take-append-le r.held q (i ∷ []) (omega arith), drop-append-le r.held q (i ∷ []) (omega arith))
    (ap ((r.version, take r.held q) ∷◌) (lists_hold (drop r.held q) i p rs (omega (arith, length-drop r.held q))))

-- a new range has an empty list
pub lists_open : (q : List ℕ) (rs : List Range) (n : Range) → n.held ≡ 0 → lists q (rs ++ (n ∷ [])) ≡ lists q rs ++ ((n.version, []) ∷ [])
lists_open q [] n e = rw e
lists_open q (r ∷ rs) n e = ap ((r.version, take r.held q) ∷◌) (lists_open (drop r.held q) rs n e)

pub lists_move : (v : ℕ) (x : Rest) (q : List ℕ) (rs : List Range) → lists q (move_on v x rs) ≡ lists q rs
lists_move v x q [] = refl
lists_move v x q (r ∷ rs) =
    rw (cond_version (named v r) x r, cond_held (named v r) x r) (ap ((r.version, take r.held q) ∷◌) (lists_move v x (drop r.held q) rs))

-- a close adds the list to the end of the one before it
lists_shut : (v : ℕ) (q : List ℕ) (p : Range) (rs : List Range)
    → lists q (shut v p rs) ≡ (p.version, (closed v (take p.held q) (lists (drop p.held q) rs)).0) ∷ (closed v (take p.held q) (lists (drop p.held q) rs)).1
lists_shut v q p [] = refl
lists_shut v q p (r ∷ rs) = go (named v r) (lists_shut v (drop p.held q) r rs)
  where
    q₁ : List ℕ
    q₁ = drop p.held q

    one : List ℕ × List Listed
    one = closed v (take r.held q₁) (lists (drop r.held q₁) rs)

    whole : Bool → List ℕ × List Listed
    whole b = cond b (take p.held q ++ take r.held q₁, lists (drop r.held q₁) rs) (take p.held q, (r.version, one.0) ∷ one.1)

    go : (b : Bool) → lists q₁ (shut v r rs) ≡ (r.version, one.0) ∷ one.1
        → lists q (cond b (gain r.held p ∷ rs) (p ∷ shut v r rs)) ≡ (p.version, (whole b).0) ∷ (whole b).1
    go true i = rw (take-add p.held r.held q, drop-drop r.held p.held q)
    go false i = ap ((p.version, take p.held q) ∷◌) i

pub lists_close : (s : State) (v : ℕ) (r : Range) (rs : List Range) → s.ranges ≡ r ∷ rs → (b : Bool) → named v r ≡ b
    → (due_list (closing s v r rs b).0, range_lists (closing s v r rs b).0) ≡ closed v (due_list s) (range_lists s)
lists_close s v r rs e true f = rw (e, f, take-add s.due r.held s.queue, drop-drop r.held s.due s.queue)
lists_close s v r rs e false f = rw (e, f, lists_shut v (drop s.due s.queue) r rs)

-- ---- removed before

lasts_later : (v u : ℕ) (p : Place) → v ≤ u → lasts v p ≡ false → lasts u p ≡ false
lasts_later v u present h e = e
lasts_later v u (pending r) h e = lt-leb u r (omega (arith, leb-false v r e))
lasts_later v u (retired r) h e = lt-leb u r (omega (arith, leb-false v r e))

pub gone_later : (ns : List Node) (v u i : ℕ) → v < u → Gone ns v i → Gone ns u i
gone_later ns v u i h a =
    all_imp (λ n. is i n ≡ true → lasts v n.place ≡ false) (λ n. is i n ≡ true → lasts u n.place ≡ false)
    (λ n f e. lasts_later v u n.place (omega arith) (f e)) ns a

-- one comparison tells it: the removal version of the node of that number
pub gone_by : (ns : List Node) (v i r : ℕ) (n : Node) → Pairwise Apart ns → first (filter (is i) ns) ≡ some n → n.place ≡ retired r → r < v → Gone ns v i
gone_by ns v i r n a e p h = only (λ m. lasts v m.place ≡ false) i n ns a e (rw p (lt-leb v r h))

pub gone_version : (ns : List Node) (v i r : ℕ) (n : Node) → first (filter (is i) ns) ≡ some n → n.place ≡ retired r → Gone ns v i → r < v
gone_version ns v i r n e p g =
    leb-false v r (rw p at (first_all (is i) (λ m. is i m ≡ true → lasts v m.place ≡ false) n ns e g (first_passes (is i) n ns e)))

module _ (ns : List Node) where
  -- other linked nodes, where those that have the property Q stay removed
  pub behind_nodes : (ns' : List Node) (Q : ℕ → Type 0) → ((v i : ℕ) → Q i → Gone ns v i → Gone ns' v i)
      → (xs : List ℕ) (ls : List Listed) → All Q xs → All (λ (l : Listed). All Q l.1) ls → Behind ns xs ls → Behind ns' xs ls
  behind_nodes ns' Q f xs [] a b h = tt
  behind_nodes ns' Q f xs (l ∷ ls) a b h = (each xs a h.0, behind_nodes ns' Q f l.1 ls b.0 b.1 h.1)
    where
      each : (ys : List ℕ) → All Q ys → All (Gone ns l.0) ys → All (Gone ns' l.0) ys
      each [] c g = tt
      each (y ∷ ys) c g = (f l.0 y c.0 g.0, each ys c.1 g.1)

  pub behind_joined : (i : ℕ) (xs : List ℕ) (ls : List Listed) → Behind ns xs ls → Behind ns xs (joined i ls)
  behind_joined i xs [] h = tt
  behind_joined i xs (l ∷ []) h = h
  behind_joined i xs (l ∷ m ∷ ls) h = (h.0, behind_joined i l.1 (m ∷ ls) h.1)

  pub behind_open : (v : ℕ) (xs : List ℕ) (ls : List Listed) → All (Gone ns v) xs → All (λ (l : Listed). All (Gone ns v) l.1) ls
      → Behind ns xs ls → Behind ns xs (ls ++ ((v, []) ∷ []))
  behind_open v xs [] a b h = (a, tt)
  behind_open v xs (l ∷ ls) a b h = (h.0, behind_open v l.1 ls b.0 b.1 h.1)

  pub behind_closed : (v : ℕ) (xs : List ℕ) (ls : List Listed) → Pairwise Rise ls → Behind ns xs ls → Behind ns (closed v xs ls).0 (closed v xs ls).1
  behind_closed v xs [] r h = tt
  behind_closed v xs (l ∷ ls) r h = go (eqb l.0 v) (behind_closed v l.1 ls r.1 h.1)
    where
      both : (ms : List Listed) → All (Rise l) ms → Behind ns l.1 ms → Behind ns (xs ++ l.1) ms
      both [] t k = tt
      both (m ∷ ms) t k =
          (all_append (Gone ns m.0) xs l.1 (all_imp (Gone ns l.0) (Gone ns m.0) (λ i g. gone_later ns l.0 m.0 i t.0 g) xs h.0) k.0, k.1)

      whole : Bool → List ℕ × List Listed
      whole b = cond b (xs ++ l.1, ls) (xs, (l.0, (closed v l.1 ls).0) ∷ (closed v l.1 ls).1)

      go : (b : Bool) → Behind ns (closed v l.1 ls).0 (closed v l.1 ls).1 → Behind ns (whole b).0 (whole b).1
      go true i = both ls r.0 h.1
      go false i = (h.0, i)

  pub behind_sweep : (i : ℕ) (xs : List ℕ) (ls : List Listed) → Behind ns (i ∷ xs) ls → Behind ns xs ls
  behind_sweep i xs [] h = tt
  behind_sweep i xs (l ∷ ls) h = (h.0.1, h.1)

  -- the first node due was removed before every open range
  pub first_gone : (i : ℕ) (xs : List ℕ) (ls : List Listed) → Pairwise Rise ls → Behind ns (i ∷ xs) ls → All (λ (l : Listed). Gone ns l.0 i) ls
  first_gone i xs [] r h = tt
  first_gone i xs (l ∷ ls) r h =
      (h.0.0, all_imp (Rise l) (λ (m : Listed). Gone ns m.0 i) (λ m e. gone_later ns l.0 m.0 i e h.0.0) ls r.0)

-- a node that joins the latest range's list leaves those due as they are
pub lists_hand : (s : State) → s.due + held_in s.ranges ≡ length s.queue → (i t : ℕ) (r : Range) (rs : List Range) → s.ranges ≡ r ∷ rs
    → (due_list (handing s i t false).0 ≡ due_list s) × (range_lists (handing s i t false).0 ≡ joined i (range_lists s))
lists_hand s n i t r rs e =
    let m : s.due ≤ length s.queue = omega arith in (
      take-append-le s.due s.queue (i ∷ []) m,
      rw (e, drop-append-le s.due s.queue (i ∷ []) m)
          (lists_hold (drop s.due s.queue) i r rs (omega (arith, n, ap held_in e, length-drop s.due s.queue))),
    )
