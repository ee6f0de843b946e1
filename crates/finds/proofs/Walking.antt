-- A walk from the nearest present node: it may begin there, and it meets every present node beyond the rank.
-- Assumes nothing.
use mathlib.Core.Path.{◌≡◌, refl, sym, ap, ◌∙◌}
use mathlib.Core.Logic.{inl, inr}
use mathlib.Core.Bool.{Bool, true}
use mathlib.Core.List.{List, [], ◌∷◌, append-nil}
use Prim.Native.Nat.{ℕ, zero, suc, ◌-◌, ◌≤◌}
use native.Mathlib.Omega.{arith}
use native.Mathlib.Decide.{ℕ_discrete}
use lib.ListN.{length, get_or}
use borrow.Author.Tests.{ne_eqb, lt-ltb, ltb-true}
use Rattle.lists.specs.Holds.{All}
use Rattle.lists.specs.Filters.{filter, head_or}
use Rattle.lists.proofs.Holding.{all_imp, all_at, pairwise_right}
use Rattle.lists.proofs.Filtering.{first_split, all_passed, filter_yes, filter_all}
use Rattle.lists.proofs.Pigeons.{in_right}
use Rattle.levels.specs.Levels.{sentinel, onward, order_of}
use Rattle.levels.specs.Nearest.{present, Walkable}
use Rattle.levels.proofs.Orders.{turned, onward_part}
use Rattle.levels.proofs.Nearing.{turned_in}
use Rattle.finds.specs.Near.{past, beyond, nodes_beyond, near_of, NearReady}
use Rattle.finds.proofs.Turning.{filter_split}
use Rattle.finds.proofs.Nearing.{past_apart, Ahead, lowest, near_turned, ahead}

past_on : (d a b c : ℕ) → past d a b ≡ true → past d b c ≡ true → past d a c ≡ true
past_on zero a b c h k = let p = ltb-true a b h in let q = ltb-true b c k in lt-ltb a c (omega arith)
past_on (suc d) a b c h k = let p = ltb-true b a h in let q = ltb-true c b k in lt-ltb c a (omega arith)

-- what is past a key beyond the rank is beyond it too
beyond_on : (d : ℕ) (at : Bool) (rank a b : ℕ) → beyond d at rank a ≡ true → past d a b ≡ true → beyond d at rank b ≡ true
beyond_on d at rank a b h k = go (ℕ_discrete a rank)
  where
    strictly : past d rank b ≡ true → beyond d at rank b ≡ true
    strictly p = rw ((past_apart d rank b p).1, p)

    go : Dec (a ≡ rank) → beyond d at rank b ≡ true
    go (yes e) = strictly (rw e at k)
    go (no e) = strictly (past_on d rank a b (rw (ne_eqb a rank e) at h) k)

module _ (keys rows buckets : List ℕ) (s : NearReady keys rows buckets) (d : ℕ) (u : d ≤ 1) (rank : ℕ) (at : Bool) where
  abbrev cap : ℕ
  cap = length keys

  abbrev o : List ℕ
  o = turned d (order_of rows cap)

  abbrev end : ℕ
  end = sentinel cap (1 - d)

  abbrev found : List ℕ
  found = nodes_beyond keys d at rank (filter (present rows) o)

  abbrev Begins : ℕ → Type 0
  Begins n = Walkable rows cap d n × (filter (present rows) (onward rows cap d n) ≡ found)

  begins : (xs : List ℕ) → found ≡ xs → Begins (head_or xs end)
  begins [] e = (
    record { lowest = lowest keys rows buckets s d u rank at; direction = u; on = inr refl },
    ap (filter (present rows)) (onward_part rows cap (lowest keys rows buckets s d u rank at) d u o [] (sym (append-nil o))) ∙ sym e,
  )
  begins (y ∷ ys) e =
      let q = first_split (λ n. beyond d at rank (get_or keys n 0)) (filter (present rows) o) y ys e in
      let p = filter_split (present rows) o q.skipped y q.later q.whole in
      let behind : All (Ahead keys d at rank y) q.later = (pairwise_right (Ahead keys d at rank) q.skipped (y ∷ q.later) (rw q.whole at (ahead keys rows buckets s d u rank at))).0 in
      let here : present rows y ≡ true = all_at (λ n. present rows n ≡ true) q.skipped y q.later (rw q.whole at (all_passed (present rows) o)) in
      let rest : q.later ≡ ys =
      sym (filter_all (λ n. beyond d at rank (get_or keys n 0)) q.later
      (all_imp (Ahead keys d at rank y) (λ n. beyond d at rank (get_or keys n 0) ≡ true) (λ n h. beyond_on d at rank (get_or keys y 0) (get_or keys n 0) q.passes h) q.later behind))
      ∙ q.others in (
        record {
          lowest = lowest keys rows buckets s d u rank at;
          direction = u;
          on = inl (turned_in d y (order_of rows cap) (rw p.whole (in_right y p.front (y ∷ p.back) (inl refl))));
        },
        ap (filter (present rows)) (onward_part rows cap (lowest keys rows buckets s d u rank at) d u p.front (y ∷ p.back) p.whole)
            ∙ (filter_yes (present rows) y p.back here ∙ (ap {B = List ℕ} (λ l. y ∷ l) (p.rest ∙ rest) ∙ sym e)),
      )

  -- LAW: a walk may begin at the nearest node: it is in the order, or is the sentinel at the end
  pub near_walkable : Walkable rows cap d (near_of keys rows cap rank d at)
  near_walkable = rw (near_turned keys rows buckets s d u rank at) (begins found refl).0

  -- LAW: onward of it are all present nodes beyond the rank
  pub near_onward : filter (present rows) (onward rows cap d (near_of keys rows cap rank d at)) ≡ found
  near_onward = rw (near_turned keys rows buckets s d u rank at) (begins found refl).1
