-- What is never sound; and that the test and set-up have one outcome each.
-- Assumes nothing.
use Rattle.std.specs.Prelude.{Result, ⊤}
use Rattle.model.specs.declared.Refusal.{Refusal}
use mathlib.Core.Path.{◌≡◌, refl, sym, ap₂, ◌∙◌}
use mathlib.Core.Logic.{◌≢◌, ⊎_elim}
use mathlib.Core.Bool.{Bool}
use mathlib.Core.List.{List, [], ◌∷◌, ◌++◌, append_assoc}
use Prim.Native.Nat.{ℕ, ◌+◌, ◌-◌, ◌<◌, ◌≤◌}
use native.Mathlib.Omega.{arith}
use lib.Dec.{ltb}
use borrow.Author.Tests.{lt-ltb}
use Rattle.lists.specs.Holds.{All}
use Rattle.lists.specs.Filters.{head_or}
use Rattle.lists.specs.Members.{In, Differ}
use Rattle.lists.specs.Tests.{Says}
use Rattle.lists.proofs.Comparing.{one_answer}
use Rattle.lists.proofs.Holding.{all_imp, all_head, all_right, all_at, pairwise_right, pairwise_before}
use Rattle.lists.proofs.Filtering.{all_filter}
use Rattle.lists.proofs.Splits.{all_in, in_split, split_filter, split_in, distinct_differ}
use Rattle.sizes.specs.declared.Version.{Version}
use Rattle.rows.specs.Rows.{heights, links}
use Rattle.levels.specs.Levels.{Run, Leads, level, sentinel, order_of}
use Rattle.levels.proofs.Orders.{turned, turned_all, sentinel_high, run_in, link_run, neighbour}
use Rattle.levels.proofs.Nearing.{in_turned}
use Rattle.levels.proofs.Testing.{run_distinct}
use Rattle.buckets.proofs.Keeping.{present_on_chain}
use Rattle.tables.specs.Tables.{Tables, capacity_of, levels_of, Sound}
use Rattle.soundness.specs.Tested.{Ordered}
use Rattle.soundness.specs.SetUp.{SetUpBy}
use Rattle.soundness.specs.Never.{LinkPast, Circle, OutOfOrder, Missing}
use Rattle.soundness.proofs.Deciding.{sound_tested}

-- links that lead along a run, not to its end, meet its first nodes
prefix : (nx pv : ℕ → ℕ) (a z : ℕ) (ys xs : List ℕ) → Run nx pv a (ys ++ z ∷ []) → Leads nx a xs → All (λ n. n ≢ z) xs → (rest : List ℕ) × (ys ≡ xs ++ rest)
prefix nx pv a z ys [] r t w = (ys, refl)
prefix nx pv a z [] (x ∷ xs) r t w = absurd (w.0 (sym t.0 ∙ r.0))
prefix nx pv a z (y ∷ ys) (x ∷ xs) r t w =
    let q : y ≡ x = sym r.0 ∙ t.0 in
    let p = prefix nx pv x z ys xs (rw q at r.2) t.1 w.1 in
    (p.0, ap₂ {C = List ℕ} (λ (n : ℕ) (l : List ℕ). n ∷ l) q p.1)

module _ (t : Tables) (S : Sound t) where
  abbrev cap : ℕ
  cap = capacity_of t

  abbrev rows : List ℕ
  rows = t.rows

  -- the nodes of a level as a walk in the direction d meets them
  abbrev nodes : ℕ → ℕ → List ℕ
  nodes l d = turned d (level (heights rows) l (order_of rows cap))

  small : (l d : ℕ) → All (λ n. n < cap) (nodes l d)
  small l d =
      turned_all (λ n. n < cap) d (level (heights rows) l (order_of rows cap))
      (all_filter (λ n. n < cap) _ (order_of rows cap) S.memory.linked.nodes)

  -- the first of some nodes, or the sentinel at the end, is not past the sentinels
  not_past : (d : ℕ) (ns : List ℕ) → All (λ n. n < cap) ns → head_or ns (sentinel cap (1 - d)) ≤ cap + 1
  not_past d ns a =
      all_head (λ n. n ≤ cap + 1) ns (sentinel cap (1 - d)) (all_imp (λ n. n < cap) (λ n. n ≤ cap + 1) (λ n h. omega arith) ns a) (sentinel_high cap (1 - d)).1

  -- LAW: no link leads past the last node
  pub never_link_past : LinkPast t → ⊥
  never_link_past p = ⊎_elim from_end from_node p.here
    where
      from_end : p.node ≡ sentinel cap p.direction → ⊥
      from_end e =
          let k = link_run rows cap p.level (level (heights rows) p.level (order_of rows cap)) (S.memory.linked.chains p.level p.low) p.direction p.turned [] (nodes p.level p.direction) refl in
          omega (arith, rw e at p.past, k, not_past p.direction (nodes p.level p.direction) (small p.level p.direction))

      from_node : In p.node (order_of rows cap) × (p.level < heights rows p.node) → ⊥
      from_node h =
          let f = split_filter p.node (λ n. ltb p.level (heights rows n)) (order_of rows cap) (lt-ltb p.level (heights rows p.node) h.1) (in_split p.node (order_of rows cap) h.0) in
          let s = in_split p.node (nodes p.level p.direction) (in_turned p.direction p.node (level (heights rows) p.level (order_of rows cap)) (split_in p.node _ f)) in
          let k = neighbour rows cap (levels_of cap) S.memory.linked p.level p.direction p.node p.low p.turned s.front s.back s.whole in
          let a : All (λ n. n < cap) (s.front ++ p.node ∷ s.back) = rw s.whole at (small p.level p.direction) in
          omega (arith, p.past, k, not_past p.direction s.back (all_right (λ n. n < cap) s.front (p.node ∷ s.back) a).1)

  -- LAW: no level runs in a circle
  pub never_circle : Circle t → ⊥
  never_circle p =
      let l = p.level in
      let d = p.direction in
      let run = run_in rows cap l (level (heights rows) l (order_of rows cap)) (S.memory.linked.chains l p.low) d p.turned in
      let q = prefix (links rows l d) (links rows l (1 - d)) (sentinel cap d) (sentinel cap (1 - d)) (nodes l d) (p.met ++ p.again ∷ []) run p.leads p.endless in
      let whole : nodes l d ≡ p.met ++ p.again ∷ q.0 = q.1 ∙ append_assoc p.met (p.again ∷ []) q.0 in
      let differ = distinct_differ (nodes l d) (run_distinct (links rows l d) (links rows l (1 - d)) cap (sentinel cap d) (sentinel cap (1 - d)) (nodes l d) (small l d) (sentinel_high cap (1 - d)).0 run) in
      ⊎_elim
      (λ e. omega (arith, e, sentinel_high cap d, all_at (λ n. n < cap) p.met p.again q.0 (rw whole at (small l d))))
      (λ i. all_in (λ n. n ≢ p.again) p.met (pairwise_before Differ p.met p.again q.0 (rw whole at differ)) p.again i refl) p.twice

  -- LAW: keys are never out of order
  pub never_out_of_order : OutOfOrder t → ⊥
  never_out_of_order p =
      let a = rw p.order at (sound_tested t S).nodes.line.ordered in
      let b = (pairwise_right (Ordered t.keys rows) p.front (p.earlier ∷ (p.between ++ p.later ∷ p.back)) a).0 in
      let o = (all_right (Ordered t.keys rows p.earlier) p.between (p.later ∷ p.back) b).0 in
      ⊎_elim (λ h. omega (arith, h, o.rises)) (λ h. omega (arith, h.1, o.last h.0)) p.falls

  -- LAW: no present node is missing from its bucket
  pub never_missing : Missing t → ⊥
  never_missing p = p.absent (present_on_chain t.keys rows t.buckets cap S.hashed p.node p.small p.present)

-- LAW: two answers of the test are equal
pub one_test : (t : Tables) (r s : Bool) → Says r (Sound t) → Says s (Sound t) → r ≡ s
one_test t r s = one_answer r s

-- LAW: two outcomes of set-up are equal
pub one_set_up : (t t₁ t₂ : Tables) (capacity : ℕ) (start : Version) (a₁ a₂ : Result ⊤ Refusal) → SetUpBy t t₁ capacity start a₁ → SetUpBy t t₂ capacity start a₂
    → (t₁ ≡ t₂) × (a₁ ≡ a₂)
one_set_up t t₁ t₂ capacity start a₁ a₂ p q = (p.tables ∙ sym q.tables, p.answer ∙ sym q.answer)
