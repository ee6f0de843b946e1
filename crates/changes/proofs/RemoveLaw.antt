-- Remove on sound tables: what its code requires holds, and what it leaves is the model's next state and sound again.
-- Assumes nothing.
use Rattle.std.specs.Prelude.{Result, Ok, Err, Some, None, Option}
use Rattle.sizes.specs.declared.Node.{Node}
use Rattle.model.specs.declared.Refusal.{Refusal}
use Rattle.model.specs.declared.Refusal.TheVariants.{KeyAbsent}
use mathlib.Core.Path.{◌≡◌, refl, ap, ◌∙◌}
use mathlib.Core.Logic.{◌≢◌, by_cases}
use mathlib.Core.List.{List, [], map}
use Prim.Native.Nat.{ℕ}
use native.Mathlib.Omega.{arith}
use native.Mathlib.Decide.{ℕ_discrete}
use lib.ListN.{length}
use lib.IntN.{ℤ}
use mir.Syntax.{w64}
use mir.Val.{SFits}
use Rattle.lists.specs.Filters.{filter}
use Rattle.lists.proofs.Holding.{all_imp, all_every}
use Rattle.sizes.specs.Rank.{rank_of}
use Rattle.rows.specs.Rows.{heights, removals, places}
use Rattle.rows.proofs.Columns.{upd_same, upd_other}
use Rattle.levels.specs.Levels.{order_of}
use Rattle.levels.proofs.Orders.{order_kept, linked_kept}
use Rattle.buckets.specs.Buckets.{Buckets}
use Rattle.buckets.specs.Finding.{found, Holds}
use Rattle.buckets.proofs.Framing.{without_buckets}
use Rattle.buckets.proofs.Keeping.{buckets_dropped}
use Rattle.model.specs.Calls.{remove, refused}
use Rattle.model.specs.Answers.{of_removed}
use Rattle.model.specs.Model as M
use Rattle.model.proofs.View.{leave_at}
use Rattle.model.proofs.Applied.{remove_leaves}
use Rattle.tables.specs.Tables.{Tables, capacity_of, node, levels_of, node_at, view, Used, Lengths, Memory, Sound, Met}
use Rattle.tables.proofs.Telling.{sound_sized}
use Rattle.tables.proofs.Meeting.{met, met_same}
use Rattle.tables.proofs.Finding.{found_node, found_none}
use Rattle.changes.specs.Insert.{tables_with}
use Rattle.changes.specs.Remove.{RemoveReady, Removes, remove_answer, taken_out, remove_to, remove_tables}
use Rattle.changes.proofs.Framing.{nodes_changed, view_changed}
use Rattle.changes.proofs.Leaving.{Taken_out, take_done}
use Rattle.changes.proofs.Cases.{remove_finds, remove_lacks}

-- LAW: what the code relies on
pub remove_ready : (t : Tables) → Sound t → RemoveReady t.keys t.rows t.buckets
remove_ready t S = record { sized = sound_sized t S; hashed = S.hashed; counted = S.memory.counted }

-- ---- what the order shows, with n pending

module _ (keys : List ℕ) (values : List ℤ) (rows buckets rows' : List ℕ) (rank n counter : ℕ) (D : Taken_out rows buckets rows' (length keys) rank n counter) where
  abbrev g : ℕ → M.Node
  g = node_at keys values rows

  abbrev g' : ℕ → M.Node
  g' = node_at keys values rows'

  named : (x : ℕ) → (g x).number ≡ x
  unfolding node_at
  named x = refl

  other_node : (x : ℕ) → x ≢ n → g' x ≡ g x
  unfolding node_at
  other_node x d = rw (D.tall, D.born, D.left, upd_other (removals rows) n counter x d, D.placed, upd_other (places rows) n 2 x d)

  own_node : g' n ≡ M.moved (M.pending counter) (g n)
  unfolding node_at
  own_node = rw (D.tall, D.born, D.left, upd_same (removals rows) n counter, D.placed, upd_same (places rows) n 2)

  -- LAW: the order shows n pending, and the others as they were
  pub shows_pending : (o : List ℕ) → map g' o ≡ M.change (M.is n) (M.pending counter) (map g o)
  shows_pending o = nodes_changed g' g n (M.pending counter) named other_node own_node o

-- ---- the outcome

refuse_absent : (s : M.State) (k : ℤ) → filter (M.holds k) s.order ≡ [] → M.apply s (remove k) ≡ (s, refused 4)
unfolding M.apply
refuse_absent s k e = rw e

module _ (t : Tables) (S : Sound t) (k : ℤ) (f : SFits w64 k) where
  abbrev size : ℕ
  size = capacity_of t

  abbrev Goal : Result Node Refusal → Type 0
  Goal r = Met t (remove_to t k r) (remove k) (of_removed r)

  finish : (r : Result Node Refusal) → remove_answer t.keys t.rows t.buckets k ≡ r → Goal r
      → Met t (remove_tables t k) (remove k) (of_removed (remove_answer t.keys t.rows t.buckets k))
  finish r e g = rw e g

  absent : found t.keys t.rows t.buckets size (rank_of k) ≡ None → Goal (Err KeyAbsent)
  unfolding view
  absent e = met_same t (remove k) (refused 4) S (refuse_absent (view t) k (found_none t S k f e))

  module _ (n : ℕ) (e : found t.keys t.rows t.buckets size (rank_of k) ≡ Some n) where
    abbrev counter : ℕ
    counter = t.coordinator.counter.0

    abbrev after : List ℕ
    after = taken_out t.rows t.buckets size (rank_of k) n counter

    here : Holds t.keys t.rows size (rank_of k) n
    here = (found_node t S k f n e).0

    D : Taken_out t.rows t.buckets after size (rank_of k) n counter
    D = take_done counter (remove_ready t S) here

    abbrev t' : Tables
    t' = remove_to t k (Ok (node n))

    order : order_of after size ≡ order_of t.rows size
    order = order_kept t.rows after size D.same

    used : (m : ℕ) → Used (places t.rows m) → Used (places after m)
    used m u =
        by_cases (ℕ_discrete m n)
        (λ q. rw (D.placed, q, upd_same (places t.rows) n 2) (omega arith))
        (λ d. rw (D.placed, upd_other (places t.rows) n 2 m d) u)

    memory : Memory after size
    memory =
        record {
          linked = linked_kept t.rows after size D.same (levels_of size) (all_every (λ m. heights after m ≡ heights t.rows m) (λ m. ap (λ h. h m) D.tall) (order_of t.rows size)) S.memory.linked;
          used = rw order (all_imp (λ m. Used (places t.rows m)) (λ m. Used (places after m)) used (order_of t.rows size) S.memory.used);
          seated = D.seated S.memory.seated;
          counted = D.counted;
        }

    lengths : Lengths t'
    lengths =
        record {
          known = S.lengths.known;
          values = S.lengths.values;
          rows = D.long ∙ S.lengths.rows;
          buckets = without_buckets t.rows t.buckets (rank_of k) n ∙ S.lengths.buckets;
          tickets = S.lengths.tickets;
        }

    hashed : Buckets t.keys after t'.buckets size
    hashed =
        buckets_dropped t.keys t.rows t.buckets size S.hashed n (rank_of k) 2 after t'.buckets here (omega arith)
        (omega (arith, D.long, S.lengths.rows))
        D.chained
        D.placed
        refl

    left : Goal (Ok (node n))
    unfolding view node_at
    left =
        let held = (found_node t S k f n e).2 in
        met t t' (remove k) (of_removed (Ok (node n))) S lengths memory hashed S.few S.resting
        (remove_leaves (view t) k _ held
        ∙ ap (λ (s : M.State). (s, of_removed (Ok (node n))))
        (ap (λ ns. M.with_order ns (view t)) (leave_at (view t) S.well k _ held)
        ∙ view_changed t t' _ _ refl refl refl
        (ap (map (node_at t.keys t.values after)) order ∙ shows_pending t.keys t.values t.rows t.buckets after (rank_of k) n counter D (order_of t.rows size))
        (D.free S.memory.seated) D.ring))

  -- LAW: remove meets the model
  pub remove_meets : Met t (remove_tables t k) (remove k) (of_removed (remove_answer t.keys t.rows t.buckets k))
  remove_meets = go (found t.keys t.rows t.buckets size (rank_of k)) refl
    where
      go : (r : Option ℕ) → found t.keys t.rows t.buckets size (rank_of k) ≡ r → Met t (remove_tables t k) (remove k) (of_removed (remove_answer t.keys t.rows t.buckets k))
      go (Some n) e = finish (Ok (node n)) (remove_finds t.keys t.rows t.buckets k n e) (left n e)
      go None e = finish (Err KeyAbsent) (remove_lacks t.keys t.rows t.buckets k e) (absent e)

-- LAW: what the code ensures, told of all the tables: it is a function of them, and meets the model
module _ (t : Tables) (k : ℤ) (rows' buckets' : List ℕ) (r : Result Node Refusal) (d : Removes t.keys t.rows t.buckets rows' buckets' t.coordinator.counter.0 k r) where
  pub remove_cells : tables_with t t.keys t.values rows' buckets' ≡ remove_tables t k
  remove_cells = rw (d.to_rows, d.to_buckets, d.answer)

  pub remove_outcome : Sound t → SFits w64 k → Met t (tables_with t t.keys t.values rows' buckets') (remove k) (of_removed r)
  remove_outcome S f = rw (remove_cells, d.answer) (remove_meets t S k f)
