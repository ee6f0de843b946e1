-- Insert on sound tables: what its code requires holds, and what it leaves is the model's next state and sound again.
-- Assumes nothing.
use Rattle.std.specs.Prelude.{Result, Ok, Err, Some, None, Option as Optional}
use Rattle.sizes.specs.declared.Node.{Node}
use Rattle.model.specs.declared.Refusal.{Refusal}
use Rattle.model.specs.declared.Refusal.TheVariants.{KeyPresent, NoFreeNode}
use mathlib.Core.Path.{◌≡◌, refl, sym, ap, ap₂, ◌∙◌}
use mathlib.Core.Logic.{◌≢◌}
use mathlib.Core.Bool.{true, false}
use mathlib.Core.List.{List, [], ◌∷◌, ◌++◌, map, map-append}
use mathlib.Core.Option.{none, some}
use Prim.Native.Nat.{ℕ, ◌≤◌, ◌<◌}
use native.Mathlib.Omega.{arith}
use lib.ListN.{length, get_or, set, length-set}
use lib.Seq.{get_or-set_same, get_or-set_other}
use lib.IntN.{ℤ, pos}
use lib.Signed.{lt_z}
use mir.Syntax.{w64}
use mir.Val.{SFits}
use borrow.Author.Tests.{lt-ltb, le-ltb}
use Rattle.lists.specs.Holds.{All}
use Rattle.lists.specs.Filters.{first, maybe}
use Rattle.lists.specs.Members.{Differ}
use Rattle.lists.proofs.Filtering.{all_filter}
use Rattle.sizes.specs.Rank.{rank_of, key_of}
use Rattle.sizes.proofs.Ranking.{key_rank, keys_ltb}
use Rattle.rows.specs.Rows.{heights, insertions, places}
use Rattle.rows.proofs.Columns.{upd_same, upd_other}
use Rattle.levels.specs.Levels.{order_of}
use Rattle.levels.specs.Search.{up_to, above, Rising}
use Rattle.levels.proofs.Searching.{split_rank, up_to_le, above_lt}
use Rattle.buckets.specs.Buckets.{Buckets}
use Rattle.buckets.specs.Finding.{found}
use Rattle.buckets.proofs.Framing.{with_buckets}
use Rattle.buckets.proofs.Keeping.{buckets_added}
use Rattle.places.specs.Places.{free_of, first_free}
use Rattle.model.specs.Plain.{Pair, get}
use Rattle.model.specs.Calls.{insert, refused}
use Rattle.model.specs.Answers.{of_inserted}
use Rattle.model.specs.Model as M
use Rattle.model.proofs.View.{stitch_at}
use Rattle.model.proofs.Applied.{insert_links}
use Rattle.tables.specs.Tables.{Tables, capacity_of, node, levels_of, node_at, view, Lengths, Memory, Sound, Met}
use Rattle.tables.proofs.Viewing.{all_nodes}
use Rattle.tables.proofs.Telling.{sound_rising}
use Rattle.tables.proofs.Meeting.{met, met_same}
use Rattle.tables.proofs.Finding.{found_get, lost_get}
use Rattle.changes.specs.Insert.{InsertReady, Inserts, insert_answer, linked_in, tables_with, insert_to, insert_tables}
use Rattle.changes.proofs.Framing.{nodes_off, view_changed}
use Rattle.changes.proofs.Linking.{Linked_in, link_done}
use Rattle.changes.proofs.Cases.{insert_present, insert_full, insert_takes, insert_linkable}

-- LAW: what the code relies on
pub insert_ready : (t : Tables) → Sound t → InsertReady t.keys t.values t.rows t.buckets
insert_ready t S =
    record {
      known = S.lengths.known;
      valued = S.lengths.values;
      size = S.lengths.rows;
      memory = S.memory;
      hashed = S.hashed;
      rising = sound_rising t S;
    }

-- ---- what the order shows, with the new node linked in

module _ (keys : List ℕ) (values : List ℤ) (rows buckets rows' : List ℕ) (levels rank height counter n : ℕ) (valued : length values ≡ length keys) (rising : Rising keys (order_of rows (length keys)))
    (D : Linked_in keys rows buckets rows' (length keys) levels rank height counter n) (k v : ℤ) (e : key_of rank ≡ k) where
  abbrev cap : ℕ
  cap = length keys

  abbrev o : List ℕ
  o = order_of rows cap

  abbrev low : List ℕ
  low = up_to keys rank o

  abbrev high : List ℕ
  high = above keys rank o

  abbrev g : ℕ → M.Node
  g = node_at keys values rows

  abbrev g' : ℕ → M.Node
  g' = node_at (set keys n rank) (set values n v) rows'

  abbrev new : M.Node
  new = record { number = n; key = k; value = v; height = height; inserted = counter; place = M.present }

  other_node : (x : ℕ) → x ≢ n → g' x ≡ g x
  unfolding node_at
  other_node x d =
      rw (
        get_or-set_other keys n x rank 0 d,
        get_or-set_other values n x v (pos 0) d,
        D.tall,
        upd_other (heights rows) n height x d,
        D.born,
        upd_other (insertions rows) n counter x d,
        D.left,
        D.placed,
        upd_other (places rows) n 1 x d,
      )

  own_node : g' n ≡ new
  unfolding node_at
  own_node =
      rw (
        get_or-set_same keys n rank 0 D.node,
        e,
        get_or-set_same values n v (pos 0) (omega (arith, D.node)),
        D.tall,
        upd_same (heights rows) n height,
        D.born,
        upd_same (insertions rows) n counter,
        D.placed,
        upd_same (places rows) n 1,
      )

  below : All (λ (m : M.Node). lt_z k m.key ≡ false) (map g low)
  unfolding node_at
  below =
      all_nodes (λ m. lt_z k m.key ≡ false) (λ m. get_or keys m 0 ≤ rank) g
      (λ m l. ap (λ z. lt_z z (key_of (get_or keys m 0))) (sym e) ∙ keys_ltb rank (get_or keys m 0) ∙ le-ltb rank (get_or keys m 0) l) low (up_to_le keys rank o)

  beyond : (xs : List ℕ) → All (λ m. rank < get_or keys m 0) xs → maybe true (λ (m : M.Node). lt_z k m.key) (first (map g xs)) ≡ true
  unfolding node_at
  beyond [] a = refl
  beyond (x ∷ xs) a = ap (λ z. lt_z z (key_of (get_or keys x 0))) (sym e) ∙ keys_ltb rank (get_or keys x 0) ∙ lt-ltb rank (get_or keys x 0) a.0

  -- LAW: the order shows the new node where the model stitches it
  pub shows_stitched : map g' (order_of rows' cap) ≡ M.stitch new (map g o)
  shows_stitched =
      let split = split_rank keys rank o rising in
      ap (map g') D.order
      ∙ map-append g' low (n ∷ high)
      ∙ ap₂ {C = List M.Node} ◌++◌
      (nodes_off g' g n other_node low (all_filter (Differ n) _ o D.apart))
      (ap₂ {C = List M.Node} (λ a l. a ∷ l) own_node (nodes_off g' g n other_node high (all_filter (Differ n) _ o D.apart)))
      ∙ sym (stitch_at new (map g low) (map g high) below (beyond high (above_lt keys rank o)))
      ∙ ap (M.stitch new) (sym (map-append g low high) ∙ ap (map g) (sym split))

-- ---- the outcome

refuse_present : (s : M.State) (k v : ℤ) (coin : ℕ) (p : Pair) → get k (M.plain s) ≡ some p → M.apply s (insert k v coin) ≡ (s, refused 3)
unfolding M.apply
refuse_present s k v coin p e = rw e

refuse_full : (s : M.State) (k v : ℤ) (coin : ℕ) → get k (M.plain s) ≡ none → s.free ≡ [] → M.apply s (insert k v coin) ≡ (s, refused 5)
unfolding M.apply M.inserting
refuse_full s k v coin e f = rw (e, f)

module _ (t : Tables) (S : Sound t) (k v : ℤ) (coin : ℕ) (f : SFits w64 k) where
  abbrev size : ℕ
  size = capacity_of t

  abbrev Goal : Result Node Refusal → Type 0
  Goal r = Met t (insert_to t k v coin r) (insert k v coin) (of_inserted r)

  finish : (r : Result Node Refusal) → insert_answer t.keys t.rows t.buckets k ≡ r → Goal r
      → Met t (insert_tables t k v coin) (insert k v coin) (of_inserted (insert_answer t.keys t.rows t.buckets k))
  finish r e g = rw e g

  present : (n : ℕ) → found t.keys t.rows t.buckets size (rank_of k) ≡ Some n → Goal (Err KeyPresent)
  present n e = met_same t (insert k v coin) (refused 3) S (refuse_present (view t) k v coin _ (found_get t S k f n e))

  full : found t.keys t.rows t.buckets size (rank_of k) ≡ None → free_of t.rows size ≡ [] → Goal (Err NoFreeNode)
  unfolding view
  full e z = met_same t (insert k v coin) (refused 5) S (refuse_full (view t) k v coin (lost_get t S k f e) z)

  module _ (lost : found t.keys t.rows t.buckets size (rank_of k) ≡ None) (spare : 0 < length (free_of t.rows size)) where
    abbrev n : ℕ
    n = first_free t.rows size

    abbrev height : ℕ
    height = M.height_of (levels_of size) coin

    abbrev after : List ℕ
    after = linked_in t.keys t.rows t.buckets size (levels_of size) (rank_of k) height t.coordinator.counter.0

    D : Linked_in t.keys t.rows t.buckets after size (levels_of size) (rank_of k) height t.coordinator.counter.0 n
    D = link_done (rank_of k) t.coordinator.counter.0 (insert_linkable (insert_ready t S) coin refl refl spare)

    abbrev t' : Tables
    t' = insert_to t k v coin (Ok (node n))

    long : capacity_of t' ≡ size
    long = length-set t.keys n (rank_of k)

    lengths : Lengths t'
    lengths =
        record {
          known = rw long S.lengths.known;
          values = rw long (length-set t.values n v ∙ S.lengths.values);
          rows = rw long (D.long ∙ S.lengths.rows);
          buckets = rw long (with_buckets t.rows t.buckets (rank_of k) n ∙ S.lengths.buckets);
          tickets = S.lengths.tickets;
        }

    memory : Memory after size
    memory = record { linked = D.linked; used = D.used; seated = D.seated; counted = D.counted }

    hashed : Buckets t'.keys after t'.buckets size
    hashed =
        buckets_added t.keys t.rows t.buckets size S.hashed n (rank_of k) t'.keys after t'.buckets D.node
        (λ p. let z = D.absent in omega arith)
        (omega (arith, long))
        (omega (arith, D.long, S.lengths.rows))
        (get_or-set_same t.keys n (rank_of k) 0 D.node)
        (λ m d. get_or-set_other t.keys n m (rank_of k) 0 d)
        D.chained
        D.placed
        refl

    linked : Goal (Ok (node n))
    unfolding view
    linked =
        met t t' (insert k v coin) (of_inserted (Ok (node n))) S lengths (rw long memory) (rw long hashed) S.few (rw long S.resting)
        (insert_links (view t) k v coin n (free_of after size) (lost_get t S k f lost) D.free
        ∙ ap (λ (s : M.State). (s, of_inserted (Ok (node n))))
        (view_changed t t' _ _ long refl refl
        (shows_stitched t.keys t.values t.rows t.buckets after (levels_of size) (rank_of k) height t.coordinator.counter.0 n S.lengths.values (sound_rising t S) D k v (key_rank k f))
        refl D.ring))

  -- LAW: insert meets the model
  pub insert_meets : Met t (insert_tables t k v coin) (insert k v coin) (of_inserted (insert_answer t.keys t.rows t.buckets k))
  insert_meets = go (found t.keys t.rows t.buckets size (rank_of k)) refl (free_of t.rows size) refl
    where
      go : (r : Optional ℕ) → found t.keys t.rows t.buckets size (rank_of k) ≡ r → (is : List ℕ) → free_of t.rows size ≡ is
          → Met t (insert_tables t k v coin) (insert k v coin) (of_inserted (insert_answer t.keys t.rows t.buckets k))
      go (Some n) e is z = finish (Err KeyPresent) (insert_present t.keys t.rows t.buckets k n e) (present n e)
      go None e [] z = finish (Err NoFreeNode) (insert_full t.keys t.rows t.buckets k e (ap length z)) (full e z)
      go None e (i ∷ is) z =
          let some : 0 < length (free_of t.rows size) = rw z (omega arith) in
          finish (Ok (node (first_free t.rows size))) (insert_takes t.keys t.rows t.buckets k e some) (linked e some)

-- LAW: what the code ensures, told of all the tables: it is a function of them, and meets the model
module _ (t : Tables) (k v : ℤ) (coin : ℕ) (keys' : List ℕ) (values' : List ℤ) (rows' buckets' : List ℕ) (r : Result Node Refusal)
    (d : Inserts t.keys t.values t.rows t.buckets keys' values' rows' buckets' t.coordinator.counter.0 k v coin r) where
  pub insert_cells : tables_with t keys' values' rows' buckets' ≡ insert_tables t k v coin
  insert_cells = rw (d.to_keys, d.to_values, d.to_rows, d.to_buckets, d.answer)

  pub insert_outcome : Sound t → SFits w64 k → Met t (tables_with t keys' values' rows' buckets') (insert k v coin) (of_inserted r)
  insert_outcome S f = rw (insert_cells, d.answer) (insert_meets t S k v coin f)
