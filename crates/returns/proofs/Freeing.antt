-- The tables' cells after a linked node that is not present is freed.
-- Assumes nothing.
use mathlib.Core.Path.{◌≡◌, sym, ap, ◌∙◌}
use mathlib.Core.Logic.{◌≢◌}
use mathlib.Core.List.{List, ◌∷◌}
use Prim.Native.Nat.{ℕ, ◌≤◌, ◌<◌, ◌+◌, ◌*◌}
use native.Mathlib.Omega.{arith}
use lib.ListN.{length}
use lib.IntN.{ℤ}
use Rattle.lists.specs.Holds.{All}
use Rattle.lists.specs.Filters.{without}
use Rattle.lists.specs.Members.{In, Differ}
use Rattle.lists.proofs.Holding.{all_imp₂, all_every}
use Rattle.lists.proofs.Filtering.{all_filter}
use Rattle.lists.proofs.Splits.{all_in, without_differ}
use Rattle.rows.specs.Rows.{column, upd, heights, places, links}
use Rattle.rows.proofs.Columns.{upd_other}
use Rattle.levels.specs.Levels.{order_of}
use Rattle.levels.specs.Stitch.{unstitched}
use Rattle.levels.proofs.Joining.{length_unstitched, unstitched_field}
use Rattle.levels.proofs.Orders.{order_kept, linked_kept}
use Rattle.levels.proofs.Stitching.{unstitch_ready, unstitch_order, unstitch_linked}
use Rattle.places.specs.Places.{Sized, Places, free_of, ring_of}
use Rattle.places.proofs.Stores.{Elsewhere}
use Rattle.places.proofs.Frames.{Same, same_free, same_ring, same_counted, same_kept}
use Rattle.places.proofs.Members.{not_free, free_room}
use Rattle.places.proofs.Freeing.{released_length, released_elsewhere, released_ring, released_places, released_free, released_kept}
use Rattle.places.proofs.Counting.{released_counted}
use Rattle.buckets.specs.Buckets.{Buckets}
use Rattle.buckets.proofs.Keeping.{buckets_placed}
use Rattle.model.specs.Model as M
use Rattle.tables.specs.Tables.{levels_of, Memory, Used, nodes_of}
use Rattle.tables.proofs.Viewing.{nodes_kept, shows_without}
use Rattle.returns.specs.Freeing.{Freeable, freed}

module _ (rows : List ℕ) (cap n : ℕ) (size : Sized rows cap) (known : 0 < levels_of cap) (m : Memory rows cap) (i : In n (order_of rows cap)) where
  abbrev cut : List ℕ
  cut = unstitched rows n (heights rows n)

  pub node_low : n < cap
  node_low = all_in (λ x. x < cap) (order_of rows cap) m.linked.nodes n i

  node_high : heights rows n ≤ 12
  node_high =
      let t = all_in (λ x. (0 < heights rows x) × (heights rows x ≤ levels_of cap)) (order_of rows cap) m.linked.tall n i in
      omega (arith, t, m.linked.few)

  pub node_used : places rows n ≢ 0
  node_used e = let u = all_in (λ x. Used (places rows x)) (order_of rows cap) m.used n i in omega arith

  field : (f : ℕ) → f < 8 → column cut f ≡ column rows f
  field f l = unstitched_field rows n (heights rows n) f node_high l

  same : Same rows cut
  same = record { place = field 3 (omega arith); seat = field 4 (omega arith); free = field 6 (omega arith); ring = field 7 (omega arith) }

  cut_sized : Sized cut cap
  cut_sized = record { size = length_unstitched rows n (heights rows n) ∙ size.size; small = size.small }

  cut_places : Places cut cap
  cut_places = same_kept rows cut cap same m.seated

  out : In n (free_of cut cap) → ⊥
  out = not_free cut cap cut_places n (rw (field 3 (omega arith)) node_used)

  -- LAW: what freeing relies on
  pub freeable : Freeable rows cap n
  freeable =
      record {
        sized = size;
        node = node_low;
        linked = unstitch_ready rows cap (levels_of cap) n size.size known m.linked i;
        room = free_room rows cap m.seated n node_low (not_free rows cap m.seated n node_used);
      }

  elsewhere : (f : ℕ) → Elsewhere f → column (freed rows cap n) f ≡ column cut f
  unfolding freed
  elsewhere f e = released_elsewhere cut cap n f e

  -- LAW: the fields of a node but its place and its seat are as they were
  pub freed_field : (f : ℕ) → f < 8 → Elsewhere f → column (freed rows cap n) f ≡ column rows f
  freed_field f l e = elsewhere f e ∙ field f l

  cut_links : (l d : ℕ) → l < 12 → d ≤ 1 → links (freed rows cap n) l d ≡ links cut l d
  cut_links l d j k = elsewhere (8 + l * 2 + d) (omega arith)

  pub freed_size : length (freed rows cap n) ≡ (cap + 2) * 32
  unfolding freed
  freed_size = released_length cut cap n ∙ cut_sized.size

  -- LAW: the order is without n
  pub freed_order : order_of (freed rows cap n) cap ≡ without n (order_of rows cap)
  freed_order = order_kept cut (freed rows cap n) cap cut_links ∙ unstitch_order rows cap (levels_of cap) n size.size known m.linked i

  pub freed_places : places (freed rows cap n) ≡ upd (places rows) n 0
  unfolding freed
  freed_places = released_places cut cap n cut_sized cut_places node_low out ∙ ap (λ g. upd g n 0) (field 3 (omega arith))

  -- LAW: n is on top of the free stack, and the ring is as it was
  pub freed_free : free_of (freed rows cap n) cap ≡ n ∷ free_of rows cap
  unfolding freed
  freed_free = released_free cut cap n cut_sized cut_places node_low out ∙ ap {B = List ℕ} (λ l. n ∷ l) (same_free rows cut cap same)

  pub freed_ring : ring_of (freed rows cap n) cap ≡ ring_of rows cap
  unfolding freed
  freed_ring = released_ring cut cap n ∙ same_ring rows cut cap same

  used_still : All (λ x. Used (places (freed rows cap n) x)) (without n (order_of rows cap))
  used_still =
      rw freed_places
      (all_imp₂ (Differ n) (λ x. Used (places rows x)) (λ x. Used (upd (places rows) n 0 x))
      (λ x d u. rw (upd_other (places rows) n 0 x (λ e. d (sym e))) u)
      (without n (order_of rows cap)) (without_differ n (order_of rows cap)) (all_filter (λ x. Used (places rows x)) _ (order_of rows cap) m.used))

  module _ (hidden : places rows n ≢ 1) where
    -- LAW: the rows are sound by themselves again, where n is not in the ring
    pub freed_memory : (In n (ring_of rows cap) → ⊥) → Memory (freed rows cap n) cap
    unfolding freed
    freed_memory off =
        record {
          linked =
              linked_kept cut (freed rows cap n) cap cut_links (levels_of cap)
              (all_every (λ x. heights (freed rows cap n) x ≡ heights cut x) (λ x. ap (λ g. g x) (elsewhere 0 (omega arith))) (order_of cut cap))
              (unstitch_linked rows cap (levels_of cap) n size.size known m.linked i);
          used = rw freed_order used_still;
          seated = released_kept cut cap n cut_sized cut_places node_low out (λ j. off (rw (same_ring rows cut cap same) at j));
          counted =
              released_counted cut cap n (same_counted rows cut cap same m.counted) node_low cut_sized cut_places out
              (rw (field 3 (omega arith)) hidden);
        }

    -- LAW: the buckets are those of the present nodes again
    pub freed_buckets : (keys buckets : List ℕ) → Buckets keys rows buckets cap → Buckets keys (freed rows cap n) buckets cap
    freed_buckets keys buckets h =
        buckets_placed keys rows buckets cap h n 0 (freed rows cap n) (omega (arith, freed_size)) (freed_field 5 (omega arith) (omega arith)) freed_places hidden (omega arith)

-- LAW: the view's order is without the node
pub freed_nodes : (keys : List ℕ) (values : List ℤ) (rows : List ℕ) (cap n : ℕ) → length keys ≡ cap → Sized rows cap → 0 < levels_of cap → Memory rows cap → In n (order_of rows cap)
    → nodes_of keys values (freed rows cap n) ≡ M.unstitch n (nodes_of keys values rows)
freed_nodes keys values rows cap n e size known m i =
    rw (e, freed_order rows cap n size known m i)
    (nodes_kept keys values rows (freed rows cap n) n 0
    (freed_field rows cap n size known m i 0 (omega arith) (omega arith))
    (freed_field rows cap n size known m i 1 (omega arith) (omega arith))
    (freed_field rows cap n size known m i 2 (omega arith) (omega arith))
    (freed_places rows cap n size known m i)
    (without n (order_of rows cap)) (without_differ n (order_of rows cap))
    ∙ shows_without keys values rows n (order_of rows cap))
