-- The rows after the node freed last was linked in.
-- Assumes nothing.
use mathlib.Core.Path.{◌≡◌, sym, ap, ◌∙◌}
use mathlib.Core.Logic.{◌≢◌}
use mathlib.Core.List.{List, ◌∷◌, ◌++◌}
use Prim.Native.Nat.{ℕ, ◌+◌, ◌*◌, ◌≤◌, ◌<◌}
use native.Mathlib.Omega.{arith}
use lib.ListN.{length}
use Rattle.lists.specs.Holds.{All}
use Rattle.lists.specs.Members.{Differ}
use Rattle.lists.proofs.Holding.{all_imp, all_imp₂, all_every, all_insert}
use Rattle.rows.specs.Rows.{column, put, upd, heights, insertions, removals, places, chains, frees, rings, links, link_column}
use Rattle.rows.proofs.Columns.{upd_same, upd_other, length_put, column_same, column_other}
use Rattle.levels.specs.declared.Pair.{Pair}
use Rattle.levels.specs.Levels.{order_of, Linked}
use Rattle.levels.specs.Stitch.{stitched, Stitchable}
use Rattle.levels.specs.Search.{up_to, above, searched}
use Rattle.levels.proofs.Joining.{length_stitched, stitched_field}
use Rattle.levels.proofs.Orders.{order_kept, linked_kept}
use Rattle.levels.proofs.Searching.{split_rank}
use Rattle.levels.proofs.Stitching.{stitch_ready, stitch_order, stitch_linked}
use Rattle.buckets.specs.Buckets.{first_of}
use Rattle.buckets.specs.Changes.{rows_with, Joinable}
use Rattle.buckets.proofs.Framing.{with_column, with_rows, chains_with}
use Rattle.places.specs.Places.{Sized, present_count, free_of, ring_of, first_free, Places, Counted}
use Rattle.places.specs.Changes.{drawn, made_present}
use Rattle.places.proofs.Members.{not_retired}
use Rattle.places.proofs.Stores.{Elsewhere}
use Rattle.places.proofs.Freeing.{drawn_length, drawn_others, drawn_free, drawn_node, drawn_kept, drawn_out}
use Rattle.places.proofs.Marking.{marked_length, marked_elsewhere, marked_places, marked_ring, marked_free, marked_kept}
use Rattle.places.proofs.Counting.{present_room, present_counted, drawn_counted}
use Rattle.tables.specs.Tables.{Used}
use Rattle.changes.specs.Insert.{Linkable, stitched_in, linked_in}
use Rattle.changes.proofs.Framing.{places_same, counted_same, stitchable_same}

-- what linking in does to the rows
pub record Linked_in (keys rows buckets rows' : List ℕ) (cap levels rank height counter n : ℕ) : Type 0 where
  pub node : n < cap
  pub apart : All (Differ n) (order_of rows cap)
  pub absent : places rows n ≡ 0
  pub long : length rows' ≡ length rows
  -- the levels
  pub order : order_of rows' cap ≡ up_to keys rank (order_of rows cap) ++ n ∷ above keys rank (order_of rows cap)
  pub linked : Linked rows' cap levels
  -- the places
  pub used : All (λ m. Used (places rows' m)) (order_of rows' cap)
  pub seated : Places rows' cap
  pub counted : Counted rows' cap
  pub free : free_of rows cap ≡ n ∷ free_of rows' cap
  pub ring : ring_of rows' cap ≡ ring_of rows cap
  -- the fields
  pub tall : heights rows' ≡ upd (heights rows) n height
  pub born : insertions rows' ≡ upd (insertions rows) n counter
  pub left : removals rows' ≡ removals rows
  pub placed : places rows' ≡ upd (places rows) n 1
  pub chained : chains rows' ≡ upd (chains rows) n (first_of buckets rank)

module _ {keys rows buckets : List ℕ} {cap levels height : ℕ} (rank counter : ℕ) (L : Linkable keys rows buckets cap levels height) where
  abbrev n : ℕ
  n = first_free rows cap

  abbrev pairs : List Pair
  pairs = (searched keys rows cap levels rank).pairs

  -- the rows one step after another
  abbrev taken : List ℕ
  taken = drawn rows cap

  abbrev dated : List ℕ
  dated = put (put taken n 0 height) n 1 counter

  abbrev sewn : List ℕ
  sewn = stitched dated n pairs height

  abbrev hung : List ℕ
  hung = rows_with sewn buckets rank n

  abbrev done : List ℕ
  done = made_present hung cap n

  size : Sized rows cap
  size = record { size = L.searchable.size; small = L.small }

  pub link_node : n < cap
  link_node = (drawn_node rows cap size L.seated L.spare).0

  absent : places rows n ≡ 0
  absent = (drawn_node rows cap size L.seated L.spare).1

  off : All (Differ n) (order_of rows cap)
  off = all_imp (λ m. Used (places rows m)) (Differ n) (λ m u e. let z = absent in let y : places rows m ≡ 0 = ap (places rows) (sym e) ∙ z in omega arith) (order_of rows cap) L.used

  few : height ≤ 12
  few = omega (arith, L.high, L.searchable.linked.few)

  -- ---- the lengths

  long_taken : length taken ≡ length rows
  long_taken = drawn_length rows cap

  long_dated : length dated ≡ length taken
  long_dated = length_put (put taken n 0 height) n 1 counter ∙ length_put taken n 0 height

  long_hung : length hung ≡ length rows
  long_hung = with_rows sewn buckets rank n ∙ length_stitched dated n pairs height ∙ long_dated ∙ long_taken

  room : n * 32 + 32 ≤ length taken
  room = rw long_taken (omega (arith, link_node, L.searchable.size))

  -- ---- the columns

  -- the two stores leave every other column
  dated_other : (f : ℕ) → f < 32 → 0 ≢ f → 1 ≢ f → column dated f ≡ column taken f
  dated_other f l a b = column_other (put taken n 0 height) n 1 counter f (omega arith) l b ∙ column_other taken n 0 height f (omega arith) l a

  -- and stitching and the bucket every other field
  hung_dated : (f : ℕ) → f < 8 → 5 ≢ f → column hung f ≡ column dated f
  hung_dated f l d = with_column sewn buckets rank n f (omega arith) d ∙ stitched_field dated n pairs height f few l

  hung_taken : (f : ℕ) → f < 8 → 0 ≢ f → 1 ≢ f → 5 ≢ f → column hung f ≡ column taken f
  hung_taken f l a b d = hung_dated f l d ∙ dated_other f (omega arith) a b

  hung_rows : (f : ℕ) → f < 8 → 0 ≢ f → 1 ≢ f → 5 ≢ f → f ≢ 6 → column hung f ≡ column rows f
  hung_rows f l a b d e = hung_taken f l a b d ∙ drawn_others rows cap f (omega arith) e

  done_hung : (f : ℕ) → Elsewhere f → column done f ≡ column hung f
  done_hung f e = marked_elsewhere hung cap n 1 (present_count hung cap + 1) f e

  tall₂ : heights dated ≡ upd (heights rows) n height
  tall₂ =
      column_other (put taken n 0 height) n 1 counter 0 (omega arith) (omega arith) (omega arith)
      ∙ column_same taken n 0 height (omega arith) room
      ∙ ap (λ g. upd g n height) (drawn_others rows cap 0 (omega arith) (omega arith))

  born₂ : insertions dated ≡ upd (insertions rows) n counter
  born₂ =
      column_same (put taken n 0 height) n 1 counter (omega arith) (rw (length_put taken n 0 height) room)
      ∙ ap (λ g. upd g n counter) (column_other taken n 0 height 1 (omega arith) (omega arith) (omega arith) ∙ drawn_others rows cap 1 (omega arith) (omega arith))

  chained₄ : chains hung ≡ upd (chains rows) n (first_of buckets rank)
  chained₄ =
      chains_with sewn buckets rank n (rw (length_stitched dated n pairs height ∙ long_dated) room)
      ∙ ap (λ g. upd g n (first_of buckets rank)) (stitched_field dated n pairs height 5 few (omega arith) ∙ dated_other 5 (omega arith) (omega arith) (omega arith) ∙ drawn_others rows cap 5 (omega arith) (omega arith))

  -- ---- the levels

  same : (l d : ℕ) → l < 12 → d ≤ 1 → links dated l d ≡ links rows l d
  same l d i u = dated_other (link_column l d) (omega arith) (omega arith) (omega arith) ∙ drawn_others rows cap (link_column l d) (omega arith) (omega arith)

  same_done : (l d : ℕ) → l < 12 → d ≤ 1 → links done l d ≡ links sewn l d
  same_done l d i u = done_hung (link_column l d) (omega arith) ∙ with_column sewn buckets rank n (link_column l d) (omega arith) (omega arith)

  tall₃ : heights done ≡ heights sewn
  tall₃ = done_hung 0 (omega arith) ∙ with_column sewn buckets rank n 0 (omega arith) (omega arith)

  pub link_stitchable : Stitchable taken n pairs height
  link_stitchable =
      stitchable_same dated taken n pairs height (sym long_dated)
      (stitch_ready keys rows dated cap levels rank n height L.searchable same tall₂ (long_dated ∙ long_taken) link_node (L.low, L.high) off)

  order₅ : order_of done cap ≡ up_to keys rank (order_of rows cap) ++ n ∷ above keys rank (order_of rows cap)
  order₅ = order_kept sewn done cap same_done ∙ stitch_order keys rows dated cap levels rank n height L.searchable same tall₂ (long_dated ∙ long_taken) link_node (L.low, L.high) off

  linked₅ : Linked done cap levels
  linked₅ =
      linked_kept sewn done cap same_done levels (all_every (λ m. heights done m ≡ heights sewn m) (λ m. ap (λ g. g m) tall₃) (order_of sewn cap))
      (stitch_linked keys rows dated cap levels rank n height L.searchable same tall₂ (long_dated ∙ long_taken) link_node (L.low, L.high) off)

  -- ---- the places

  pub link_joinable : Joinable sewn buckets n
  link_joinable = record { rowed = rw (length_stitched dated n pairs height ∙ long_dated) room; some = L.bucketed }

  pub link_sized : Sized hung cap
  link_sized = record { size = long_hung ∙ L.searchable.size; small = L.small }

  frees₄ : frees hung ≡ frees taken
  frees₄ = hung_taken 6 (omega arith) (omega arith) (omega arith) (omega arith)

  rings₄ : rings hung ≡ rings rows
  rings₄ = hung_rows 7 (omega arith) (omega arith) (omega arith) (omega arith) (omega arith)

  places₄ : places hung ≡ places rows
  places₄ = hung_rows 3 (omega arith) (omega arith) (omega arith) (omega arith) (omega arith)

  seated₄ : Places hung cap
  seated₄ =
      places_same taken hung cap
      (hung_taken 3 (omega arith) (omega arith) (omega arith) (omega arith))
      (hung_taken 4 (omega arith) (omega arith) (omega arith) (omega arith))
      frees₄
      (hung_taken 7 (omega arith) (omega arith) (omega arith) (omega arith))
      (drawn_kept rows cap size L.seated L.spare)

  counted₄ : Counted hung cap
  counted₄ =
      counted_same taken hung cap (hung_taken 3 (omega arith) (omega arith) (omega arith) (omega arith)) frees₄
      (drawn_counted rows cap L.counted size L.seated L.spare)

  still : places hung n ≡ 0
  still = ap (λ g. g n) places₄ ∙ absent

  pub link_room : present_count hung cap < cap
  link_room = present_room hung cap n counted₄ link_node (λ e. let z = still in omega arith)

  placed₅ : places done ≡ upd (places rows) n 1
  placed₅ = marked_places hung cap n 1 (present_count hung cap + 1) link_sized link_node ∙ ap (λ g. upd g n 1) places₄

  free₅ : free_of done cap ≡ free_of taken cap
  free₅ = marked_free hung cap n 1 (present_count hung cap + 1) link_sized link_node seated₄ ∙ rw frees₄

  used₅ : All (λ m. Used (places done m)) (order_of done cap)
  used₅ =
      rw (order₅, placed₅)
      (all_insert (λ m. Used (upd (places rows) n 1 m)) (up_to keys rank (order_of rows cap)) n (above keys rank (order_of rows cap)) (rw (upd_same (places rows) n 1) (omega arith))
      (rw split at
      (all_imp₂ (Differ n) (λ m. Used (places rows m)) (λ m. Used (upd (places rows) n 1 m)) (λ m d u. rw (upd_other (places rows) n 1 m (λ e. d (sym e))) u) (order_of rows cap) off L.used)))
    where
      split : order_of rows cap ≡ up_to keys rank (order_of rows cap) ++ above keys rank (order_of rows cap)
      split = split_rank keys rank (order_of rows cap) L.searchable.rising

  -- LAW: what linking in does
  pub link_done : Linked_in keys rows buckets (linked_in keys rows buckets cap levels rank height counter) cap levels rank height counter n
  unfolding linked_in stitched_in
  link_done =
      record {
        node = link_node;
        apart = off;
        absent = absent;
        long = marked_length hung cap n 1 (present_count hung cap + 1) ∙ long_hung;
        order = order₅;
        linked = linked₅;
        used = used₅;
        seated =
            marked_kept hung cap n 1 (present_count hung cap + 1) link_sized link_node seated₄
            (λ i. drawn_out rows cap size L.seated L.spare (rw frees₄ at i))
            (not_retired hung cap seated₄ n (λ e. let z = still in omega arith));
        counted = present_counted hung cap n counted₄ link_node link_sized (λ e. let z = still in omega arith);
        free = drawn_free rows cap size L.seated L.spare ∙ ap {B = List ℕ} (λ l. n ∷ l) (sym free₅);
        ring = marked_ring hung cap n 1 (present_count hung cap + 1) ∙ rw rings₄;
        tall = done_hung 0 (omega arith) ∙ hung_dated 0 (omega arith) (omega arith) ∙ tall₂;
        born = done_hung 1 (omega arith) ∙ hung_dated 1 (omega arith) (omega arith) ∙ born₂;
        left = done_hung 2 (omega arith) ∙ hung_rows 2 (omega arith) (omega arith) (omega arith) (omega arith) (omega arith);
        placed = placed₅;
        chained = done_hung 5 (omega arith) ∙ chained₄;
      }
