-- What insert and remove rely on, and their answers, as the code comes to them.
-- Assumes nothing.
use Rattle.std.specs.Prelude.{Bool, true, false, is_some, Ok, Err, Some, None, Option}
use Rattle.model.specs.declared.Refusal.TheVariants.{KeyPresent, KeyAbsent, NoFreeNode}
use mathlib.Core.Path.{◌≡◌, refl, sym, ap, ◌∙◌}
use mathlib.Core.Bool.{true≢false}
use mathlib.Core.List.{List, [], ◌∷◌}
use Prim.Native.Nat.{ℕ, ◌≤◌, ◌<◌}
use native.Mathlib.Omega.{arith}
use lib.ListN.{length}
use lib.IntN.{ℤ}
use mir.Syntax.{w64}
use mir.Val.{SFits, to_z, of_z}
use mir.ValLaws.{to_z-of_z}
use Rattle.lists.specs.Filters.{head_or}
use Rattle.sizes.specs.Rank.{rank_of}
use Rattle.buckets.specs.Finding.{found, Holds}
use Rattle.buckets.proofs.Finding.{finds}
use Rattle.places.specs.Places.{Sized, free_of, first_free}
use Rattle.places.proofs.Freeing.{drawn_node}
use Rattle.model.specs.Model.{height_of}
use Rattle.tables.specs.Tables.{node, levels_of}
use Rattle.tables.proofs.Capacities.{capacity}
use Rattle.changes.specs.Insert.{InsertReady, Linkable, insert_case, insert_answer}
use Rattle.changes.specs.Remove.{RemoveReady, remove_answer}
use Rattle.changes.proofs.Heights.{height_within}

-- the rank of a signed key, as the code hands it over
pub rank_is : {rank : ℕ} (key : ℤ) → SFits w64 key → rank ≡ rank_of (to_z w64 (of_z w64 key)) → rank ≡ rank_of key
rank_is key f e = e ∙ ap rank_of (to_z-of_z w64 key f)

-- what `find` answered
pub find_is : {rank : ℕ} {r x : Option ℕ} (keys rows buckets : List ℕ) (key : ℤ) → r ≡ found keys rows buckets (length keys) rank → rank ≡ rank_of key → r ≡ x
    → found keys rows buckets (length keys) (rank_of key) ≡ x
find_is keys rows buckets key e f g = rw (← f, ← e) g

-- ---- insert

module _ {keys : List ℕ} {values : List ℤ} {rows buckets : List ℕ} (r : InsertReady keys values rows buckets) where
  pub insert_few : length keys ≤ 4096
  insert_few = (capacity (length keys) r.known).most

  pub insert_sized : Sized rows (length keys)
  insert_sized = record { size = r.size; small = insert_few }

  -- LAW: a node of the coin's height may be linked in
  pub insert_linkable : {levels height : ℕ} (coin : ℕ) → levels ≡ levels_of (length keys) → height ≡ height_of levels coin → 0 < length (free_of rows (length keys))
      → Linkable keys rows buckets (length keys) levels height
  insert_linkable {levels} coin e f some =
      let w = height_within levels coin (rw e r.known) in
      record {
        small = insert_few;
        searchable = record { size = r.size; keyed = refl; leveled = rw e r.known; linked = rw e r.memory.linked; rising = r.rising };
        seated = r.memory.seated;
        used = r.memory.used;
        counted = r.memory.counted;
        bucketed = r.hashed.room.some;
        spare = some;
        low = rw f w.0;
        high = rw f w.1;
      }

  -- LAW: the node that is taken has a key and a value
  pub insert_at : {at n : ℕ} → at ≡ n → n ≡ first_free rows (length keys) → 0 < length (free_of rows (length keys)) → (at < length keys) × (at < length values)
  insert_at e f some =
      let l = (drawn_node rows (length keys) insert_sized r.memory.seated some).0 in
      rw (e, f) (l, omega (arith, r.valued))

-- a count that is not 0
pub spare_is : {count : ℕ} (rows : List ℕ) (cap : ℕ) → count ≡ length (free_of rows cap) → (count ≡ 0 → ⊥) → 0 < length (free_of rows cap)
spare_is rows cap e d = omega arith

module _ (keys rows buckets : List ℕ) (key : ℤ) where
  pub insert_present : (n : ℕ) → found keys rows buckets (length keys) (rank_of key) ≡ Some n → insert_answer keys rows buckets key ≡ Err KeyPresent
  unfolding insert_answer
  insert_present n e = rw e

  pub insert_full : found keys rows buckets (length keys) (rank_of key) ≡ None → length (free_of rows (length keys)) ≡ 0 → insert_answer keys rows buckets key ≡ Err NoFreeNode
  unfolding insert_answer
  insert_full e z = rw e (go (free_of rows (length keys)) z)
    where
      go : (xs : List ℕ) → length xs ≡ 0 → insert_case None xs ≡ Err NoFreeNode
      go [] z = refl
      go (x ∷ xs) z = absurd (omega arith)

  pub insert_takes : found keys rows buckets (length keys) (rank_of key) ≡ None → 0 < length (free_of rows (length keys))
      → insert_answer keys rows buckets key ≡ Ok (node (first_free rows (length keys)))
  unfolding insert_answer
  insert_takes e z = rw e (go (free_of rows (length keys)) z)
    where
      go : (xs : List ℕ) → 0 < length xs → insert_case None xs ≡ Ok (node (head_or xs 0))
      go [] z = absurd (omega arith)
      go (x ∷ xs) z = refl

  -- ---- remove

  pub remove_finds : (n : ℕ) → found keys rows buckets (length keys) (rank_of key) ≡ Some n → remove_answer keys rows buckets key ≡ Ok (node n)
  unfolding remove_answer
  remove_finds n e = rw e

  pub remove_lacks : found keys rows buckets (length keys) (rank_of key) ≡ None → remove_answer keys rows buckets key ≡ Err KeyAbsent
  unfolding remove_answer
  remove_lacks e = rw e

-- LAW: the node that the buckets find has the rank
pub remove_holds : {r : Option ℕ} {keys rows buckets : List ℕ} {rank n : ℕ} → RemoveReady keys rows buckets → r ≡ found keys rows buckets (length keys) rank → r ≡ Some n → Holds keys rows (length keys) rank n
remove_holds {keys = keys} {rows = rows} {buckets = buckets} {rank = rank} r e f = finds keys rows buckets (length keys) r.hashed rank (sym f ∙ e)

-- ---- what is_some tells

pub some_is : (r : Option ℕ) → is_some r ≡ true → (m : ℕ) × (r ≡ Some m)
some_is (Some m) e = (m, refl)
some_is None e = let z : ◌≡◌ {A = Bool} true false = sym e in absurd (true≢false z)

pub none_is : (r : Option ℕ) → is_some r ≡ false → r ≡ None
none_is (Some m) e = let z : ◌≡◌ {A = Bool} true false = e in absurd (true≢false z)
none_is None e = refl
