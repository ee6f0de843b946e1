-- The walk along the lowest level: what is left to show from a node on, one node further, and the end.
-- Assumes nothing.
use mathlib.Core.Path.{◌≡◌, refl, sym, ap, ◌∙◌}
use mathlib.Core.Logic.{inr, ⊎_elim}
use mathlib.Core.Bool.{Bool, true, false}
use mathlib.Core.List.{List, [], ◌∷◌, ◌++◌, append_assoc}
use Prim.Native.Nat.{ℕ, ◌≤◌, ◌<◌, ◌+◌}
use native.Mathlib.Omega.{arith}
use native.Mathlib.Decide.{dec_lt}
use lib.ListN.{length}
use Rattle.std.specs.Int.{from_bool}
use Rattle.lists.specs.Filters.{filter, keep}
use Rattle.lists.specs.Members.{Split}
use Rattle.lists.proofs.Splits.{in_split, pigeon}
use Rattle.lists.proofs.Indexing.{pairwise_next}
use Rattle.rows.specs.Rows.{links}
use Rattle.levels.specs.Levels.{order_of, onward}
use Rattle.levels.specs.Nearest.{Lowest, Walkable}
use Rattle.levels.proofs.Orders.{link_at, onward_part}
use Rattle.levels.proofs.Nearing.{walkable_after, after_place, walk_on}
use Rattle.levels.proofs.Testing.{walk_more, walk_end}
use Rattle.soundness.specs.Tested.{Timed, Ordered, Line, is_retired}

-- ---- one node and those onward of the next

module _ (rows : List ℕ) (cap n : ℕ) (s : Walkable rows cap 0 n) (l : n < cap) where
  stands : Split n (order_of rows cap)
  stands = ⊎_elim (λ i. in_split n (order_of rows cap) i) (λ e. absurd (omega arith)) s.on

  -- LAW: from a node on there lies the node, and what lies onward of the next
  pub onward_here : onward rows cap 0 n ≡ n ∷ onward rows cap 0 (links rows 0 0 n)
  onward_here =
      let p = stands in
      let past : order_of rows cap ≡ (p.front ++ n ∷ []) ++ p.back = p.whole ∙ sym (append_assoc p.front (n ∷ []) p.back) in
      let next = link_at rows cap 0 (order_of rows cap) s.lowest.run 0 (omega arith) n p.front p.back p.whole in
      let ahead = ap (onward rows cap 0) next ∙ onward_part rows cap s.lowest 0 (omega arith) (p.front ++ n ∷ []) p.back past in
      onward_part rows cap s.lowest 0 (omega arith) p.front (n ∷ p.back) p.whole ∙ ap {B = List ℕ} (λ r. n ∷ r) (sym ahead)

-- what lies onward begins with the node itself, or there is nothing
pub data Begins (cap n : ℕ) : List ℕ → Type 0 where
  at_node : n < cap → (rest : List ℕ) → Begins cap n (n ∷ rest)
  at_end : cap ≤ n → Begins cap n []

begins : (rows : List ℕ) (cap n : ℕ) → Begins cap n (onward rows cap 0 n)
begins rows cap n = go (dec_lt n cap)
  where
    go : Dec (n < cap) → Begins cap n (onward rows cap 0 n)
    go (yes l) = rw (walk_more (links rows 0 0) cap cap n (omega arith) l) (at_node l _)
    go (no l) = rw (walk_end (links rows 0 0) cap cap n (inr (omega arith))) (at_end (omega arith))

-- ---- a line of nodes

module _ (keys rows : List ℕ) where
  ordered_trans : (a b c : ℕ) → Ordered keys rows a b → Ordered keys rows b c → Ordered keys rows a c
  ordered_trans a b c p q =
      record { rises = omega (arith, p.rises, q.rises); last = λ e. omega (arith, p.last e, q.rises) }

  module _ (cap counter n next : ℕ) where
    line_more : (ns : List ℕ) → Begins cap next ns → Timed rows counter n → (next < cap → Ordered keys rows n next) → Line keys rows counter ns → Line keys rows counter (n ∷ ns)
    line_more _ (at_node l rest) t o r =
        record { timed = (t, r.timed); ordered = pairwise_next (Ordered keys rows) ordered_trans n next rest (o l) r.ordered }
    line_more _ (at_end l) t o r = record { timed = (t, tt); ordered = (tt, tt) }

    line_next : (ns : List ℕ) → Begins cap next ns → Line keys rows counter (n ∷ ns) → next < cap → Ordered keys rows n next
    line_next _ (at_node l rest) r h = r.ordered.0.0
    line_next _ (at_end l) r h = absurd (omega arith)

  line_less : (counter n : ℕ) (ns : List ℕ) → Line keys rows counter (n ∷ ns) → Line keys rows counter ns
  line_less counter n ns r = record { timed = r.timed.1; ordered = r.ordered.1 }

-- ---- what counts as one where a test holds

kept : (b : Bool) (n : ℕ) (ns : List ℕ) → from_bool b + length ns ≡ length (keep b n ns)
kept true n ns = omega arith
kept false n ns = omega arith

pub one_at_most : (b : Bool) → from_bool b ≤ 1
one_at_most true = omega arith
one_at_most false = omega arith

-- ---- the walk

-- it stands before n, having met so many nodes and so many retired ones: the whole level is a line exactly when what lies onward is
pub record Walking (keys rows : List ℕ) (cap counter n linked retired : ℕ) : Type 0 where
  pub stand : Walkable rows cap 0 n
  pub met : linked + length (onward rows cap 0 n) ≡ length (order_of rows cap)
  pub old : retired + length (filter (is_retired rows) (onward rows cap 0 n)) ≡ length (filter (is_retired rows) (order_of rows cap))
  pub fewer : retired ≤ linked
  pub back : Line keys rows counter (onward rows cap 0 n) → Line keys rows counter (order_of rows cap)
  pub forth : Line keys rows counter (order_of rows cap) → Line keys rows counter (onward rows cap 0 n)

module _ (keys rows : List ℕ) (cap counter : ℕ) where
  pub walking_start : Lowest rows cap → (n : ℕ) → n ≡ links rows 0 0 cap → Walking keys rows cap counter n 0 0
  walking_start s n e =
      rw e
      (record {
        stand = rw (after_place rows cap s [] (order_of rows cap) refl) (walkable_after rows cap s [] (order_of rows cap) refl);
        met = omega arith;
        old = omega arith;
        fewer = omega arith;
        back = λ r. r;
        forth = λ r. r;
      })

  module _ (n linked retired : ℕ) (w : Walking keys rows cap counter n linked retired) where
    abbrev next : ℕ
    next = links rows 0 0 n

    abbrev rest : List ℕ
    rest = onward rows cap 0 next

    module _ (l : n < cap) where
      opened : onward rows cap 0 n ≡ n ∷ rest
      opened = onward_here rows cap n w.stand l

      ahead : Line keys rows counter (order_of rows cap) → Line keys rows counter (n ∷ rest)
      ahead r = rw opened at (w.forth r)

      -- there is room for one more in the count
      pub walking_room : linked < cap
      walking_room =
          omega (arith, w.met, ap length opened, pigeon cap (order_of rows cap) w.stand.lowest.nodes w.stand.lowest.distinct)

      -- what a line has at n
      pub walking_timed : Line keys rows counter (order_of rows cap) → Timed rows counter n
      walking_timed r = (ahead r).timed.0

      pub walking_next : Line keys rows counter (order_of rows cap) → next < cap → Ordered keys rows n next
      walking_next r = line_next keys rows cap counter n next rest (begins rows cap next) (ahead r)

      -- LAW: one node further
      pub walking_on : Timed rows counter n → (next < cap → Ordered keys rows n next) → Walking keys rows cap counter next (linked + 1) (retired + from_bool (is_retired rows n))
      walking_on t o =
          record {
            stand = walk_on rows cap 0 n w.stand l;
            met = omega (arith, w.met, ap length opened);
            old = omega (arith, kept (is_retired rows n) n (filter (is_retired rows) rest), ap (λ r. length (filter (is_retired rows) r)) opened, w.old);
            fewer = omega (arith, w.fewer, one_at_most (is_retired rows n));
            back = λ r. w.back (rw opened (line_more keys rows cap counter n next rest (begins rows cap next) t o r));
            forth = λ r. line_less keys rows counter n rest (ahead r);
          }

    -- LAW: at the end the level is a line, and the counts are those of the level
    module _ (l : cap ≤ n) where
      ended : onward rows cap 0 n ≡ []
      ended = walk_end (links rows 0 0) cap cap n (inr l)

      pub walked_line : Line keys rows counter (order_of rows cap)
      walked_line = w.back (rw ended (record { timed = tt; ordered = tt }))

      pub walked_all : linked ≡ length (order_of rows cap)
      walked_all = omega (arith, w.met, ap length ended)

      pub walked_old : retired ≡ length (filter (is_retired rows) (order_of rows cap))
      walked_old = omega (arith, w.old, ap (λ r. length (filter (is_retired rows) r)) ended)

      pub walked_few : linked ≤ cap
      walked_few = omega (arith, walked_all, pigeon cap (order_of rows cap) w.stand.lowest.nodes w.stand.lowest.distinct)
