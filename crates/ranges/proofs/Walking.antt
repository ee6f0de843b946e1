-- The walk of a range along the lowest level, as the code makes it: what was handed out, with what is ahead, is all that the range may rest on.
-- Assumes nothing.
use mathlib.Core.Path.{◌≡◌, refl, sym, ap, ◌∙◌}
use mathlib.Core.Logic.{⊎_elim}
use mathlib.Core.Bool.{Bool, true, false, cond}
use mathlib.Core.List.{List, [], ◌∷◌, ◌++◌, map, append_assoc, append-nil}
use Prim.Native.Nat.{ℕ, zero, suc, ◌≤◌, ◌<◌, ◌+◌}
use native.Mathlib.Omega.{arith}
use lib.ListN.{length, get_or, set, drop, length-append, length-map, length-take, drop_of_length-le}
use lib.Seq.{take_all, take_at, drop_at, drop-append_seam}
use lib.Dec.{leb, ltb}
use lib.IntN.{ℤ, pos}
use borrow.Author.Tests.{le-leb, lt-leb, le-ltb, ltb-true}
use Rattle.lists.specs.Holds.{All}
use Rattle.lists.specs.Filters.{filter, head_or, empty}
use Rattle.lists.specs.Buffers.{written}
use Rattle.lists.proofs.Holding.{all_imp, all_append, pairwise_right}
use Rattle.lists.proofs.Filtering.{filter_yes, filter_no, filter_append, filter_all, filter_none, all_filter, last_append}
use Rattle.lists.proofs.Splits.{in_split}
use Rattle.lists.proofs.Writing.{written_none, written_length, written_append, written_one}
use Rattle.sizes.specs.Rank.{key_of}
use Rattle.rows.specs.Rows.{links}
use Rattle.levels.specs.Levels.{walk, onward, order_of}
use Rattle.levels.specs.Nearest.{Walkable}
use Rattle.levels.proofs.Orders.{link_part, onward_part}
use Rattle.levels.proofs.Nearing.{walk_on, walk_less}
use Rattle.ranges.specs.declared.Walked.{Walked}
use Rattle.ranges.specs.Walk.{may_rest, Walk, stops, needed, handed, finished, keys_of, values_of, WalkReady, WalkedBy}
use Rattle.ranges.proofs.Mapping.{map_snoc, filter_shorter}

-- ---- along the lowest level (laws that belong to `levels`)

-- beyond the last node nothing lies onward
pub onward_end : (rows : List ℕ) (cap d m : ℕ) → cap ≤ m → onward rows cap d m ≡ []
unfolding walk
onward_end rows zero d m h = refl
onward_end rows (suc cap) d m h = rw (le-ltb m (suc cap) h)

-- what lies onward are nodes, and no more than there are
pub onward_nodes : (next : ℕ → ℕ) (cap f m : ℕ) → All (λ n. n < cap) (walk next cap f m) × (length (walk next cap f m) ≤ f)
unfolding walk
onward_nodes next cap zero m = (tt, omega arith)
onward_nodes next cap (suc f) m = go (ltb m cap) refl (onward_nodes next cap f (next m))
  where
    go : (b : Bool) → ltb m cap ≡ b → All (λ n. n < cap) (walk next cap f (next m)) × (length (walk next cap f (next m)) ≤ f)
        → All (λ n. n < cap) (cond b (m ∷ walk next cap f (next m)) []) × (length (cond b (m ∷ walk next cap f (next m)) []) ≤ suc f)
    go true e h = ((ltb-true m cap e, h.0), omega (arith, h.1))
    go false e h = (tt, omega arith)

-- the order behind a node
pub record Behind (rows : List ℕ) (cap m : ℕ) : Type 0 where
  pub front : List ℕ
  pub whole : order_of rows cap ≡ front ++ m ∷ onward rows cap 0 (links rows 0 0 m)
  pub here : onward rows cap 0 m ≡ m ∷ onward rows cap 0 (links rows 0 0 m)

pub behind : (rows : List ℕ) (cap m : ℕ) → Walkable rows cap 0 m → m < cap → Behind rows cap m
behind rows cap m s l =
    let p = ⊎_elim (in_split m (order_of rows cap)) (λ e. absurd (omega arith)) s.on in
    let past : order_of rows cap ≡ (p.front ++ m ∷ []) ++ p.back = p.whole ∙ sym (append_assoc p.front (m ∷ []) p.back) in
    let next : links rows 0 0 m ≡ head_or p.back (cap + 1) =
    ap (links rows 0 0) (sym (last_append cap p.front (m ∷ []))) ∙ link_part rows cap s.lowest 0 (omega arith) (p.front ++ m ∷ []) p.back past in
    let rest : onward rows cap 0 (links rows 0 0 m) ≡ p.back = ap (onward rows cap 0) next ∙ onward_part rows cap s.lowest 0 (omega arith) (p.front ++ m ∷ []) p.back past in
    record {
      front = p.front;
      whole = rw rest p.whole;
      here = rw rest (onward_part rows cap s.lowest 0 (omega arith) p.front (m ∷ p.back) p.whole);
    }

-- ---- the buffers

-- what is laid at the front, and all else as it was
pub written_front : (out xs : List ℤ) → written out 0 xs ≡ xs ++ drop (length xs) out
unfolding written
written_front out xs = let e : 0 + length xs ≡ length xs = omega arith in rw e

-- LAW: one more element behind those at the front
pub written_more : (out xs : List ℤ) (i : ℕ) (y : ℤ) → length xs ≡ i → i < length out → set (written out 0 xs) i y ≡ written out 0 (xs ++ (y ∷ []))
written_more out xs i y e h =
    let l : length (written out 0 xs) ≡ length out = written_length out 0 xs (omega arith) in
    let q : i ≡ 0 + length xs = omega arith in
    written_one (written out 0 xs) i y (omega arith) ∙ rw q (written_append out 0 xs (y ∷ []) (omega arith))

-- ---- the walk

-- LAW: it hands out no more than there are nodes
pub walked_few : {keys : List ℕ} {values : List ℤ} {rows : List ℕ} {w : Walk} {room : ℕ} {ks vs ks' vs' : List ℤ} {r : Walked}
    → WalkedBy keys values rows w room ks vs ks' vs' r → r.count ≤ length keys
walked_few {keys} {values} {rows} {w} {room} {ks} {vs} {ks'} {vs'} {r} h =
    omega (
      arith,
      h.count,
      length-take room (needed keys rows w),
      filter_shorter (λ n. leb (get_or keys n 0) w.high) (stops keys rows w),
      filter_shorter (may_rest rows w.version) (onward rows (length keys) 0 w.rest),
      (onward_nodes (links rows 0 0) (length keys) (length keys) w.rest).1,
    )

-- LAW: what it hands out stands in the buffers
pub walked_laid : {keys : List ℕ} {values : List ℤ} {rows : List ℕ} {w : Walk} {room : ℕ} {ks vs ks' vs' : List ℤ} {r : Walked}
    → WalkedBy keys values rows w room ks vs ks' vs' r → (r.count ≤ length ks') × (r.count ≤ length vs')
walked_laid {keys} {values} {rows} {w} {room} {ks} {vs} {ks'} {vs'} {r} h =
    (rw (h.count, h.keys_out) (long ks (handed keys rows w room) _), rw (h.count, h.values_out) (long vs (handed keys rows w room) _))
  where
    long : (out : List ℤ) (ns : List ℕ) (f : ℕ → ℤ) → length ns ≤ length (written out 0 (map f ns))
    long out ns f =
        omega (arith, length-map ns f, ap length (written_front out (map f ns)), length-append (map f ns) (drop (length (map f ns)) out))

-- LAW: the nodes that it may rest on are nodes
pub stops_nodes : (keys rows : List ℕ) (w : Walk) → All (λ n. n < length keys) (stops keys rows w)
stops_nodes keys rows w =
    all_filter (λ n. n < length keys) (may_rest rows w.version) (onward rows (length keys) 0 w.rest)
    (onward_nodes (links rows 0 0) (length keys) (length keys) w.rest).0

module _ (keys : List ℕ) (values : List ℤ) (rows : List ℕ) (w : Walk) (room : ℕ) (ks₀ vs₀ : List ℤ) where
  abbrev cap : ℕ
  cap = length keys

  -- the nodes at m and after it that the range may rest on
  abbrev pub stops_at : ℕ → List ℕ
  stops_at m = filter (may_rest rows w.version) (onward rows cap 0 m)

  -- the nodes `gone` were handed out, i of them, and the walk stands on m
  pub record Going (ks vs : List ℤ) (m i : ℕ) : Type 0 where
    pub gone : List ℕ
    pub walkable : Walkable rows cap 0 m
    pub split : stops keys rows w ≡ gone ++ stops_at m
    pub inside : All (λ n. leb (get_or keys n 0) w.high ≡ true) gone
    pub size : length gone ≡ i
    pub fits : i ≤ room
    pub keys_out : ks ≡ written ks₀ 0 (keys_of keys gone)
    pub values_out : vs ≡ written vs₀ 0 (values_of values gone)

  -- LAW: the walk begins
  pub going_start : WalkReady keys values rows w.rest → Going ks₀ vs₀ w.rest 0
  going_start ready =
      record {
        gone = [];
        walkable = ready.walkable;
        split = refl;
        inside = tt;
        size = refl;
        fits = omega arith;
        keys_out = sym (written_none ks₀ 0);
        values_out = sym (written_none vs₀ 0);
      }

  module _ (ks vs : List ℤ) (m i : ℕ) (g : Going ks vs m i) where
    abbrev v : ℕ
    v = w.version

    module _ (l : m < cap) where
      abbrev next : ℕ
      next = links rows 0 0 m

      b : Behind rows cap m
      b = behind rows cap m g.walkable l

      -- LAW: the measure falls
      pub going_less : length (onward rows cap 0 next) < length (onward rows cap 0 m)
      going_less = walk_less rows cap 0 m g.walkable l

      -- LAW: past a node that the range may not rest on
      pub going_skip : may_rest rows v m ≡ false → Going ks vs next i
      going_skip e =
          record {
            gone = g.gone;
            walkable = walk_on rows cap 0 m g.walkable l;
            split = g.split ∙ ap (g.gone ++◌) (ap (filter (may_rest rows v)) b.here ∙ filter_no (may_rest rows v) m (onward rows cap 0 next) e);
            inside = g.inside;
            size = g.size;
            fits = g.fits;
            keys_out = g.keys_out;
            values_out = g.values_out;
          }

      stops_here : may_rest rows v m ≡ true → stops_at m ≡ m ∷ stops_at next
      stops_here e = ap (filter (may_rest rows v)) b.here ∙ filter_yes (may_rest rows v) m (onward rows cap 0 next) e

      -- LAW: a node that the range needs is handed out
      pub going_take : may_rest rows v m ≡ true → get_or keys m 0 ≤ w.high → i < room → room ≤ length ks₀ → room ≤ length vs₀
          → Going (set ks i (key_of (get_or keys m 0))) (set vs i (get_or values m (pos 0))) next (i + 1)
      going_take e h r f f' =
          record {
            gone = g.gone ++ (m ∷ []);
            walkable = walk_on rows cap 0 m g.walkable l;
            split = g.split ∙ (ap (g.gone ++◌) (stops_here e) ∙ sym (append_assoc g.gone (m ∷ []) (stops_at next)));
            inside = all_append (λ n. leb (get_or keys n 0) w.high ≡ true) g.gone (m ∷ []) g.inside (le-leb (get_or keys m 0) w.high h, tt);
            size = length-append g.gone (m ∷ []) ∙ ap (◌+ 1) g.size;
            fits = omega arith;
            keys_out = more (λ n. key_of (get_or keys n 0)) ks ks₀ f g.keys_out;
            values_out = more (λ n. get_or values n (pos 0)) vs vs₀ f' g.values_out;
          }
        where
          more : (f : ℕ → ℤ) (out out₀ : List ℤ) → room ≤ length out₀ → out ≡ written out₀ 0 (map f g.gone) → set out i (f m) ≡ written out₀ 0 (map f (g.gone ++ (m ∷ [])))
          more f out out₀ u q =
              rw q
              (written_more out₀ (map f g.gone) i (f m) (length-map g.gone f ∙ g.size) (omega arith)
              ∙ ap (written out₀ 0) (sym (map_snoc f g.gone m)))

    -- ---- where it ends

    need : needed keys rows w ≡ g.gone ++ filter (λ n. leb (get_or keys n 0) w.high) (stops_at m)
    need =
        ap (filter (λ n. leb (get_or keys n 0) w.high)) g.split
        ∙ (filter_append (λ n. leb (get_or keys n 0) w.high) g.gone (stops_at m)
        ∙ ap (◌++ filter (λ n. leb (get_or keys n 0) w.high) (stops_at m)) (filter_all (λ n. leb (get_or keys n 0) w.high) g.gone g.inside))

    ended : (f : Bool) (x : ℕ) → handed keys rows w room ≡ g.gone → finished keys rows w room ≡ f → head_or (stops_at m) (cap + 1) ≡ x
        → WalkedBy keys values rows w room ks₀ vs₀ ks vs (record { count = i; finished = f; rest = x })
    ended f x e q h =
        record {
          count = rw e (sym g.size);
          ended = sym q;
          rest = rw e (sym h ∙ ap (λ r. head_or r (cap + 1)) (sym (drop-append_seam g.gone (stops_at m)) ∙ ap (drop (length g.gone)) (sym g.split)));
          keys_out = rw e g.keys_out;
          values_out = rw e g.values_out;
        }

    none_more : (x : ℕ) → filter (λ n. leb (get_or keys n 0) w.high) (stops_at m) ≡ [] → head_or (stops_at m) (cap + 1) ≡ x
        → WalkedBy keys values rows w room ks₀ vs₀ ks vs (record { count = i; finished = true; rest = x })
    none_more x e h =
        let n : needed keys rows w ≡ g.gone = need ∙ rw e (append-nil g.gone) in
        let f : length g.gone ≤ room = omega (arith, g.size, g.fits) in
        ended true x (rw n (take_all room g.gone f)) (rw n (ap empty (drop_of_length-le g.gone f))) h

    -- LAW: no more nodes
    pub going_tail : cap ≤ m → WalkedBy keys values rows w room ks₀ vs₀ ks vs (record { count = i; finished = true; rest = cap + 1 })
    going_tail h =
        let e : stops_at m ≡ [] = ap (filter (may_rest rows v)) (onward_end rows cap 0 m h) in
        none_more (cap + 1) (ap (filter (λ n. leb (get_or keys n 0) w.high)) e) (ap (λ r. head_or r (cap + 1)) e)

    module _ (l : m < cap) (e : may_rest rows v m ≡ true) where
      -- LAW: past the bounds
      pub going_high : WalkReady keys values rows w.rest → w.high < get_or keys m 0 → WalkedBy keys values rows w room ks₀ vs₀ ks vs (record { count = i; finished = true; rest = m })
      going_high ready h =
          let p = b l in
          let rises : All (λ n. get_or keys m 0 ≤ get_or keys n 0) (onward rows cap 0 (links rows 0 0 m)) =
          (pairwise_right (λ x y. get_or keys x 0 ≤ get_or keys y 0) p.front (m ∷ onward rows cap 0 (links rows 0 0 m)) (rw p.whole at ready.rising)).0 in
          let over : All (λ n. leb (get_or keys n 0) w.high ≡ false) (m ∷ stops_at (links rows 0 0 m)) = (
            lt-leb (get_or keys m 0) w.high h,
            all_filter (λ n. leb (get_or keys n 0) w.high ≡ false) (may_rest rows v) (onward rows cap 0 (links rows 0 0 m))
                (all_imp (λ n. get_or keys m 0 ≤ get_or keys n 0) (λ n. leb (get_or keys n 0) w.high ≡ false) (λ n u. lt-leb (get_or keys n 0) w.high (omega arith)) (onward rows cap 0 (links rows 0 0 m)) rises),
          ) in
          none_more m (rw (stops_here l e) (filter_none (λ n. leb (get_or keys n 0) w.high) (m ∷ stops_at (links rows 0 0 m)) over)) (ap (λ r. head_or r (cap + 1)) (stops_here l e))

      -- LAW: no more room
      pub going_full : get_or keys m 0 ≤ w.high → room ≤ i → WalkedBy keys values rows w room ks₀ vs₀ ks vs (record { count = i; finished = false; rest = m })
      going_full h f =
          let z : filter (λ n. leb (get_or keys n 0) w.high) (stops_at m) ≡ m ∷ filter (λ n. leb (get_or keys n 0) w.high) (stops_at (links rows 0 0 m)) =
          ap (filter (λ n. leb (get_or keys n 0) w.high)) (stops_here l e) ∙ filter_yes (λ n. leb (get_or keys n 0) w.high) m (stops_at (links rows 0 0 m)) (le-leb (get_or keys m 0) w.high h) in
          let n : needed keys rows w ≡ g.gone ++ m ∷ filter (λ n. leb (get_or keys n 0) w.high) (stops_at (links rows 0 0 m)) = need ∙ ap (g.gone ++◌) z in
          let s : length g.gone ≡ room = omega (arith, g.size, g.fits) in
          ended false m (rw n (take_at g.gone _ room s)) (rw n (ap empty (drop_at g.gone _ room s))) (ap (λ r. head_or r (cap + 1)) (stops_here l e))
