-- Each accepted call, as the change that it makes: what code that makes the change is compared with. A refused call is `refuses` of PlainMap.
-- Assumes nothing.
use mathlib.Core.Path.{◌≡◌}
use mathlib.Core.Bool.{false}
use mathlib.Core.List.{List, ◌∷◌}
use mathlib.Core.Option.{none, some}
use Prim.Native.Nat.{ℕ, suc}
use lib.ListN.{length}
use lib.Dec.{leb, ltb, eqb}
use lib.IntN.{ℤ}
use lib.Signed.{lt_z}
use Rattle.lists.specs.Filters.{filter, first, last, lacks}
use Rattle.model.specs.Plain.{get, between}
use Rattle.model.specs.Calls.{insert, remove, hand_over, fast, «open», step, close, sweep, ranged, swept}
use Rattle.model.specs.Model.{pending, Node, is, holds, Range, State, plain, fast_limit, tickets, last_version, inserting, linking, leaving, unseen, hand_place, handing, ranging, opening, named, range, ahead, left, stepping, close_from, closing, sweeping, freeing, apply}

module _ (s : State) where
  pub insert_links : (k v : ℤ) (coin i : ℕ) (is' : List ℕ) → get k (plain s) ≡ none → s.free ≡ i ∷ is' → apply s (insert k v coin) ≡ linking s k v coin i is'
  unfolding apply inserting
  insert_links k v coin i is' e f = rw (e, f)

  pub remove_leaves : (k : ℤ) (n : Node) → first (filter (holds k) s.order) ≡ some n → apply s (remove k) ≡ leaving s k n.number
  unfolding apply
  remove_leaves k n e = rw e

  pub hand_goes : (i r : ℕ) (n : Node) → first (filter (is i) s.order) ≡ some n → n.place ≡ pending r
      → apply s (hand_over i) ≡ handing s i r (unseen n.inserted (last s.ranges))
  unfolding apply hand_place
  hand_goes i r n e p = rw (e, p)

  pub fast_gives : (l h : ℤ) (room : ℕ) → lt_z h l ≡ false → ltb fast_limit (length (between l h (plain s))) ≡ false → ltb room (length (between l h (plain s))) ≡ false
      → apply s (fast l h room) ≡ (s, ranged (between l h (plain s)))
  unfolding apply ranging
  fast_gives l h room a b c = rw (a, b, c)

  pub open_begins : (l h : ℤ) → lt_z h l ≡ false → leb tickets (length s.ranges) ≡ false → leb last_version s.counter ≡ false
      → apply s («open» l h) ≡ opening s (suc s.counter) l h
  unfolding apply
  open_begins l h a b c = rw (a, b, c)

  pub step_moves : (v room : ℕ) (r : Range) → range v s.ranges ≡ some r → eqb room 0 ≡ false
      → apply s (step v room) ≡ stepping s v room (ahead r s.order) (left r s.order)
  unfolding apply
  step_moves v room r e f = rw (e, f)

  pub close_ends : (v : ℕ) (r : Range) (rs : List Range) → s.ranges ≡ r ∷ rs → lacks (range v (r ∷ rs)) ≡ false → apply s (close v) ≡ closing s v r rs (named v r)
  unfolding apply close_from
  close_ends v r rs e f = rw (e, f)

  pub sweep_none : s.due ≡ 0 → apply s sweep ≡ (s, swept 0 0)
  unfolding apply sweeping
  sweep_none e = rw e

  pub sweep_frees : (d i : ℕ) (q : List ℕ) → s.due ≡ suc d → s.queue ≡ i ∷ q → apply s sweep ≡ freeing s d i q
  unfolding apply sweeping
  sweep_frees d i q e f = rw (e, f)
