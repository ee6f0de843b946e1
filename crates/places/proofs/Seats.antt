-- Laws of seats: an entry of the free stack or of the ring more, or one that stays.
-- Assumes nothing.
use Prim.Native.Nat.{ℕ, ◌+◌, ◌<◌, ◌≤◌}
use mathlib.Core.Path.{◌≡◌, sym, ap, ◌∙◌, subst, fun_ext}
use mathlib.Core.Logic.{◌≢◌, ⊎_elim, by_cases}
use mathlib.Core.List.{List, ◌∷◌}
use native.Mathlib.Omega.{arith}
use native.Mathlib.Decide.{ℕ_discrete}
use lib.ListN.{length}
use Rattle.lists.specs.Members.{In, Distinct}
use Rattle.lists.proofs.Pigeons.{room}
use Rattle.rows.specs.Rows.{upd}
use Rattle.rows.proofs.Columns.{upd_same, upd_other}
use Rattle.places.specs.Places.{slot, Seated, Seats}
use Rattle.places.proofs.Wraps.{slot_stack}

upd_self : (g : ℕ → ℕ) (n : ℕ) → upd g n (g n) ≡ g
upd_self g n = fun_ext (λ m. by_cases (ℕ_discrete m n) (λ e. rw e (upd_same g n (g n))) (upd_other g n (g n) m))

-- the node n is at none of the k seats
abbrev pub Off : (ℕ → ℕ) → ℕ → (ℕ → ℕ) → ℕ → Type 0
Off entry k at n = (i : ℕ) → i < k → entry (at i) ≢ n

module _ (entry place seat : ℕ → ℕ) (cap p k : ℕ) (at : ℕ → ℕ) (S : Seats entry place seat cap p k at) where
  -- two seats with one node are one
  pub seats_inj : (i j : ℕ) → i < k → j < k → entry (at i) ≡ entry (at j) → at i ≡ at j
  seats_inj i j l m e = sym (S i l).back ∙ ap seat e ∙ (S j m).back

  -- no node of another place has a seat
  pub seats_other : (n : ℕ) → place n ≢ p → Off entry k at n
  seats_other n d i l e = d (rw e at (S i l).placed)

  -- LAW: seats after a change that leaves what they hold
  pub seats_keep : (entry' : ℕ → ℕ) (n q s : ℕ) → ((i : ℕ) → i < k → entry' (at i) ≡ entry (at i)) → Off entry k at n
      → Seats entry' (upd place n q) (upd seat n s) cap p k at
  seats_keep entry' n q s e d i l =
      let t = S i l in
      record {
        node = rw (e i l) t.node;
        placed = rw (e i l, upd_other place n q (entry (at i)) (d i l)) t.placed;
        back = rw (e i l, upd_other seat n s (entry (at i)) (d i l)) t.back;
      }

  -- LAW: seats after the place alone of another node changes
  pub seats_mark : (entry' : ℕ → ℕ) (n q : ℕ) → ((i : ℕ) → i < k → entry' (at i) ≡ entry (at i)) → Off entry k at n
      → Seats entry' (upd place n q) seat cap p k at
  seats_mark entry' n q e d = subst (λ (g : ℕ → ℕ). Seats entry' (upd place n q) g cap p k at) (upd_self seat n) (seats_keep entry' n q (seat n) e d)

  -- LAW: one more seat
  pub seats_push : (entry' : ℕ → ℕ) (n : ℕ) → n < cap → Off entry k at n → ((i : ℕ) → i < k → entry' (at i) ≡ entry (at i)) → entry' (at k) ≡ n
      → Seats entry' (upd place n p) (upd seat n (at k)) cap p (k + 1) at
  seats_push entry' n l d e h i j = by_cases (ℕ_discrete i k) here (λ q. seats_keep entry' n p (at k) e d i (omega arith))
    where
      here : i ≡ k → Seated entry' (upd place n p) (upd seat n (at k)) cap p (at i)
      here q =
          rw q
          (record {
            node = rw h l;
            placed = rw (h, upd_same place n p);
            back = rw (h, upd_same seat n (at k));
          })

-- LAW: where a node is not in a list of different nodes, there is room for one more
pub room_for : (cap n : ℕ) (xs : List ℕ) → Distinct xs → ((x : ℕ) → In x xs → x < cap) → n < cap → (In n xs → ⊥) → length xs < cap
room_for cap n xs d b l out =
    let r = room cap (n ∷ xs) (out, d) (λ x i. ⊎_elim (λ e. subst (λ (z : ℕ). z < cap) (sym e) l) (λ j. b x j) i) in omega arith

-- a stack is a ring whose front is 0
module _ (entry place seat : ℕ → ℕ) (cap p k : ℕ) (few : k ≤ cap) where
  pub as_ring : Seats entry place seat cap p k (λ i. i) → Seats entry place seat cap p k (slot cap 0)
  as_ring S i l = let h : i < cap = omega arith in rw (slot_stack h) (S i l)

  pub as_stack : Seats entry place seat cap p k (slot cap 0) → Seats entry place seat cap p k (λ i. i)
  as_stack S i l = let h : i < cap = omega arith in rw (slot_stack h) at (S i l)
