-- `places_main::life` meets its contract: each stage of the node follows from the one before.
use Rattle.std.proofs.Common.{ℕ, ◌≡◌, ◌∙◌, List, [], ◌∷◌, length, arith, ap, sym}
use Rattle.lists.specs.Members.{In}
use borrow.Author.Tests.{eq-eqb}
use Rattle.places.specs.Places.{free_of, ring_of, first_free, first_retired}
use Rattle.places.specs.Changes.{drawn, released, retired, taken, made_present, made_pending, cleared}
use Rattle.places_main.proofs.Stages.{Stage, fresh, some_free, first_free_lem, drawn_off, after_draw, after_present, after_pending, after_retire, some_retired, first_retired_lem, taken_off, after_take, after_release}
use Rattle.places_main.proofs.life.Goals as goal

abbrev three : List ℕ
three = 1 ∷ 2 ∷ 3 ∷ []

-- The rows behind each call, from those lent on, and the nodes that were drawn and taken.
module _ (r : List ℕ) {r₁ : List ℕ} (size : length r ≡ 192) (e₁ : r₁ ≡ cleared r 4) where
  cleared_stage : Stage r₁ 0 (0 ∷ three) [] 0
  cleared_stage = rw e₁ (fresh _ (record { size = size; small = omega arith }))

  module _ {r₂ : List ℕ} {d : ℕ} (e₂ : (r₂ ≡ drawn r₁ 4) × (d ≡ first_free r₁ 4)) where
    drawn_stage : Stage r₂ 0 three [] 0
    drawn_stage = rw e₂.0 (after_draw _ _ _ _ cleared_stage)

    drawn_zero : d ≡ 0
    drawn_zero = e₂.1 ∙ first_free_lem _ _ _ _ cleared_stage

    drawn_out : In 0 (free_of r₂ 4) → ⊥
    drawn_out = rw e₂.0 (drawn_off _ _ _ _ cleared_stage)

    module _ {r₃ : List ℕ} (e₃ : r₃ ≡ made_present r₂ 4 d) where
      present_stage : Stage r₃ 1 three [] 1
      present_stage = rw (e₃, drawn_zero) (after_present _ _ _ _ drawn_stage drawn_out)

      module _ {r₄ : List ℕ} (e₄ : r₄ ≡ made_pending r₃ 4 d) where
        pending_stage : Stage r₄ 2 three [] 0
        pending_stage = rw (e₄, drawn_zero) (after_pending _ _ _ _ present_stage)

        module _ {r₅ : List ℕ} (e₅ : r₅ ≡ retired r₄ 4 d) where
          retired_stage : Stage r₅ 3 three (0 ∷ []) 0
          retired_stage = rw (e₅, drawn_zero) (after_retire _ _ _ _ pending_stage)

          module _ {r₆ : List ℕ} {t : ℕ} (e₆ : (r₆ ≡ taken r₅ 4) × (t ≡ first_retired r₅ 4)) where
            taken_stage : Stage r₆ 3 three [] 0
            taken_stage = rw e₆.0 (after_take _ _ _ _ retired_stage)

            taken_zero : t ≡ 0
            taken_zero = e₆.1 ∙ first_retired_lem _ _ _ _ retired_stage

            taken_out : In 0 (ring_of r₆ 4) → ⊥
            taken_out = rw e₆.0 (taken_off _ _ _ _ retired_stage)

            module _ {r₇ : List ℕ} (e₇ : r₇ ≡ released r₆ 4 t) where
              released_stage : Stage r₇ 0 (0 ∷ three) [] 0
              released_stage = rw (e₇, taken_zero) (after_release _ _ _ _ taken_stage taken_out)

              module _ {r₈ : List ℕ} {a : ℕ} (e₈ : (r₈ ≡ drawn r₇ 4) × (a ≡ first_free r₇ 4)) where
                again_stage : Stage r₈ 0 three [] 0
                again_stage = rw e₈.0 (after_draw _ _ _ _ released_stage)

pub draw-drawn-requires : goal.draw-drawn-requires
draw-drawn-requires c =
    let s = cleared_stage _ c.requires c.clear_places.ensures in
    (s.sized, s.kept.spares, some_free _ _ _ _ s)

pub make_present-requires : goal.make_present-requires
make_present-requires c =
    let s = drawn_stage _ c.requires c.clear_places.ensures c.draw-drawn.ensures in
    (s.sized, omega (arith, drawn_zero _ c.requires c.clear_places.ensures c.draw-drawn.ensures), omega (arith, s.present))

pub make_pending-requires : goal.make_pending-requires
make_pending-requires c =
    let s = present_stage _ c.requires c.clear_places.ensures c.draw-drawn.ensures c.make_present.ensures in
    (s.sized, omega (arith, drawn_zero _ c.requires c.clear_places.ensures c.draw-drawn.ensures), omega (arith, s.present))

pub retire-requires : goal.retire-requires
retire-requires c =
    let s = pending_stage _ c.requires c.clear_places.ensures c.draw-drawn.ensures c.make_present.ensures c.make_pending.ensures in
    (s.sized, omega (arith, drawn_zero _ c.requires c.clear_places.ensures c.draw-drawn.ensures), s.kept.front, rw s.gone (omega arith))

pub take_front-taken-requires : goal.take_front-taken-requires
take_front-taken-requires c =
    let s = retired_stage _ c.requires c.clear_places.ensures c.draw-drawn.ensures c.make_present.ensures c.make_pending.ensures c.retire.ensures in
    (s.sized, s.kept.front, some_retired _ _ _ _ s)

pub release-requires : goal.release-requires
release-requires c =
    let s = taken_stage _ c.requires c.clear_places.ensures c.draw-drawn.ensures c.make_present.ensures c.make_pending.ensures c.retire.ensures c.take_front-taken.ensures in
    let z = taken_zero _ c.requires c.clear_places.ensures c.draw-drawn.ensures c.make_present.ensures c.make_pending.ensures c.retire.ensures c.take_front-taken.ensures in
    (s.sized, omega (arith, z), rw s.frees (omega arith))

pub draw-again-requires : goal.draw-again-requires
draw-again-requires c =
    let s = released_stage _ c.requires c.clear_places.ensures c.draw-drawn.ensures c.make_present.ensures c.make_pending.ensures c.retire.ensures c.take_front-taken.ensures c.release.ensures in
    (s.sized, s.kept.spares, some_free _ _ _ _ s)

pub expect-requires : goal.expect-requires
expect-requires c = eq-eqb _ _ (drawn_zero _ c.requires c.clear_places.ensures c.draw-drawn.ensures)

pub expect-requires-2 : goal.expect-requires-2
expect-requires-2 c = eq-eqb _ _ (c.present_count-present.ensures ∙ (present_stage _ c.requires c.clear_places.ensures c.draw-drawn.ensures c.make_present.ensures).present)

pub expect-requires-3 : goal.expect-requires-3
expect-requires-3 c = eq-eqb _ _ (taken_zero _ c.requires c.clear_places.ensures c.draw-drawn.ensures c.make_present.ensures c.make_pending.ensures c.retire.ensures c.take_front-taken.ensures)

pub expect-requires-4 : goal.expect-requires-4
expect-requires-4 c =
    let s = released_stage _ c.requires c.clear_places.ensures c.draw-drawn.ensures c.make_present.ensures c.make_pending.ensures c.retire.ensures c.take_front-taken.ensures c.release.ensures in
    eq-eqb _ _ (c.free_count-free.ensures ∙ ap {B = ℕ} length s.frees)

pub expect-requires-5 : goal.expect-requires-5
expect-requires-5 c =
    let s = released_stage _ c.requires c.clear_places.ensures c.draw-drawn.ensures c.make_present.ensures c.make_pending.ensures c.retire.ensures c.take_front-taken.ensures c.release.ensures in
    eq-eqb _ _ (c.draw-again.ensures.1 ∙ first_free_lem _ _ _ _ s)

pub places_ok-requires : goal.places_ok-requires
places_ok-requires c =
    (again_stage _ c.requires c.clear_places.ensures c.draw-drawn.ensures c.make_present.ensures c.make_pending.ensures c.retire.ensures c.take_front-taken.ensures c.release.ensures c.draw-again.ensures).sized

pub expect-requires-6 : goal.expect-requires-6
expect-requires-6 c =
    c.places_ok.ensures.told
    (again_stage _ c.requires c.clear_places.ensures c.draw-drawn.ensures c.make_present.ensures c.make_pending.ensures c.retire.ensures c.take_front-taken.ensures c.release.ensures c.draw-again.ensures).kept

pub counted_ok-requires : goal.counted_ok-requires
counted_ok-requires c =
    (again_stage _ c.requires c.clear_places.ensures c.draw-drawn.ensures c.make_present.ensures c.make_pending.ensures c.retire.ensures c.take_front-taken.ensures c.release.ensures c.draw-again.ensures).sized

pub expect-requires-7 : goal.expect-requires-7
expect-requires-7 c =
    c.counted_ok.ensures.told
    (again_stage _ c.requires c.clear_places.ensures c.draw-drawn.ensures c.make_present.ensures c.make_pending.ensures c.retire.ensures c.take_front-taken.ensures c.release.ensures c.draw-again.ensures).counted

pub shape_of-rows : goal.shape_of-rows
shape_of-rows c =
    (again_stage _ c.requires c.clear_places.ensures c.draw-drawn.ensures c.make_present.ensures c.make_pending.ensures c.retire.ensures c.take_front-taken.ensures c.release.ensures c.draw-again.ensures).sized.size
    ∙ sym c.requires
