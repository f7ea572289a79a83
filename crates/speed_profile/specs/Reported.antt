-- What packets 21 and 27 mean on the track (SUBSET-026, 3.11.3; 7.4.2). Places are centimetres, speeds metres per hour,
-- gradients per mille.
use Rattle.std.specs.Prelude.{ℕ, ◌*◌, ◌==◌, ◌&&◌, not, ℤ, pos, ◌+ℤ◌, if◌then◌else◌, Option, None, Some, List, [], ◌∷◌, map, take, drop, slice_index}
use Rattle.std.specs.List.{range_with_len}
use Rattle.vars.specs.Meanings.{centimetres_of, signed_permille}
use Rattle.vars.specs.declared.scale.Scale.{Scale}
use Rattle.vars.specs.declared.restriction.TrainLengthDelay.{TrainLengthDelay}
use Rattle.vars.specs.declared.special_speed.StaticSpeed.{StaticSpeed}
use Rattle.vars.specs.declared.special_speed.StaticSpeed.TheVariants.{Speed, End}
use Rattle.packets.specs.declared.gradients.Gradient.{Gradient}
use Rattle.packets.specs.declared.gradients.Gradients.{Gradients}
use Rattle.packets.specs.declared.static_speeds.Difference.{Difference}
use Rattle.packets.specs.declared.static_speeds.StaticStep.{StaticStep}
use Rattle.packets.specs.declared.static_speeds.StaticSpeeds.{StaticSpeeds}
use Rattle.track_store.specs.declared.profile.Step.{Step}
use Rattle.track_store.specs.Facts.{Fact}
use Rattle.speed_profile.specs.declared.reported.CategorySpeeds.{CategorySpeeds}

-- the speed for trains of a category
abbrev pub speed_of : CategorySpeeds → ℕ → ℕ
speed_of speeds category = slice_index speeds.speeds category

-- the place of the first step; without one, another place
abbrev pub first_place : {A : Type 0} → ℤ → List (Step A) → ℤ
first_place place [] = place
first_place place (step ∷ steps) = step.place

-- ---- packet 21

-- the gradient of an element, uphill positive; a steepness of 255 ends the profile
abbrev pub gradient_value : Gradient → Option ℤ
gradient_value element =
    if element.steepness == 255 then None else Some (signed_permille element.direction element.steepness)

-- each distance counts from the element before
abbrev pub gradient_steps_from : Scale → ℤ → List Gradient → List (Step ℤ)
gradient_steps_from scale place [] = []
gradient_steps_from scale place (element ∷ elements) =
    let at = place +ℤ pos (element.distance * centimetres_of scale) in
    record { place = at; value = gradient_value element } ∷ gradient_steps_from scale at elements

-- the first distance counts from a place
abbrev pub gradient_steps : ℤ → Gradients → List (Step ℤ)
gradient_steps place packet = gradient_steps_from packet.scale place packet.gradients.items

abbrev pub gradient_fact : ℤ → Gradients → Fact ℤ
gradient_fact place packet =
    record { start = first_place place (gradient_steps place packet); steps = gradient_steps place packet }

-- ---- packet 27

-- the speed for a category: that of the first of its differences, else the basic one; category 15 is none
abbrev pub speed_for : ℕ → List Difference → ℕ → ℕ
speed_for basic [] category = basic
speed_for basic (difference ∷ differences) category =
    if (difference.category == category) && not (category == 15)
    then 5_000 * difference.speed
    else speed_for basic differences category

-- the speeds for the categories from 0 to 15
abbrev pub speeds_for : ℕ → List Difference → List ℕ
speeds_for basic differences = map (λ category. speed_for basic differences category) (range_with_len 0 16)

-- a static speed, with some differences and Q_FRONT; V_STATIC 127 ends the profile
abbrev pub speed_reported : StaticSpeed → List Difference → TrainLengthDelay → Option CategorySpeeds
speed_reported End differences delay = None
speed_reported (Speed step) differences delay = Some (record { speeds = speeds_for (5_000 * step) differences; delay = delay })

abbrev pub speed_value : StaticStep → List Difference → Option CategorySpeeds
speed_value element differences = speed_reported element.speed differences element.delay

-- each distance counts from the element before, and each element takes its own differences from the front of those that
-- are left
abbrev pub speed_steps_from : Scale → ℤ → List StaticStep → List Difference → List (Step CategorySpeeds)
speed_steps_from scale place [] differences = []
speed_steps_from scale place (element ∷ elements) differences =
    let at = place +ℤ pos (element.distance * centimetres_of scale) in
    record { place = at; value = speed_value element (take element.differences differences) }
    ∷ speed_steps_from scale at elements (drop element.differences differences)

-- the first distance counts from a place
abbrev pub speed_steps : ℤ → StaticSpeeds → List (Step CategorySpeeds)
speed_steps place packet = speed_steps_from packet.scale place packet.steps.items packet.differences.items

abbrev pub speed_fact : ℤ → StaticSpeeds → Fact CategorySpeeds
speed_fact place packet =
    record { start = first_place place (speed_steps place packet); steps = speed_steps place packet }
