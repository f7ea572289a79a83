-- A static speed profile step by step: each step has its own of the differences, after those of the steps before (this
-- project's profile).
use Rattle.std.specs.Prelude.{◌≡◌, ℕ, ◌+◌, ◌-◌, ◌<◌, ◌≤◌, List, [], ◌∷◌, length, take, drop, slice_index_or, Some}
use Rattle.std.specs.List.{AllByRecursion as Each}
use Rattle.bits.specs.Fitting.{HasNumber, Fits}
use Rattle.bits.specs.Sums.{total}
use Rattle.bits.specs.Writing.{ListedField, named, each_taken, value, taken, size}
use Rattle.bits.specs.declared.name.VariableName.TheVariants as names
use Rattle.vars.specs.Values.{static_number, delay_number}
use Rattle.vars.specs.Variables.{q_dir, q_scale, distance, v_static, q_front, n_iter}
use Rattle.packets.specs.Elements.{difference}
use Rattle.packets.specs.Layouts.{no_step}
use Rattle.packets.specs.declared.static_speeds.Difference.{Difference}
use Rattle.packets.specs.declared.static_speeds.StaticSpeeds.{StaticSpeeds}
use Rattle.packets.specs.declared.static_speeds.StaticStep.{StaticStep}

-- what becomes of s when it takes a step and its own differences
abbrev pub step_taken : {S : Type 0} → (S → ListedField → S) → StaticStep → List Difference → S → S
step_taken t step own s =
    each_taken (λ x left. taken t difference x left) own
    (t (t (t (t s (named names.DStatic 15 step.distance)) (named names.VStatic 7 (static_number step.speed))) (named names.QFront 1 (delay_number step.delay))) (named names.NIter 5 step.differences))

-- what becomes of s when it takes steps, each with its own of the differences
unfoldable pub steps_taken : {S : Type 0} → (S → ListedField → S) → List StaticStep → List Difference → S → S
steps_taken t [] ds s = s
steps_taken t (x ∷ xs) ds s = steps_taken t xs (drop x.differences ds) (step_taken t x (take x.differences ds) s)

-- the bits of a step with its own differences
abbrev pub step_size : List Difference → ℕ
step_size own = 28 + total (λ d. size difference d) own

-- the bits of steps, each with its own of the differences
unfoldable pub steps_size : List StaticStep → List Difference → ℕ
steps_size [] ds = 0
steps_size (x ∷ xs) ds = step_size (take x.differences ds) + steps_size xs (drop x.differences ds)

-- the first step, N_ITER and the other steps, each with its own of the differences
abbrev pub profile_taken : {S : Type 0} → (S → ListedField → S) → List StaticStep → List Difference → S → S
profile_taken t xs ds s =
    let first : StaticStep = slice_index_or xs 0 no_step in
    steps_taken t (drop 1 xs) (drop first.differences ds) (t (step_taken t first (take first.differences ds) s) (named names.NIter 5 (length xs - 1)))

abbrev pub profile_size : List StaticStep → List Difference → ℕ
profile_size xs ds =
    let first : StaticStep = slice_index_or xs 0 no_step in
    step_size (take first.differences ds) + (5 + steps_size (drop 1 xs) (drop first.differences ds))

-- the variables of a step have numbers
abbrev pub StepFits : StaticStep → Type 0
StepFits s = HasNumber distance s.distance × HasNumber v_static s.speed × HasNumber q_front s.delay × HasNumber n_iter s.differences

-- A profile that there are bits for has a first step, its variables have numbers, and its steps count the differences
-- that there are.
abbrev pub SpeedsFit : StaticSpeeds → Type 0
SpeedsFit p =
    HasNumber q_dir p.direction × HasNumber q_scale p.scale × (0 < length p.steps.items) × (length p.steps.items ≤ 32) × (length p.differences.items ≤ 70) × Each StepFits p.steps.items
    × Each (λ d. Fits difference d × (value difference d ≡ Some d)) p.differences.items × (total (λ (s : StaticStep). s.differences) p.steps.items ≡ length p.differences.items)
