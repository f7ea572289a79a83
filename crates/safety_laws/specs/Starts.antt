-- Which targets ahead decide the permitted speed: the starts of lower speeds (SUBSET-026, 3.11 and 3.13; what a target
-- is, and the braking formula: this project's profile). Places are centimetres, speeds metres per hour.
--
-- The definition of the limit asks for a speed at each centimetre ahead; who knows the standard looks for the starts of
-- lower speeds. Both permit the same speed, on every track and for every train. They don't say which start decides, and
-- nothing of what lies under the train: that bounds the speed before any target is asked.
use Rattle.std.specs.Prelude.{ℕ, ◌≡◌, ℤ, pos, ◌-ℤ◌, int_lt, nat_lt, Bool, true, if◌then◌else◌, Option, None, Some, List, [], ◌∷◌, ◌++◌, map}
use Rattle.std.specs.List.{filter_map}
use Rattle.authority.specs.declared.answers.End.{End}
use Rattle.brakes.specs.declared.brakes.Brakes.{Brakes}
use Rattle.braking.specs.declared.target.Target.{Target}
use Rattle.driver.specs.Limits.{Train}
use Rattle.speed_profile.specs.Ahead.{static_targets, targets_at, over_ahead, permitted_by, permitted_ahead}
use Rattle.speed_profile.specs.declared.limit.Bounds.{Bounds}
use Rattle.speed_profile.specs.Starts.{first_target, first_in_area}
use Rattle.speed_profile.specs.Track.{TrackSpeeds}
use Rattle.track_store.specs.Profiles.{listed}
use Rattle.units.specs.Stretches.{least}
use Rattle.mode_control.specs.Life.{Life}
use Rattle.mode_control.specs.Sentences.{values_of}
use Rattle.speed_supervision.specs.Limit.{limit, bounds_of, along, supervised_limit, with_release_speed}
use Rattle.safety_laws.specs.Stopping.{front_of, gradient_along, IsSupervised}

-- ---- the start of a lower speed

-- the least speed that the targets of a centimetre ask for; from centimetre to centimetre, their most restrictive speed
-- profile
abbrev pub least_requested : List Target → Option ℕ
least_requested [] = None
least_requested (target ∷ targets) = Some (least target.speed (map (λ other. other.speed) targets))

-- .. those of the centimetre before a place, where that one lies ahead of the front too
abbrev pub requested_before : ℤ → (ℤ → List Target) → ℤ → Option ℕ
requested_before front requested place =
    if int_lt front (place -ℤ pos 1) then least_requested (requested (place -ℤ pos 1)) else None

-- a speed is lower than the one before it; where none was asked for, each is
abbrev pub is_lower : Option ℕ → ℕ → Bool
is_lower None speed = true
is_lower (Some before) speed = nat_lt speed before

-- a target at a place, where its speed is lower than the one before
abbrev pub lower_start : ℤ → Option ℕ → Option ℕ → Option Target
lower_start place before None = None
lower_start place before (Some speed) =
    if is_lower before speed then Some (record { place = place; speed = speed }) else None

-- the starts of lower speeds ahead of a front, of what each centimetre asks for
abbrev pub lower_starts : ℤ → (ℤ → List Target) → List Target
lower_starts front requested =
    over_ahead front (λ place. listed (lower_start place (requested_before front requested place) (least_requested (requested place))))

-- ---- they decide, with the last target

-- of all kinds together: a place where the speed isn't lower than just before never decides
abbrev pub StartsDecide : Type 0
StartsDecide =
    (front : ℤ) (bound : ℕ) (last : Option Target) (bounds : Bounds) (track : TrackSpeeds) (gradient : ℤ → Option ℤ) (brakes : Brakes) →
    permitted_ahead front bound last bounds track gradient brakes
    ≡ permitted_by front gradient brakes (lower_starts front (targets_at bounds track) ++ listed last) bound

-- of each kind by itself: the starts of lower static speeds, and where each restriction and each mode area begins ahead
abbrev pub starts_by_kind : ℤ → Bounds → TrackSpeeds → List Target
starts_by_kind front bounds track =
    lower_starts front (static_targets bounds track.static)
    ++ filter_map (first_target front track.restrictions.mark) track.restrictions.restrictions
    ++ filter_map (first_in_area front track.national) track.areas

abbrev pub StartsByKindDecide : Type 0
StartsByKindDecide =
    (front : ℤ) (bound : ℕ) (last : Option Target) (bounds : Bounds) (track : TrackSpeeds) (gradient : ℤ → Option ℤ) (brakes : Brakes) →
    permitted_ahead front bound last bounds track gradient brakes
    ≡ permitted_by front gradient brakes (starts_by_kind front bounds track ++ listed last) bound

-- ---- in a life

abbrev pub starts_of : Life → Train → List Target
starts_of life train = lower_starts (front_of life) (targets_at (bounds_of life train) (along life))

-- the greatest speed, up to what the track under the train allows, from which it can brake for each of them and for a
-- last target
abbrev pub braking_limit : Life → Train → Option Target → ℕ
braking_limit life train last =
    permitted_by (front_of life) (gradient_along life) train.brakes (starts_of life train ++ listed last)
    (supervised_limit life train)

-- the limit in Full Supervision and On Sight
abbrev pub LimitByStarts : Type 0
LimitByStarts = (life : Life) (train : Train) (end : End) → IsSupervised life train end →
    limit life ≡ with_release_speed (braking_limit life train) end (values_of life).release
