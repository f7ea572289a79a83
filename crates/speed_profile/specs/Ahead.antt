-- What lies ahead of a train and asks for a speed, and the greatest speed from which the train can still brake for all
-- of it (this project's profile). Each centimetre ahead is looked at, up to the last one that there is. Places are
-- centimetres, speeds metres per hour; lists of targets have the nearest first. A reader may take for granted that the
-- order of targets doesn't matter, and that the speeds are those of this train's category.
use Rattle.std.specs.Prelude.{ℕ, ◌^◌, ℤ, pos, ◌+ℤ◌, int_lt, Bool, not, ◌&&◌, if◌then◌else◌, Option, None, Some, List, ◌++◌, filter, map}
use Rattle.units.specs.Stretches.{over}
use Rattle.track_store.specs.Profiles.{listed}
use Rattle.track_store.specs.declared.restriction.Restriction.{Restriction}
use Rattle.track_store.specs.Covering.{covers}
use Rattle.authority.specs.declared.answers.End.{End}
use Rattle.areas.specs.declared.area.Area.{Area}
use Rattle.areas.specs.declared.area.NationalSpeeds.{NationalSpeeds}
use Rattle.areas.specs.Areas.{is_before, speed_in}
use Rattle.brakes.specs.declared.brakes.Brakes.{Brakes}
use Rattle.braking.specs.declared.target.Target.{Target}
use Rattle.braking.specs.Braking.{fits_all, greatest}
use Rattle.braking.specs.Approaches.{Course}
use Rattle.speed_profile.specs.declared.reported.CategorySpeeds.{CategorySpeeds}
use Rattle.speed_profile.specs.declared.limit.Bounds.{Bounds}
use Rattle.speed_profile.specs.Reported.{speed_of}
use Rattle.speed_profile.specs.Track.{TrackSpeeds}

-- the greatest place that there is
abbrev pub greatest_place : ℤ
greatest_place = pos (2 ^ 42)

-- a centimetre without a static speed, before the end of the authority where one is known, is to be reached at speed 0
abbrev pub unknown_target : Option End → ℤ → Option Target
unknown_target None place = None
unknown_target (Some end) place = if int_lt place end.place then Some (record { place = place; speed = 0 }) else None

-- the static speed of a centimetre for the train's category, whatever its Q_FRONT
abbrev pub static_target : Bounds → ℤ → Option CategorySpeeds → Option Target
static_target bounds place None = unknown_target bounds.end place
static_target bounds place (Some speeds) = Some (record { place = place; speed = speed_of speeds bounds.category })

abbrev pub static_targets : Bounds → (ℤ → Option CategorySpeeds) → ℤ → List Target
static_targets bounds profile place = listed (static_target bounds place (profile place))

-- the speeds of the restrictions that cover a centimetre, whatever their Q_FRONT
abbrev pub restriction_targets : ℤ → List Restriction → ℤ → List Target
restriction_targets mark restrictions place =
    map (λ restriction. record { place = place; speed = restriction.speed }) (filter (covers mark place) restrictions)

-- the speeds of the mode areas that cover a centimetre: one of no length covers none, one without end all from its
-- start on
abbrev pub is_inside : ℤ → Area → Bool
is_inside place area = not (int_lt place area.start) && is_before place area.end

abbrev pub area_targets : NationalSpeeds → List Area → ℤ → List Target
area_targets national areas place =
    map (λ area. record { place = place; speed = speed_in national area }) (filter (is_inside place) areas)

abbrev pub targets_at : Bounds → TrackSpeeds → ℤ → List Target
targets_at bounds track place =
    static_targets bounds track.static place
    ++ restriction_targets track.restrictions.mark track.restrictions.restrictions place
    ++ area_targets track.national track.areas place

-- Each centimetre ahead is a target. Only those decide where a value begins: a train that can brake for the first
-- centimetre of a speed runs at that speed or below it from there on. So `Ahead::targets` goes through the starts of the
-- static speeds and the first centimetre of each restriction and each area alone, and is proved to ask the same (clause
-- `reported`). Worked, with brakes of 70 cm/s^2 that act at once, on flat track: a stop 100,000 cm ahead lets a train run at
-- 134,699 m/h, since 134,700 squared is above 2 * 70 * 100,000 * 36^2. With 5 per mille downhill on half of the way, where
-- 5 cm/s^2 are lost, it is 132,272; on flat track with a reaction time of 1,000 ms, 3,673 cm at that speed, 132,202.

-- what each centimetre ahead of a front gives
abbrev pub over_ahead : ℤ → (ℤ → List Target) → List Target
over_ahead front f = over f (front +ℤ pos 1) greatest_place

abbrev pub targets_ahead : ℤ → Bounds → TrackSpeeds → List Target
targets_ahead front bounds track = over_ahead front (targets_at bounds track)

-- the greatest speed up to a limit that fits some targets
abbrev pub permitted_by : ℤ → (ℤ → Option ℤ) → Brakes → List Target → ℕ → ℕ
permitted_by front gradient brakes targets limit = greatest (fits_all front gradient brakes targets) limit

-- .. that fits those ahead, and a last one where it is given
abbrev pub permitted_ahead : ℤ → ℕ → Option Target → Bounds → TrackSpeeds → (ℤ → Option ℤ) → Brakes → ℕ
permitted_ahead front limit last bounds track gradient brakes =
    permitted_by front gradient brakes (targets_ahead front bounds track ++ listed last) limit

-- a train without a target yet
abbrev pub setting_out : {G : Type 0} → ℤ → ℕ → G → Brakes → Course G
setting_out front limit gradient brakes = record { front = front; gradient = gradient; brakes = brakes; speed = limit }
