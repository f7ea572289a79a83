-- What lies ahead of a train, one by one, and what it asks for (SUBSET-026, 3.8, 3.11 and 3.13; this project's
-- profile). Places are centimetres, speeds metres per hour.
use Rattle.std.specs.Prelude.{◌≡◌, ℕ, ℤ, ◌≤ℤ◌, ◌<ℤ◌, Bool, true, false, Option, None, Some, IsSomeAnd, List, Contains}
use Rattle.track_store.specs.Covering.{covers}
use Rattle.areas.specs.Areas.{speed_in}
use Rattle.brakes.specs.declared.brakes.Brakes.{Brakes}
use Rattle.braking.specs.declared.target.Target.{Target}
use Rattle.braking.specs.Approaches.{Course}
use Rattle.braking.specs.Braking.{fits, fits_all}
use Rattle.speed_profile.specs.declared.reported.CategorySpeeds.{CategorySpeeds}
use Rattle.speed_profile.specs.declared.limit.Bounds.{Bounds}
use Rattle.speed_profile.specs.declared.ahead.Ahead.{Ahead}
use Rattle.speed_profile.specs.Reported.{speed_of}
use Rattle.speed_profile.specs.Ahead.{greatest_place, targets_ahead, is_inside}
use Rattle.speed_profile.specs.Track.{TrackSpeeds, speeds_along}
use Rattle.speed_supervision.specs.declared.cause.TargetAhead.{TargetAhead}
use Rattle.speed_supervision.specs.declared.cause.TargetKind.{TargetKind}
use Rattle.speed_supervision.specs.declared.cause.TargetKind.TheVariants as kind

-- a train's maximum safe front, what limits it, the speeds and the gradients along the track, and what is known of its
-- brakes
pub record Journey : Type 0 where
  pub front : ℤ
  pub bounds : Bounds
  pub track : TrackSpeeds
  pub gradient : ℤ → Option ℤ
  pub brakes : Brakes

-- that of what lies ahead, whose static speeds and gradients are read so
abbrev pub journey_by : {S G : Type 0} → (S → ℤ → Option CategorySpeeds) → (G → ℤ → Option ℤ) → Ahead S G → Journey
journey_by speeds gradients ahead = record {
  front = ahead.front;
  bounds = ahead.bounds.now;
  track = speeds_along speeds ahead.track.now;
  gradient = gradients ahead.gradient.now;
  brakes = ahead.brakes.now;
}

-- an approach to it with a speed
abbrev pub course_by : {S G : Type 0} → Ahead S G → ℕ → Course G
course_by ahead speed = record { front = ahead.front; gradient = ahead.gradient.now; brakes = ahead.brakes.now; speed = speed }

abbrev pub IsAhead : Journey → ℤ → Type 0
IsAhead journey place = (journey.front <ℤ place) × (place ≤ℤ greatest_place)

-- what is named asks for a target
abbrev pub IsOfKind : Journey → Target → TargetKind → Type 0
IsOfKind journey target kind.StaticSpeed =
    IsAhead journey target.place
    × IsSomeAnd (journey.track.static target.place) (λ speeds. target.speed ≡ speed_of speeds journey.bounds.category)
IsOfKind journey target kind.UnknownSpeed =
    IsAhead journey target.place × (journey.track.static target.place ≡ None) × (target.speed ≡ 0)
    × IsSomeAnd journey.bounds.end (λ end. target.place <ℤ end.place)
IsOfKind journey target (kind.Restriction restriction) =
    IsAhead journey target.place × Contains journey.track.restrictions.restrictions restriction
    × (covers journey.track.restrictions.mark target.place restriction ≡ true) × (target.speed ≡ restriction.speed)
IsOfKind journey target (kind.Area area) =
    IsAhead journey target.place × Contains journey.track.areas area × (is_inside target.place area ≡ true)
    × (target.speed ≡ speed_in journey.track.national area)
IsOfKind journey target kind.EndOfAuthority =
    IsSomeAnd journey.bounds.end (λ end. (target.place ≡ end.place) × (target.speed ≡ end.speed))
IsOfKind journey target kind.SupervisedLocation =
    IsSomeAnd journey.bounds.end (λ end. (target.place ≡ end.location) × (target.speed ≡ 0))

abbrev pub IsTarget : Journey → TargetAhead → Type 0
IsTarget journey ahead = IsOfKind journey ahead.target ahead.kind

-- a speed fits a target, and each of some targets
abbrev pub fits_on : Journey → Target → ℕ → Bool
fits_on journey = fits journey.front journey.gradient journey.brakes

abbrev pub fits_all_on : Journey → List Target → ℕ → Bool
fits_all_on journey = fits_all journey.front journey.gradient journey.brakes

-- all that lies ahead along the track
abbrev pub along_track : Journey → List Target
along_track journey = targets_ahead journey.front journey.bounds journey.track

-- a target ahead along the track that a speed doesn't fit
abbrev pub IsUnfit : Journey → ℕ → TargetAhead → Type 0
IsUnfit journey speed ahead =
    IsTarget journey ahead × Contains (along_track journey) ahead.target × (fits_on journey ahead.target speed ≡ false)

-- what a centimetre asks for with a static speed, or without one
abbrev pub static_kind : Option CategorySpeeds → TargetKind
static_kind None = kind.UnknownSpeed
static_kind (Some speeds) = kind.StaticSpeed

-- the target of what is named, if anything is
abbrev pub target_of : Option TargetAhead → Option Target
target_of None = None
target_of (Some ahead) = Some ahead.target
