-- What decides the permitted speed (SUBSET-026, 3.11 to 3.13; this project's profile). Places are centimetres, speeds
-- metres per hour.
use Rattle.std.specs.Prelude.{◌≡◌, ℕ, ◌<◌, ◌≤◌, Option, Some, IsSomeAnd}
use Rattle.units.specs.Stretches.{Span}
use Rattle.authority.specs.declared.answers.End.{End}
use Rattle.authority.specs.declared.answers.Release.{Release}
use Rattle.braking.specs.declared.target.Target.{Target}
use Rattle.braking.specs.Braking.{greatest}
use Rattle.speed_profile.specs.Ahead.{permitted_ahead}
use Rattle.speed_profile.specs.Limit.{limit_on}
use Rattle.speed_supervision.specs.declared.cause.SpeedCause.{SpeedCause}
use Rattle.speed_supervision.specs.declared.cause.TargetAhead.{TargetAhead}
use Rattle.speed_supervision.specs.declared.cause.SpeedCause.TheVariants as cause
use Rattle.speed_supervision.specs.declared.cause.TargetKind.{TargetKind}
use Rattle.speed_supervision.specs.declared.cause.TargetKind.TheVariants as kind
use Rattle.speed_supervision.specs.Limit.{the_end, the_supervised_location, release_speed, released_by}
use Rattle.speed_supervision.specs.Over.{IsOver, IsFirstOver}
use Rattle.speed_supervision.specs.Targets.{Journey, IsTarget, fits_on}

-- the limit where the train is
abbrev pub limit_here : Span → Journey → ℕ
limit_here train journey = limit_on train journey.bounds journey.track

-- .. and up to that the greatest speed from which it can brake for all that lies ahead, and for a last target
abbrev pub permitted_to : Span → Journey → Option Target → ℕ
permitted_to train journey last =
    permitted_ahead journey.front (limit_here train journey) last journey.bounds journey.track journey.gradient journey.brakes

-- the permitted speed, by the release rule
abbrev pub permitted_on : Span → Journey → ℕ → ℕ
permitted_on train journey national = released_by (permitted_to train journey) journey.bounds.end national

-- a target alone lowers a limit to a speed: the train can brake for it from that speed, and from no greater one up to
-- the limit; 0 where it can from none
abbrev pub LowersTo : Journey → ℕ → ℕ → TargetAhead → Type 0
LowersTo journey limit speed ahead =
    IsTarget journey ahead × (speed < limit) × (greatest (fits_on journey ahead.target) limit ≡ speed)

-- which of equal force is named: static speeds first, known or not, then restrictions, mode areas, the end of authority,
-- and the supervised location
abbrev pub order_of : TargetKind → ℕ
order_of kind.StaticSpeed = 0
order_of kind.UnknownSpeed = 0
order_of (kind.Restriction restriction) = 1
order_of (kind.Area area) = 2
order_of kind.EndOfAuthority = 3
order_of kind.SupervisedLocation = 4

-- a target lowers a limit to a speed, and none that does comes before it
abbrev pub IsDeciding : Journey → ℕ → ℕ → TargetAhead → Type 0
IsDeciding journey limit speed ahead =
    LowersTo journey limit speed ahead
    × ((other : TargetAhead) → LowersTo journey limit speed other → order_of ahead.kind ≤ order_of other.kind)

-- the end of authority, or a last target that it doesn't come before
abbrev pub IsLast : Journey → ℕ → ℕ → TargetAhead → Type 0
IsLast journey limit speed last =
    IsTarget journey last
    × ((other : TargetAhead) → LowersTo journey limit speed other → order_of kind.EndOfAuthority ≤ order_of other.kind
    → order_of last.kind ≤ order_of other.kind)

-- .. as a release speed does, where the end of authority alone would give less, and the supervised location more
abbrev pub IsReleasing : Span → Journey → ℕ → ℕ → Release → End → Type 0
IsReleasing train journey national speed release end =
    (end.release ≡ release) × (release_speed release national ≡ speed) × (permitted_to train journey (Some (the_end end)) < speed)
    × (speed < permitted_to train journey (Some (the_supervised_location end)))

-- what is named alone gives a speed: it limits the train to it where it is, or it is a target ahead, each as the first of
-- equal force; or it is a release speed
abbrev pub IsCause : Span → Journey → ℕ → ℕ → SpeedCause → Type 0
IsCause train journey national speed (cause.OverTrain over) =
    IsOver train journey.bounds journey.track speed over × IsFirstOver train journey.bounds journey.track speed over
IsCause train journey national speed (cause.Ahead ahead) = IsDeciding journey (limit_here train journey) speed ahead
IsCause train journey national speed (cause.Release release) =
    IsSomeAnd journey.bounds.end (IsReleasing train journey national speed release)
