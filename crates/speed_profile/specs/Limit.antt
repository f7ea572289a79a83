-- The speed that holds where the train is (this project's profile). Places are centimetres, speeds metres per hour.
use Rattle.std.specs.Prelude.{ℕ, nat_lt, ℤ, int_lt, Bool, true, not, ◌&&◌, if◌then◌else◌, Option, None, Some, List}
use Rattle.units.specs.Stretches.{Span, over, least}
use Rattle.vars.specs.declared.restriction.TrainLengthDelay.{TrainLengthDelay}
use Rattle.vars.specs.declared.restriction.TrainLengthDelay.TheVariants.{Applied, NotApplied}
use Rattle.track_store.specs.Profiles.{listed, lesser}
use Rattle.track_store.specs.Restrictions.{least_speed}
use Rattle.authority.specs.declared.answers.End.{End}
use Rattle.areas.specs.Areas.{least_speed as least_in_areas}
use Rattle.speed_profile.specs.declared.reported.CategorySpeeds.{CategorySpeeds}
use Rattle.speed_profile.specs.declared.limit.Bounds.{Bounds}
use Rattle.speed_profile.specs.Reported.{speed_of}
use Rattle.speed_profile.specs.Track.{TrackSpeeds}

-- a static speed counts at a centimetre: with the train length delay everywhere, without it from the minimum safe front
-- on
abbrev pub counts_at : ℤ → ℤ → TrainLengthDelay → Bool
counts_at min_front place Applied = true
counts_at min_front place NotApplied = not (int_lt place min_front)

-- the static speed that limits a train of a category at a centimetre
abbrev pub limiting_value : ℕ → ℤ → ℤ → Option CategorySpeeds → Option ℕ
limiting_value category min_front place None = None
limiting_value category min_front place (Some speeds) =
    if counts_at min_front place speeds.delay then Some (speed_of speeds category) else None

abbrev pub speeds_at : (ℤ → Option CategorySpeeds) → ℕ → Span → ℤ → List ℕ
speeds_at profile category train place = listed (limiting_value category train.min_front place (profile place))

-- the least of a speed and of the static speeds that limit a train at a centimetre from its minimum safe rear to its
-- maximum safe front
abbrev pub least_static : (ℤ → Option CategorySpeeds) → ℕ → Span → ℕ → ℕ
least_static profile category train otherwise =
    least otherwise (over (speeds_at profile category train) train.rear train.max_front)

-- V_LOA, where the maximum safe front is at or above the end, while V_LOA is above 0
abbrev pub speed_at_end : ℤ → Option End → Option ℕ
speed_at_end front None = None
speed_at_end front (Some end) = if not (int_lt front end.place) && nat_lt 0 end.speed then Some end.speed else None

-- the least of the train's greatest speed, of V_MAIN, and of V_LOA where it limits
abbrev pub bound_speed : ℤ → Bounds → ℕ
bound_speed front bounds = lesser (lesser bounds.maximum bounds.main) (speed_at_end front bounds.end)

-- the least of all that limits a train; a mode area does where it covers a centimetre from the minimum safe front to
-- the greatest one
abbrev pub limit_on : Span → Bounds → TrackSpeeds → ℕ
limit_on train bounds track =
    least_in_areas track.national train
    (least_speed track.restrictions train (least_static track.static bounds.category train (bound_speed train.max_front bounds)))
    track.areas
