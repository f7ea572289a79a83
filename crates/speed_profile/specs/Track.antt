-- The speeds along the track (this project's profile). Places are centimetres, speeds metres per hour.
use Rattle.std.specs.Prelude.{ℤ, Option, List}
use Rattle.track_store.specs.Restrictions.{InForce}
use Rattle.areas.specs.declared.area.Area.{Area}
use Rattle.areas.specs.declared.area.NationalSpeeds.{NationalSpeeds}
use Rattle.speed_profile.specs.declared.reported.CategorySpeeds.{CategorySpeeds}
use Rattle.speed_profile.specs.declared.track.Track.{Track}

-- the static speed of each centimetre, the temporary restrictions in force, the mode areas, and the national speeds of
-- now for those without a speed of their own
pub record TrackSpeeds : Type 0 where
  pub static : ℤ → Option CategorySpeeds
  pub restrictions : InForce
  pub areas : List Area
  pub national : NationalSpeeds

-- that of a track whose static speeds are read so
abbrev pub speeds_along : {S : Type 0} → (S → ℤ → Option CategorySpeeds) → Track S → TrackSpeeds
speeds_along value track =
    record { static = value track.speeds.now; restrictions = track.restrictions.now.track; areas = track.areas.now; national = track.national }
