-- What limits a train where it is, one by one (SUBSET-026, 3.11; this project's profile). Places are centimetres,
-- speeds metres per hour.
use Rattle.std.specs.Prelude.{◌≡◌, ℕ, ℤ, ◌≤ℤ◌, true, Option, Some, List}
use Rattle.std.specs.List.{Contains}
use Rattle.units.specs.Stretches.{Span}
use Rattle.areas.specs.declared.area.Area.{Area}
use Rattle.areas.specs.declared.area.NationalSpeeds.{NationalSpeeds}
use Rattle.areas.specs.Areas.{is_met, speed_in}
use Rattle.track_store.specs.declared.restriction.Restriction.{Restriction}
use Rattle.track_store.specs.Covering.{limits_at}
use Rattle.track_store.specs.Restrictions.{InForce}
use Rattle.speed_profile.specs.declared.reported.CategorySpeeds.{CategorySpeeds}
use Rattle.speed_profile.specs.declared.limit.Bounds.{Bounds}
use Rattle.speed_profile.specs.Limit.{speed_at_end, limiting_value}
use Rattle.speed_profile.specs.Track.{TrackSpeeds}
use Rattle.speed_supervision.specs.declared.cause.OverTrain.{OverTrain}
use Rattle.speed_supervision.specs.declared.cause.OverTrain.TheVariants as over

-- a centimetre that a train may cover
abbrev pub IsUnder : Span → ℤ → Type 0
IsUnder train place = (train.rear ≤ℤ place) × (place ≤ℤ train.max_front)

-- the static speed of such a centimetre limits the train to a speed
abbrev pub IsStaticSpeedOver : (ℤ → Option CategorySpeeds) → ℕ → Span → ℕ → ℤ → Type 0
IsStaticSpeedOver static category train speed place =
    IsUnder train place × (limiting_value category train.min_front place (static place) ≡ Some speed)

-- a restriction in force limits it at such a centimetre
abbrev pub IsRestrictionOver : InForce → Span → ℕ → Restriction → Type 0
IsRestrictionOver track train speed restriction =
    Contains track.restrictions restriction × (restriction.speed ≡ speed)
    × ((place : ℤ) × IsUnder train place × (limits_at track.mark train place restriction ≡ true))

-- a stored mode area that is met has this speed
abbrev pub IsAreaOver : NationalSpeeds → List Area → Span → ℕ → Area → Type 0
IsAreaOver national areas train speed area =
    Contains areas area × (is_met train area ≡ true) × (speed_in national area ≡ speed)

-- what is named limits the train to a speed
abbrev pub IsOver : Span → Bounds → TrackSpeeds → ℕ → OverTrain → Type 0
IsOver train bounds track speed over.Maximum = bounds.maximum ≡ speed
IsOver train bounds track speed over.Main = bounds.main ≡ Some speed
IsOver train bounds track speed over.End = speed_at_end train.max_front bounds.end ≡ Some speed
IsOver train bounds track speed (over.StaticSpeed place) = IsStaticSpeedOver track.static bounds.category train speed place
IsOver train bounds track speed (over.Restriction restriction) = IsRestrictionOver track.restrictions train speed restriction
IsOver train bounds track speed (over.Area area) = IsAreaOver track.national track.areas train speed area

-- ---- which of equal force is named

-- no mode area over the train, or no restriction, has this speed
abbrev pub NoAreaOver : Span → TrackSpeeds → ℕ → Type 0
NoAreaOver train track speed = (area : Area) → IsAreaOver track.national track.areas train speed area → ⊥

abbrev pub NoRestrictionOver : Span → TrackSpeeds → ℕ → Type 0
NoRestrictionOver train track speed = (restriction : Restriction) → IsRestrictionOver track.restrictions train speed restriction → ⊥

-- nor has a static speed
abbrev pub NoneOver : Span → Bounds → TrackSpeeds → ℕ → Type 0
NoneOver train bounds track speed =
    NoAreaOver train track speed × NoRestrictionOver train track speed
    × ((place : ℤ) → IsStaticSpeedOver track.static bounds.category train speed place → ⊥)

-- the speed at the end of the authority is another one, or doesn't count yet; so is the authority's greatest speed
abbrev pub EndIsOther : ℤ → Bounds → ℕ → Type 0
EndIsOther front bounds speed = speed_at_end front bounds.end ≡ Some speed → ⊥

abbrev pub MainIsOther : Bounds → ℕ → Type 0
MainIsOther bounds speed = bounds.main ≡ Some speed → ⊥

-- Nothing that comes before what is named has the speed: mode areas come first, then restrictions, static speeds, the end of
-- the authority, its greatest speed, and the train's own.
abbrev pub IsFirstOver : Span → Bounds → TrackSpeeds → ℕ → OverTrain → Type 0
IsFirstOver train bounds track speed (over.Area area) = Unit {0}
IsFirstOver train bounds track speed (over.Restriction restriction) = NoAreaOver train track speed
IsFirstOver train bounds track speed (over.StaticSpeed place) = NoAreaOver train track speed × NoRestrictionOver train track speed
IsFirstOver train bounds track speed over.End = NoneOver train bounds track speed
IsFirstOver train bounds track speed over.Main = NoneOver train bounds track speed × EndIsOther train.max_front bounds speed
IsFirstOver train bounds track speed over.Maximum =
    NoneOver train bounds track speed × EndIsOther train.max_front bounds speed × MainIsOther bounds speed
