-- That more to keep to never lets a train run faster (SUBSET-026, 3.11 and 3.13; the braking formula: this project's
-- profile). Places are centimetres, speeds metres per hour.
--
-- They compare tracks and places, not moments: an event that brings a restriction may also bring a longer authority, and
-- a train that has passed a target needn't slow down for it any more.
use Rattle.std.specs.Prelude.{ℕ, ◌≡◌, ◌≤◌, ℤ, ◌≤ℤ◌, Option, IsTrue}
use Rattle.authority.specs.Laws.{IsAmong}
use Rattle.brakes.specs.declared.brakes.Brakes.{Brakes}
use Rattle.braking.specs.declared.target.Target.{Target}
use Rattle.braking.specs.Braking.{fits}
use Rattle.driver.specs.Limits.{Train}
use Rattle.track_store.specs.declared.restriction.Restriction.{Restriction}
use Rattle.speed_profile.specs.Ahead.{permitted_ahead}
use Rattle.speed_profile.specs.declared.limit.Bounds.{Bounds}
use Rattle.speed_profile.specs.Limit.{limit_on}
use Rattle.speed_profile.specs.Track.{TrackSpeeds}
use Rattle.units.specs.Stretches.{Span}
use Rattle.mode_control.specs.Life.{Life}
use Rattle.mode_control.specs.Sentences.{values_of, span_of}
use Rattle.speed_supervision.specs.Limit.{bounds_of, along, permitted_speed, released_by}
use Rattle.safety_laws.specs.Stopping.{gradient_along}

-- ---- restrictions

-- what lets a train run: where it is, what bounds it, the gradients, its brakes, and the national release speed
pub record Setting : Type 0 where
  pub train : Span
  pub bounds : Bounds
  pub gradient : ℤ → Option ℤ
  pub brakes : Brakes
  pub release : ℕ

-- the speed that is permitted in Full Supervision and On Sight, by the speeds along the track
abbrev pub permitted_on : Setting → TrackSpeeds → ℕ
permitted_on setting track =
    released_by
    (λ last. permitted_ahead setting.train.max_front (limit_on setting.train setting.bounds track) last setting.bounds track setting.gradient setting.brakes)
    setting.bounds.end setting.release

-- that of a life
abbrev pub setting_of : Life → Train → Setting
setting_of life train = record {
  train = span_of life;
  bounds = bounds_of life train;
  gradient = gradient_along life;
  brakes = train.brakes;
  release = (values_of life).release;
}

abbrev pub PermittedIsOn : Type 0
PermittedIsOn = (life : Life) (train : Train) → permitted_speed life train ≡ permitted_on (setting_of life train) (along life)

-- two tracks of which one has all restrictions of the other, and else both are the same
pub record IsMoreRestricted (fewer more : TrackSpeeds) : Type 0 where
  pub each : (restriction : Restriction) → IsAmong restriction fewer.restrictions.restrictions → IsAmong restriction more.restrictions.restrictions
  pub same_mark : more.restrictions.mark ≡ fewer.restrictions.mark
  pub same_static : more.static ≡ fewer.static
  pub same_areas : more.areas ≡ fewer.areas
  pub same_national : more.national ≡ fewer.national

-- more restrictions never raise the permitted speed
abbrev pub RestrictionsNeverRaise : Type 0
RestrictionsNeverRaise = (setting : Setting) (fewer more : TrackSpeeds) → IsMoreRestricted fewer more →
    permitted_on setting more ≤ permitted_on setting fewer

-- ---- places

-- a speed that fits a target fits it from each place farther back: coming nearer never makes one fit that didn't
abbrev pub NearerFitsNoMore : Type 0
NearerFitsNoMore = (gradient : ℤ → Option ℤ) (brakes : Brakes) (target : Target) (speed : ℕ) (far near : ℤ) → far ≤ℤ near →
    IsTrue (fits near gradient brakes target speed) → IsTrue (fits far gradient brakes target speed)
