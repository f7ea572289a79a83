-- What the kernel knows represents a life, and so a past or a list of events (this project's profile). Distances are
-- centimetres, speeds metres per hour.
use Rattle.std.specs.Prelude.{◌≡◌, ℕ, ◌-◌, ◌^◌, min, Option, Some, None, IfSome, List, [], ◌∷◌}
use Rattle.driver.specs.declared.datum.Datum.{Datum}
use Rattle.events.specs.declared.input.Event.{Event}
use Rattle.events.specs.declared.input.Input.{Input}
use Rattle.events.specs.declared.input.Input.TheVariants.{Telegram, Odometer, Clock, Driver}
use Rattle.events.specs.declared.input.Reading.{Reading}
use Rattle.events.specs.Kept.{PositionFrom}
use Rattle.events.specs.declared.kept.Kept.{Kept}
use Rattle.mode_table.specs.declared.statuses.Cold.{Cold}
use Rattle.speed_supervision.specs.Limit.{limit}
use Rattle.track_picture.specs.History.{speed_of}
use Rattle.mode_control.specs.Entry.{SupervisionEntry}
use Rattle.mode_control.specs.History.{tracks}
use Rattle.mode_control.specs.Life.{Life, grown}
use Rattle.mode_control.specs.StandsFor as mode_control
use Rattle.track_picture.specs.Stores.{Stores}
use Rattle.kernel.specs.declared.carried.Carried.{Carried}
use Rattle.kernel.specs.declared.counts.Counts.{Counts}
use Rattle.kernel.specs.declared.sight.Sight.{Sight}
use Rattle.kernel.specs.declared.window.Window.{Window}
use Rattle.kernel.specs.Brake.{stands, train_stood, was_within_limit, is_above_limit_by, service_brake_requested, backward_at, rolled_backward, has_started}
use Rattle.kernel.specs.Carrying.{IsCarried, IsStillAt}
use Rattle.kernel.specs.Lives.{Past, kept_of, counts_of, counts_in, life_of}
use Rattle.kernel.specs.Position.{position_at_power_up}

-- what the brakes remember, of the rows of their table that begin at one event and end at another; the movement
-- backward stays at the greatest number of 64 bits
abbrev pub window_of : Life → Window
window_of life = record {
  far_too_fast = has_started (is_above_limit_by 10_000) train_stood life;
  service_brake_requested = has_started service_brake_requested train_stood life;
  backward = min (rolled_backward life) (2 ^ 64 - 1);
  too_fast = has_started (is_above_limit_by 5_000) was_within_limit life;
}

-- ---- what an event shows the brakes, in a life that its entry is added to

-- the odometer's reading, if an input is one
abbrev pub reading_of : Input → Option Reading
reading_of (Odometer reading) = Some reading
reading_of (Telegram bytes) = None
reading_of (Clock moment) = None
reading_of (Driver action) = None

abbrev pub sight_at : Life → SupervisionEntry → Sight
sight_at life entry = record {
  stands = stands entry.track.initial.reading;
  backward = backward_at entry;
  service_brake_requested = entry.track.used.happened.requested.service;
  speed = speed_of (tracks (entry ∷ life.entries));
  limit = limit (grown life entry);
}

-- ---- what is known

-- what is known along with what is supervised
pub record KnownAlongside : Type 0 where
  pub window : Window
  pub limit : ℕ
  pub position : Datum PositionFrom

abbrev pub parts_of : Life → KnownAlongside
parts_of life = record {
  window = window_of life;
  limit = limit life;
  position = position_at_power_up life;
}

pub record Knowledge (G S : Type 0) : Type 0 where
  pub parts : KnownAlongside
  pub counts : Counts
  pub supervision : mode_control.Knowledge G S
  pub carried : Carried

-- It represents a life; what the two stores give is read off them so
pub record StandsForLife {G S : Type 0} (stores : Stores G S) (known : Knowledge G S) (life : Life) : Type 0 where
  pub parts_are : known.parts ≡ parts_of life
  pub supervision_is : mode_control.StandsForLife stores known.supervision life
  pub carried_is : IsCarried known.carried life
  pub still_is : IfSome known.carried.still (λ train. IsStillAt known.supervision known.carried.steady train life)

-- before its power-up nothing is known of a life but what was kept; it isn't counted yet
pub record WaitsFor {G S : Type 0} (stores : Stores G S) (known : Knowledge G S) (kept : Kept) (cold : Cold) : Type 0 where
  pub life_is : StandsForLife stores known (record { kept = kept; cold = cold; entries = [] })
  pub counts_are : known.counts ≡ counts_in kept

-- .. a past
pub record StandsAt {G S : Type 0} (stores : Stores G S) (known : Knowledge G S) (past : Past) : Type 0 where
  pub life_is : StandsForLife stores known past.life
  pub kept_is : past.kept ≡ kept_of known.counts past.life

-- .. and a list of events
pub record StandsFor {G S : Type 0} (stores : Stores G S) (known : Knowledge G S) (events : List Event) : Type 0 where
  pub life_is : StandsForLife stores known (life_of events)
  pub counts_are : known.counts ≡ counts_of events
