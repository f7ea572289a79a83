-- What is answered after each event (this project's profile). Places are centimetres, speeds metres per hour; lists of
-- events and of entries have the newest first. A reader may take for granted that only the last life counts, and in it
-- what was kept of those before (`life_of`, in Lives).
use Rattle.std.specs.Prelude.{ℕ, ℤ, nat_lt, Option, Some, None, List}
use Rattle.areas.specs.Acknowledging.{waits}
use Rattle.driver.specs.declared.datum.Datum.{Datum}
use Rattle.driver.specs.declared.datum.Datum.TheVariants.{Unknown, Valid, Invalid}
use Rattle.events.specs.declared.input.Event.{Event}
use Rattle.events.specs.declared.output.Indications.{Indications}
use Rattle.events.specs.declared.output.Output.{Output}
use Rattle.speed_supervision.specs.Limit.{limit}
use Rattle.odometry.specs.Place.{estimate, uncertainty}
use Rattle.mode_control.specs.Conditions.{is_overridden}
use Rattle.mode_control.specs.History.{tracks, mode_of, on_sight_of, shunting_of, level_0_of}
use Rattle.mode_control.specs.Life.{Life, driver_of}
use Rattle.track_picture.specs.History.{place_of, speed_of}
use Rattle.kernel.specs.Brake.{brake_of, is_not_revalidated}
use Rattle.kernel.specs.Lives.{Story, life_of, past_at}

-- a datum that holds
abbrev pub where_valid : {A : Type 0} → Datum A → Option A
where_valid Unknown = None
where_valid (Valid value) = Some value
where_valid (Invalid value) = None

abbrev pub indications_of : Life → Indications
indications_of life = record {
  on_sight = waits (on_sight_of life.entries);
  shunting = waits (shunting_of life.entries);
  level_0 = waits (level_0_of life.entries);
  trip = (driver_of life).trip_outstanding;
  overridden = is_overridden life;
  not_revalidated = is_not_revalidated life;
  overspeed = nat_lt (limit life) (speed_of (tracks life.entries));
}

abbrev pub output_of : Life → Output
output_of life = record {
  mode = mode_of life.entries;
  level = where_valid (driver_of life).level;
  brake = brake_of life;
  limit = limit life;
  indications = indications_of life;
}

-- where the train is thought to be, and how far that may be wrong to either side
abbrev pub estimate_in : Life → ℤ
estimate_in life = estimate (place_of (tracks life.entries))

abbrev pub uncertainty_in : Life → ℕ
uncertainty_in life = uncertainty (place_of (tracks life.entries))

-- after a list of events, the newest first
abbrev pub output_after : List Event → Output
output_after events = output_of (life_of events)

abbrev pub estimate_after : List Event → ℤ
estimate_after events = estimate_in (life_of events)

abbrev pub uncertainty_after : List Event → ℕ
uncertainty_after events = uncertainty_in (life_of events)

-- after a story
abbrev pub output_at : Story → Output
output_at story = output_of (past_at story).life
