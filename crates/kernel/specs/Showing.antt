-- What a display is reported along with the output, and how the train moves (SUBSET-026, 3.13, 5.7, 5.8, 5.9, 5.10;
-- this project's profile). Moments and times are milliseconds, speeds metres per hour, distances centimetres; lists of
-- entries have the newest first. Reported elsewhere, and taken for granted here: the limit, the acknowledgements, how
-- long one may be owed before the service brake (`brake_delay`, in areas), and what is left of an override
-- (`left_of_override`).
use Rattle.std.specs.Prelude.{ℕ, ◌+◌, ◌-◌, ◌^◌, min}
use Rattle.areas.specs.Acknowledging.{brake_delay}
use Rattle.areas.specs.declared.acknowledgement.Acknowledgement.{Acknowledgement}
use Rattle.areas.specs.declared.acknowledgement.Acknowledgement.TheVariants as state
use Rattle.mode_control.specs.Conditions.{left_of_override}
use Rattle.mode_control.specs.History.{tracks, on_sight_of, shunting_of, level_0_of}
use Rattle.mode_control.specs.Life.{Life}
use Rattle.mode_control.specs.Sentences.{span_of, values_of}
use Rattle.speed_supervision.specs.Limit.{limit}
use Rattle.track_picture.specs.History.{moment_of, speed_of}
use Rattle.kernel.specs.Brake.{rolled_backward}
use Rattle.kernel.specs.declared.showing.Acknowledgements.{Acknowledgements}
use Rattle.kernel.specs.declared.showing.Motion.{Motion}
use Rattle.kernel.specs.declared.showing.DisplayValues.{DisplayValues}
use Rattle.kernel.specs.declared.showing.Waiting.{Waiting}
use Rattle.kernel.specs.declared.showing.Waiting.TheVariants as waits

-- what the driver is waited for: one that is owed has so long left until it orders the service brake, 0 where it does
abbrev pub waiting : ℕ → Acknowledgement → Waiting
waiting now state.Nothing = waits.Nothing
waiting now state.Requested = waits.Requested
waiting now state.Done = waits.Nothing
waiting now (state.Owed since) = waits.Owed (since + brake_delay - now)

abbrev pub waiting_in : Life → Acknowledgement → Waiting
waiting_in life = waiting (moment_of (tracks life.entries))

abbrev pub acknowledgements_of : Life → Acknowledgements
acknowledgements_of life = record {
  on_sight = waiting_in life (on_sight_of life.entries);
  shunting = waiting_in life (shunting_of life.entries);
  level_0 = waiting_in life (level_0_of life.entries);
}

-- a speed above this is above the limit by more than the margin of the service brake, or of the emergency brake: the
-- margins of the rows TooFast and FarTooFast of the brake table
abbrev pub service_speed : Life → ℕ
service_speed life = limit life + 5_000

abbrev pub emergency_speed : Life → ℕ
emergency_speed life = limit life + 10_000

abbrev pub display_of : Life → DisplayValues
display_of life = record {
  waiting = acknowledgements_of life;
  overriding = left_of_override life;
  service_speed = service_speed life;
  emergency_speed = emergency_speed life;
  max_front = (span_of life).max_front;
}

-- the speed of the last reading; how far the train has rolled backward, up to the greatest number of 64 bits; and
-- D_NVROLL
abbrev pub motion_of : Life → Motion
motion_of life = record {
  speed = speed_of (tracks life.entries);
  backward = min (rolled_backward life) (2 ^ 64 - 1);
  allowed = (values_of life).roll;
}
