-- What is so where no brake is commanded: one record for who assesses the kernel (SUBSET-026; the rows and margins of
-- the brake table: this project's profile). Speeds are metres per hour, distances centimetres, moments milliseconds.
-- Lists of events have the newest first.
--
-- It doesn't say that the train may run: the limit may be 0, and up to 5,000 above each limit nothing brakes. Nor that
-- these suffice: the service brake is kept on until the speed is at or below the limit again.
use Rattle.std.specs.Prelude.{ℕ, ◌≡◌, ◌⊎◌, ◌+◌, ◌≤◌, ◌<◌, false, List}
use Rattle.areas.specs.declared.acknowledgement.Acknowledgement.TheVariants.{Owed}
use Rattle.authority.specs.Laws.{IsAmong}
use Rattle.driver.specs.Data.{is_valid}
use Rattle.driver.specs.Laws.{IsRevalidated, HasTripped}
use Rattle.events.specs.declared.input.Event.{Event}
use Rattle.events.specs.declared.output.Brake.TheVariants as brake
use Rattle.mode_table.specs.declared.mode.Mode.TheVariants.{StandBy, Trip, PostTrip, SystemFailure}
use Rattle.track_picture.specs.History.{speed_of, moment_of}
use Rattle.mode_control.specs.declared.calls.Kind.{Kind}
use Rattle.mode_control.specs.History.{tracks, deeds, acknowledgement}
use Rattle.mode_control.specs.Life.{Life, left_at_power_up}
use Rattle.mode_control.specs.Sentences.{values_of}
use Rattle.speed_supervision.specs.Limit.{limit}
use Rattle.kernel.specs.Brake.{Snapshot, snapshots, since, train_stood, service_brake_requested, rolled_backward}
use Rattle.kernel.specs.Laws.{all_deeds}
use Rattle.kernel.specs.Lives.{life_of}
use Rattle.kernel.specs.Output.{output_after}

-- the events since the odometer last read speed 0, that one included; where it never did, all since the power-up
abbrev pub since_standstill : Life → List Snapshot
since_standstill life = since train_stood (snapshots life)

-- the speed of the last reading after an event, and the limit that the event answered
abbrev pub speed_at : Snapshot → ℕ
speed_at snapshot = speed_of (tracks snapshot.life.entries)

pub record IsFree (events : List Event) : Type 0 where
  pub is_revalidated : (let life = life_of events in IsRevalidated (is_valid (left_at_power_up life).level) (deeds life.entries))
  pub not_in_trip : (output_after events).mode ≡ Trip → ⊥
  pub not_in_failure : (output_after events).mode ≡ SystemFailure → ⊥
  pub owes_no_trip : HasTripped (all_deeds events) → ⊥
  pub is_slow : speed_of (tracks (life_of events).entries) ≤ (output_after events).limit + 5_000
  pub was_slow : (snapshot : Snapshot) → IsAmong snapshot (since_standstill (life_of events)) → speed_at snapshot ≤ limit snapshot.life + 10_000
  pub stands : ((output_after events).mode ≡ StandBy) ⊎ ((output_after events).mode ≡ PostTrip) → speed_of (tracks (life_of events).entries) ≡ 0
  pub rolled_little : rolled_backward (life_of events) ≤ (values_of (life_of events)).roll
  pub owes_not_long : (kind : Kind) (from : ℕ) → acknowledgement kind (life_of events).entries ≡ Owed from →
      moment_of (tracks (life_of events).entries) < from + 5_000
  pub requested_nothing : (snapshot : Snapshot) → IsAmong snapshot (since_standstill (life_of events)) → service_brake_requested snapshot ≡ false

abbrev pub NoBrakeOnlyWhere : Type 0
NoBrakeOnlyWhere = (events : List Event) → (output_after events).brake ≡ brake.None → IsFree events
