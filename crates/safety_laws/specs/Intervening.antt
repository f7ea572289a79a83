-- When the unit brakes by itself: past the end of authority, far above the limit, and where the train rolls back; and at
-- which speed it runs at most in the modes that know no authority (SUBSET-026, 3.8, 3.12 to 3.14 and 4.4; the margin of
-- 10,000 and the rows: this project's profile). Speeds are metres per hour, places and distances centimetres. Lists of
-- events have the newest first.
--
-- They don't say that an overridden train is watched at the end of authority, nor that one in Unfitted or Shunting is.
use Rattle.std.specs.Prelude.{◌≡◌, ◌⊎◌, ◌+◌, ◌<◌, ◌≤◌, ◌<ℤ◌, true, false, List, [], ◌∷◌, IsTrue, Some}
use Rattle.authority.specs.Authority.{end_of}
use Rattle.authority.specs.declared.answers.End.{End}
use Rattle.authority.specs.Laws.{IsAmong}
use Rattle.driver.specs.declared.action.Action.TheVariants.{CloseDesk}
use Rattle.events.specs.declared.input.Event.{Event}
use Rattle.events.specs.declared.input.Input.{Input}
use Rattle.events.specs.declared.output.Brake.TheVariants as brake
use Rattle.mode_table.specs.declared.mode.Mode.{Mode}
use Rattle.mode_table.specs.declared.mode.Mode.TheVariants.{FullSupervision, OnSight, StaffResponsible, Shunting, Unfitted, StandBy, Trip, SystemFailure}
use Rattle.mode_table.specs.Modes.{is_one_of}
use Rattle.speed_supervision.specs.Limit.{limit}
use Rattle.track_picture.specs.History.{authorities, speed_of}
use Rattle.mode_control.specs.Conditions.{is_overridden}
use Rattle.mode_control.specs.History.{tracks}
use Rattle.mode_control.specs.Life.{Life, grown}
use Rattle.mode_control.specs.Sentences.{values_of, train_in}
use Rattle.mode_control.specs.Tripping.{seen_by}
use Rattle.kernel.specs.Brake.{Snapshot, rolled_backward}
use Rattle.kernel.specs.Lives.{life_of}
use Rattle.kernel.specs.Output.{output_after}
use Rattle.safety_laws.specs.Brakes.{since_standstill, speed_at}
use Rattle.safety_laws.specs.Modes.{mode_after, mode_beyond, IsOverrun, IsDoneAtStandstill}

-- ---- past the end of authority

-- the modes in which the end of authority is watched
abbrev pub modes_to_end : List Mode
modes_to_end = FullSupervision ∷ OnSight ∷ StaffResponsible ∷ []

-- the life as an input leaves it before its change of mode: place, authority and override are those of the event
abbrev pub seen : Life → Input → Life
seen life input = grown life (seen_by life input)

-- the minimum safe front is past the end of authority, where no speed is allowed
pub record HasPassedEnd (life : Life) (input : Input) : Type 0 where
  pub end : End
  pub known : end_of (authorities (tracks (seen life input).entries)) ≡ Some end
  pub no_speed : end.speed ≡ 0
  pub is_past : end.place <ℤ (train_in (seen life input) (seen_by life input)).min_front

-- a train in one of these modes trips by an event that finds it past the end, unless an override is active; but for an
-- overrun, and for a desk that is closed at standstill
abbrev pub PassingEndTrips : Type 0
PassingEndTrips = (events : List Event) (input : Input) → IsTrue (is_one_of modes_to_end (mode_after events)) →
    HasPassedEnd (life_of events) input → is_overridden (seen (life_of events) input) ≡ false →
    (mode_beyond events input ≡ Trip)
    ⊎ ((mode_beyond events input ≡ SystemFailure) × IsOverrun (life_of events) input)
    ⊎ ((mode_beyond events input ≡ StandBy) × IsDoneAtStandstill (life_of events) input CloseDesk)

-- ---- the emergency brake

-- it is commanded where the train was more than 10,000 above the limit after an event since standstill, the last event
-- included
abbrev pub FarTooFastBrakes : Type 0
FarTooFastBrakes = (events : List Event) (snapshot : Snapshot) → IsAmong snapshot (since_standstill (life_of events)) →
    limit snapshot.life + 10_000 < speed_at snapshot → (output_after events).brake ≡ brake.Emergency

abbrev pub FarTooFastNowBrakes : Type 0
FarTooFastNowBrakes = (events : List Event) → (output_after events).limit + 10_000 < speed_of (tracks (life_of events).entries) →
    (output_after events).brake ≡ brake.Emergency

-- .. and where the train rolled back by more than D_NVROLL since standstill
abbrev pub RollingBackBrakes : Type 0
RollingBackBrakes = (events : List Event) → (values_of (life_of events)).roll < rolled_backward (life_of events) →
    (output_after events).brake ≡ brake.Emergency

-- ---- the national speeds

-- the limit is at most the national value of the mode, and in Staff Responsible that of an override while one is active
pub record KeepsNationalSpeeds (events : List Event) : Type 0 where
  pub staff_responsible : (output_after events).mode ≡ StaffResponsible → (output_after events).limit ≤ (values_of (life_of events)).staff_responsible
  pub overridden : (output_after events).mode ≡ StaffResponsible → is_overridden (life_of events) ≡ true →
      (output_after events).limit ≤ (values_of (life_of events)).override_speed
  pub unfitted : (output_after events).mode ≡ Unfitted → (output_after events).limit ≤ (values_of (life_of events)).unfitted
  pub shunting : (output_after events).mode ≡ Shunting → (output_after events).limit ≤ (values_of (life_of events)).shunting

abbrev pub NationalSpeedsAreKept : Type 0
NationalSpeedsAreKept = (events : List Event) → KeepsNationalSpeeds events
