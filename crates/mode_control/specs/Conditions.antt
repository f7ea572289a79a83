-- What the rows of the mode table ask for, read off a life as an event leaves it before its change of mode (SUBSET-026,
-- 4.6.3; the conditions: this project's profile). Distances and places are centimetres.
use Rattle.std.specs.Prelude.{◌+◌, nat_lt, ◌==◌, ℤ, pos, ◌-ℤ◌, Bool, true, false, not, ◌&&◌, ◌||◌, int_lt, is_none, if◌then◌else◌, Option, Some, List, [], ◌∷◌}
use Rattle.std.specs.Option.{option_map_or}
use Rattle.units.specs.Stretches.{Span, over}
use Rattle.areas.specs.Areas.{any_met}
use Rattle.authority.specs.Authority.{end_of}
use Rattle.authority.specs.declared.answers.End.{End}
use Rattle.driver.specs.declared.action.Action.{Action}
use Rattle.driver.specs.declared.action.Action.TheVariants.{Start, ChooseShunting, LeaveShunting, Override, CloseDesk, Acknowledge}
use Rattle.driver.specs.declared.action.Acknowledged.TheVariants as kind
use Rattle.driver.specs.declared.datum.Datum.{Datum}
use Rattle.driver.specs.declared.datum.Datum.TheVariants.{Valid}
use Rattle.driver.specs.declared.override_left.OverrideLeft.{OverrideLeft}
use Rattle.driver.specs.Overriding.{is_active, override_left}
use Rattle.mode_table.specs.declared.conditions.Conditions.{Conditions}
use Rattle.mode_table.specs.declared.level.TrainLevel.{TrainLevel}
use Rattle.mode_table.specs.declared.level.TrainLevel.TheVariants.{Level0, Level1}
use Rattle.track_store.specs.Profiles.{is_any}
use Rattle.vars.specs.declared.level.AreaMode.TheVariants as area
use Rattle.track_picture.specs.History.{place_of, moment_of, authorities, areas_of, gradients_of, speeds_of, happened_of, is_stopped}
use Rattle.track_picture.specs.StandsFor.{national_of}
use Rattle.mode_control.specs.History.{tracks, done_in, staff_from}
use Rattle.mode_control.specs.Life.{Life, track_of, driver_of}

-- ---- the level

abbrev pub is_level_0 : Datum TrainLevel → Bool
is_level_0 (Valid Level0) = true
is_level_0 level = false

abbrev pub is_level_1 : Datum TrainLevel → Bool
is_level_1 (Valid Level1) = true
is_level_1 level = false

-- ---- whether the authority and the track ahead are known: an authority is stored, its end is above the maximum safe
-- front, and the static speed and the gradient are known at each centimetre from there up to and without that end

-- a centimetre of which nothing is known
abbrev pub unknown_at : {A : Type 0} → (ℤ → Option A) → ℤ → List ℤ
unknown_at value place = if is_none (value place) then place ∷ [] else []

abbrev pub is_known_throughout : {A : Type 0} → (ℤ → Option A) → ℤ → ℤ → Bool
is_known_throughout value from end = not (is_any (over (unknown_at value) from (end -ℤ pos 1)))

abbrev pub is_full_to : Life → ℤ → End → Bool
is_full_to life front end =
    int_lt front end.place
    && is_known_throughout (speeds_of (tracks life.entries)).value front end.place
    && is_known_throughout (gradients_of (tracks life.entries)).value front end.place

abbrev pub is_full : Life → Span → Bool
is_full life train = option_map_or (is_full_to life train.max_front) (end_of (authorities (tracks life.entries))) false

-- ---- the trip: it isn't overridden, and the minimum safe front is above the end of authority while no speed is
-- allowed there, or in this event linking asks for a trip or an authority is used whose speed is 0

abbrev pub is_overridden : Life → Bool
is_overridden life =
    is_active (driver_of life).overridden (moment_of (tracks life.entries)) (place_of (tracks life.entries)).sums.path

-- what is left of an override
abbrev pub left_of_override : Life → Option OverrideLeft
left_of_override life =
    override_left (driver_of life).overridden (moment_of (tracks life.entries)) (place_of (tracks life.entries)).sums.path

abbrev pub is_beyond : ℤ → End → Bool
is_beyond min_front end = int_lt end.place min_front && end.speed == 0

abbrev pub is_beyond_end : Life → Span → Bool
is_beyond_end life train = option_map_or (is_beyond train.min_front) (end_of (authorities (tracks life.entries))) false

abbrev pub trips : Life → Span → Bool
trips life train =
    not (is_overridden life)
    && (is_beyond_end life train || (happened_of (tracks life.entries)).requested.trip || is_stopped (tracks life.entries))

-- ---- in Staff Responsible: the path since it was entered is above the national distance

-- the path of the life is above the one from which Staff Responsible counts, and the distance beyond it
abbrev pub is_beyond_staff_distance : Life → Bool
is_beyond_staff_distance life =
    option_map_or (λ distance. nat_lt (staff_from life.entries + distance) (place_of (tracks life.entries)).sums.path)
    (national_of (track_of life)).in_force.values.staff_responsible_distance false

-- ---- the action that was accepted in this event

abbrev pub is_start : Option Action → Bool
is_start (Some Start) = true
is_start action = false

abbrev pub is_shunting_choice : Option Action → Bool
is_shunting_choice (Some ChooseShunting) = true
is_shunting_choice action = false

abbrev pub is_leaving : Option Action → Bool
is_leaving (Some LeaveShunting) = true
is_leaving action = false

abbrev pub is_override : Option Action → Bool
is_override (Some Override) = true
is_override action = false

abbrev pub is_desk_closing : Option Action → Bool
is_desk_closing (Some CloseDesk) = true
is_desk_closing action = false

abbrev pub is_trip_acknowledging : Option Action → Bool
is_trip_acknowledging (Some (Acknowledge kind.Trip)) = true
is_trip_acknowledging action = false

-- ---- all of them, where the train is there

abbrev pub conditions : Life → Span → Conditions
conditions life train =
    let done = done_in life.entries in
    record {
      overrun = (happened_of (tracks life.entries)).overrun;
      desk_closed = is_desk_closing done;
      trip = trips life train;
      beyond_staff_distance = is_beyond_staff_distance life;
      level_0 = is_level_0 (driver_of life).level;
      level_1 = is_level_1 (driver_of life).level;
      full = is_full life train;
      on_sight_area = any_met area.OnSight train (areas_of (tracks life.entries));
      shunting_area = any_met area.Shunting train (areas_of (tracks life.entries));
      trip_acknowledged = is_trip_acknowledging done;
      override_accepted = is_override done;
      shunting_chosen = is_shunting_choice done;
      shunting_left = is_leaving done;
      started = is_start done;
    }

-- .. where no movement led too far, and the driver did nothing
abbrev pub calm : Conditions → Conditions
calm c = record c {
  overrun = false;
  desk_closed = false;
  trip_acknowledged = false;
  override_accepted = false;
  shunting_chosen = false;
  shunting_left = false;
  started = false;
}
