-- The speed that a train may run, by the mode (SUBSET-026, 3.12, 3.13 and 4.4; what counts in which mode: this
-- project's profile). Places are centimetres, speeds metres per hour; lists of entries have the newest first. A reader
-- may take for granted that the life holds the event whose limit is asked for, its mode included.
use Rattle.std.specs.Prelude.{ℕ, min, max, if◌then◌else◌, Option, Some, None}
use Rattle.areas.specs.declared.area.NationalSpeeds.{NationalSpeeds}
use Rattle.authority.specs.Authority.{end_of, main_speed_of}
use Rattle.authority.specs.declared.answers.End.{End}
use Rattle.authority.specs.declared.answers.Release.{Release}
use Rattle.authority.specs.declared.answers.Release.TheVariants.{Speed, National}
use Rattle.braking.specs.declared.target.Target.{Target}
use Rattle.driver.specs.declared.datum.Datum.{Datum}
use Rattle.driver.specs.declared.datum.Datum.TheVariants.{Unknown, Valid, Invalid}
use Rattle.driver.specs.Limits.{Train}
use Rattle.mode_table.specs.declared.mode.Mode.{Mode}
use Rattle.mode_table.specs.declared.mode.Mode.TheVariants.{FullSupervision, OnSight, StaffResponsible, Shunting, Unfitted, StandBy, Trip, PostTrip, SystemFailure}
use Rattle.national.specs.declared.values.Values.{Values}
use Rattle.speed_profile.specs.declared.limit.Bounds.{Bounds}
use Rattle.speed_profile.specs.Ahead.{permitted_ahead}
use Rattle.speed_profile.specs.Limit.{limit_on}
use Rattle.speed_profile.specs.Track.{TrackSpeeds}
use Rattle.track_store.specs.Restrictions.{least_speed}
use Rattle.track_picture.specs.History.{restrictions_of, authorities, areas_of, gradients_of, speeds_of}
use Rattle.mode_control.specs.Conditions.{is_overridden}
use Rattle.mode_control.specs.History.{tracks, mode_of}
use Rattle.mode_control.specs.Life.{Life, driver_of}
use Rattle.mode_control.specs.Sentences.{values_of, span_of}

-- ---- in Staff Responsible and in Unfitted: a national value, the train's maximum, and the restrictions in force over
-- the train; in Staff Responsible also the speed of an override while one is active

-- train data that aren't valid give no maximum
abbrev pub within_maximum : Datum Train → ℕ → ℕ
within_maximum Unknown speed = speed
within_maximum (Valid train) speed = min speed train.maximum
within_maximum (Invalid train) speed = speed

abbrev pub maximum_in : Life → ℕ → ℕ
maximum_in life speed = within_maximum (driver_of life).train_data speed

abbrev pub restricted : Life → ℕ → ℕ
restricted life speed = least_speed (restrictions_of (tracks life.entries)) (span_of life) speed

abbrev pub while_overridden : Life → ℕ → ℕ
while_overridden life speed = if is_overridden life then min speed (values_of life).override_speed else speed

abbrev pub responsible_limit : Life → ℕ
responsible_limit life = restricted life (while_overridden life (maximum_in life (values_of life).staff_responsible))

abbrev pub unfitted_limit : Life → ℕ
unfitted_limit life = restricted life (maximum_in life (values_of life).unfitted)

-- ---- in Full Supervision and On Sight: what the train, its authority, the static speeds, the restrictions and the
-- areas over it allow

abbrev pub bounds_of : Life → Train → Bounds
bounds_of life train =
    record {
      maximum = train.maximum;
      category = train.category;
      main = main_speed_of (authorities (tracks life.entries));
      end = end_of (authorities (tracks life.entries));
    }

-- the speeds along the track
abbrev pub in_areas : Values → NationalSpeeds
in_areas values = record { on_sight = values.on_sight; shunting = values.shunting }

abbrev pub along : Life → TrackSpeeds
along life =
    record {
      static = (speeds_of (tracks life.entries)).value;
      restrictions = restrictions_of (tracks life.entries);
      areas = areas_of (tracks life.entries);
      national = in_areas (values_of life);
    }

abbrev pub supervised_limit : Life → Train → ℕ
supervised_limit life train = limit_on (span_of life) (bounds_of life train) (along life)

-- .. and up to that the greatest speed from which the train can still brake for all that lies ahead, and for a last
-- target
abbrev pub permitted_to : Life → Train → Option Target → ℕ
permitted_to life train last =
    permitted_ahead (span_of life).max_front (supervised_limit life train) last (bounds_of life train) (along life)
    (gradients_of (tracks life.entries)).value train.brakes

-- the release speed, which may be the national value
abbrev pub release_speed : Release → ℕ → ℕ
release_speed (Speed speed) national = speed
release_speed National national = national

-- the end of authority, with the speed that is allowed there (V_LOA); a stop at the supervised location
abbrev pub the_end : End → Target
the_end end = record { place = end.place; speed = end.speed }

abbrev pub the_supervised_location : End → Target
the_supervised_location end = record { place = end.location; speed = 0 }

-- the release rule: the end of authority is the last target; or else a stop at the supervised location is, but then the
-- release speed isn't passed
abbrev pub with_release_speed : (Option Target → ℕ) → End → ℕ → ℕ
with_release_speed permitted end national =
    max (permitted (Some (the_end end)))
    (min (release_speed end.release national) (permitted (Some (the_supervised_location end))))

-- without an authority there is no last target
abbrev pub released_by : (Option Target → ℕ) → Option End → ℕ → ℕ
released_by permitted None national = permitted None
released_by permitted (Some end) national = with_release_speed permitted end national

abbrev pub permitted_speed : Life → Train → ℕ
permitted_speed life train =
    released_by (permitted_to life train) (end_of (authorities (tracks life.entries))) (values_of life).release

-- a train of which nothing valid is known may not run there; both modes are entered with valid train data, and keep
-- them
abbrev pub permitted_for : Life → Datum Train → ℕ
permitted_for life Unknown = 0
permitted_for life (Valid train) = permitted_speed life train
permitted_for life (Invalid train) = 0

-- ---- by the mode

abbrev pub limit_in : Mode → Life → ℕ
limit_in FullSupervision life = permitted_for life (driver_of life).train_data
limit_in OnSight life = permitted_for life (driver_of life).train_data
limit_in StaffResponsible life = responsible_limit life
limit_in Shunting life = (values_of life).shunting
limit_in Unfitted life = unfitted_limit life
limit_in StandBy life = 0
limit_in Trip life = 0
limit_in PostTrip life = 0
limit_in SystemFailure life = 0

abbrev pub limit : Life → ℕ
limit life = limit_in (mode_of life.entries) life
