-- When the brakes are commanded, and why: a table, of which the first row counts that holds, and each row that holds is
-- a cause (SUBSET-026; the rows, their order and their margins: this project's profile). Speeds are metres per hour,
-- distances centimetres, moments milliseconds; lists have the newest first. Reported elsewhere, and taken for granted
-- here: the limit that an event answered (`limit`, in speed_supervision), the speed of the last reading (`speed_of`; 0
-- before the first one), and when an acknowledgement has been owed too long (`brakes`, in areas).
use Rattle.std.specs.Prelude.{ℕ, ◌+◌, ◌==◌, nat_lt, ℤ, pos, int_lt, Bool, false, not, ◌&&◌, ◌||◌, if◌then◌else◌, Option, List, [], ◌∷◌, sum_by}
use Rattle.std.specs.Int.RustNames.{unsigned_abs}
use Rattle.std.specs.List.{list_any}
use Rattle.std.specs.Option.{option_map_or}
use Rattle.areas.specs.Acknowledging.{brakes}
use Rattle.driver.specs.Revalidating.{is_whole}
use Rattle.events.specs.declared.input.Reading.{Reading}
use Rattle.events.specs.declared.output.Brake.{Brake}
use Rattle.events.specs.declared.output.Brake.TheVariants as brake
use Rattle.kernel.specs.declared.causes.BrakeCause.{BrakeCause}
use Rattle.kernel.specs.declared.causes.BrakeCause.TheVariants as cause
use Rattle.speed_supervision.specs.Limit.{limit}
use Rattle.mode_table.specs.declared.mode.Mode.{Mode}
use Rattle.mode_table.specs.declared.mode.Mode.TheVariants.{StandBy, Trip, PostTrip, SystemFailure}
use Rattle.mode_table.specs.Modes.{is_mode}
use Rattle.track_picture.specs.History.{speed_of, moment_of}
use Rattle.mode_control.specs.Entry.{SupervisionEntry}
use Rattle.mode_control.specs.History.{tracks, mode_of, on_sight_of, shunting_of, level_0_of}
use Rattle.mode_control.specs.Life.{Life, driver_of}
use Rattle.mode_control.specs.Sentences.{values_of}

-- ---- snapshots: an event, and the life as it left it

pub record Snapshot : Type 0 where
  pub event : SupervisionEntry
  pub life : Life

-- those of a life, from these events of it back
abbrev pub snapshots_back : Life → List SupervisionEntry → List Snapshot
snapshots_back life [] = []
snapshots_back life (event ∷ earlier) =
    record { event = event; life = record life { entries = event ∷ earlier } } ∷ snapshots_back life earlier

abbrev pub snapshots : Life → List Snapshot
snapshots life = snapshots_back life life.entries

-- those since the last one that ends a window, that one included; where none does, all since the power-up
abbrev pub since : (Snapshot → Bool) → List Snapshot → List Snapshot
since ends [] = []
since ends (snapshot ∷ earlier) = snapshot ∷ (if ends snapshot then [] else since ends earlier)

-- ---- what ends a window

-- the odometer read speed 0
abbrev pub stands : Option Reading → Bool
stands reading = option_map_or (λ r. r.speed == 0) reading false

abbrev pub train_stood : Snapshot → Bool
train_stood snapshot = stands snapshot.event.track.initial.reading

-- the speed was above the limit that the event answered by more than this
abbrev pub is_above_limit_by : ℕ → Snapshot → Bool
is_above_limit_by margin snapshot = nat_lt (limit snapshot.life + margin) (speed_of (tracks snapshot.life.entries))

-- it was at or below that limit
abbrev pub was_within_limit : Snapshot → Bool
was_within_limit snapshot = not (is_above_limit_by 0 snapshot)

-- ---- why the emergency brake is commanded

-- the driver hasn't revalidated since the power-up
abbrev pub is_not_revalidated : Life → Bool
is_not_revalidated life = not (is_whole (driver_of life).revalidation)

abbrev pub is_in : Mode → Life → Bool
is_in mode life = is_mode mode (mode_of life.entries)

-- a trip was entered, in this life or before it, and isn't acknowledged
abbrev pub owes_trip : Life → Bool
owes_trip life = (driver_of life).trip_outstanding

-- how far a movement leads backward; an overrun adds no movement
abbrev pub backward : ℤ → ℕ
backward movement = if int_lt movement (pos 0) then unsigned_abs movement else 0

abbrev pub backward_by : Bool → Option Reading → ℕ
backward_by overrun reading = if overrun then 0 else option_map_or (λ r. backward r.movement) reading 0

abbrev pub backward_at : SupervisionEntry → ℕ
backward_at event = backward_by event.track.used.happened.overrun event.track.initial.reading

-- backward movements since the train stood, with no forward ones taken off
abbrev pub rolled_backward : Life → ℕ
rolled_backward life = sum_by (λ snapshot. backward_at snapshot.event) (since train_stood (snapshots life))

-- they are more than the national value that is in force now
abbrev pub has_rolled_too_far : Life → Bool
has_rolled_too_far life = nat_lt (values_of life).roll (rolled_backward life)

-- ---- why the service brake is commanded

-- linking or a balise group asked for it
abbrev pub service_brake_requested : Snapshot → Bool
service_brake_requested snapshot = snapshot.event.track.used.happened.requested.service

-- it moves in Stand By or in Post Trip
abbrev pub must_stand : Life → Bool
must_stand life = (is_in StandBy life || is_in PostTrip life) && nat_lt 0 (speed_of (tracks life.entries))

-- an acknowledgement of one of the three kinds has been owed too long
abbrev pub owes_too_long : Life → Bool
owes_too_long life =
    let now = moment_of (tracks life.entries) in
    brakes now (on_sight_of life.entries) || brakes now (shunting_of life.entries) || brakes now (level_0_of life.entries)

-- ---- the table

-- a brake, why it is commanded, and when
pub record Row : Type 0 where
  pub brake : Brake
  pub cause : BrakeCause
  pub holds : Life → Bool

-- as long as something is so
abbrev pub while_so : Brake → BrakeCause → (Life → Bool) → Row
while_so command why is_so = record { brake = command; cause = why; holds = is_so }

-- from an event after which something was so, until one that ends it; where both are at one event it begins
abbrev pub has_started : (Snapshot → Bool) → (Snapshot → Bool) → Life → Bool
has_started begins ends life = list_any begins (since ends (snapshots life))

abbrev pub from_until : Brake → BrakeCause → (Snapshot → Bool) → (Snapshot → Bool) → Row
from_until command why begins ends = record { brake = command; cause = why; holds = has_started begins ends }

abbrev pub rows : List Row
rows =
    while_so brake.Emergency cause.NotRevalidated is_not_revalidated  -- this project's profile
    ∷ while_so brake.Emergency cause.InTrip (is_in Trip)  -- 4.4
    ∷ while_so brake.Emergency cause.InSystemFailure (is_in SystemFailure)  -- 4.4
    ∷ while_so brake.Emergency cause.OwesTrip owes_trip  -- 5.11
    ∷ from_until brake.Emergency cause.FarTooFast (is_above_limit_by 10_000) train_stood  -- 3.13, 3.14
    ∷ while_so brake.Emergency cause.RolledTooFar has_rolled_too_far  -- 3.14
    ∷ from_until brake.Service cause.ServiceBrakeRequested service_brake_requested train_stood  -- 3.4.4, 3.16.2
    ∷ from_until brake.Service cause.TooFast (is_above_limit_by 5_000) was_within_limit  -- 3.13, 3.14
    ∷ while_so brake.Service cause.MustStand must_stand  -- 3.14, 4.4
    ∷ while_so brake.Service cause.OwesTooLong owes_too_long  -- 5.7, 5.9, 5.10
    ∷ []

-- the first row that holds; none where no row does
abbrev pub first_of : List Row → Life → Brake
first_of [] life = brake.None
first_of (row ∷ later) life = if row.holds life then row.brake else first_of later life

abbrev pub brake_of : Life → Brake
brake_of life = first_of rows life

-- the causes of all rows that hold, in the order of the table
abbrev pub where_so : Bool → BrakeCause → List BrakeCause → List BrakeCause
where_so holds why later = if holds then why ∷ later else later

abbrev pub causes_in : List Row → Life → List BrakeCause
causes_in [] life = []
causes_in (row ∷ later) life = where_so (row.holds life) row.cause (causes_in later life)

abbrev pub causes_of : Life → List BrakeCause
causes_of life = causes_in rows life
