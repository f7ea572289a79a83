-- What is true of every list of events, the newest first (this project's profile). Moments are milliseconds, distances
-- centimetres.
use Rattle.std.specs.Prelude.{◌≡◌, ◌↔◌, ◌⊎◌, ℕ, ◌+◌, ◌-◌, ◌^◌, min, IsTrue, Option, Some, None, List, [], ◌∷◌, ◌++◌, length}
use Rattle.driver.specs.declared.datum.Datum.{Datum}
use Rattle.driver.specs.declared.datum.Datum.TheVariants.{Unknown, Valid, Invalid}
use Rattle.driver.specs.Data.{is_valid, value_of}
use Rattle.driver.specs.Entries.{DriverEntry}
use Rattle.driver.specs.LastGiven.{WasGiven}
use Rattle.driver.specs.Laws.{IsRevalidated, HasTripped}
use Rattle.driver.specs.Description.{ItemReport, identity_reported, running_number_reported, train_data_reported, level_reported}
use Rattle.events.specs.declared.input.Event.{Event}
use Rattle.events.specs.declared.input.Event.TheVariants.{PowerUp, Input}
use Rattle.events.specs.declared.output.Brake.TheVariants as brake
use Rattle.events.specs.Kept.{PositionFrom}
use Rattle.mode_table.specs.declared.mode.Mode.TheVariants.{Trip, SystemFailure}
use Rattle.mode_table.specs.declared.statuses.Cold.{Cold}
use Rattle.mode_control.specs.History.{deeds}
use Rattle.mode_control.specs.Life.{left_at_power_up}
use Rattle.mode_control.specs.Sentences.{entry_of}
use Rattle.track_picture.specs.History.{latest_fixed}
use Rattle.vars.specs.declared.group.GroupIdentity.{GroupIdentity}
use Rattle.kernel.specs.Lives.{life_of, kept_by}
use Rattle.kernel.specs.Output.{output_after}

-- ---- what is kept, read off the whole list with all its lives, item by item

-- the counts of events and of power-ups, up to their greatest values
abbrev pub power_ups : List Event → ℕ
power_ups [] = 0
power_ups (PowerUp cold ∷ events) = power_ups events + 1
power_ups (Input input ∷ events) = power_ups events

abbrev pub CountsSo : Type 0
CountsSo = (events : List Event) →
    ((kept_by events).events ≡ min (length events) (2 ^ 64 - 1)) × ((kept_by events).lives ≡ min (power_ups events) (2 ^ 32 - 1))

-- what bears on the driver's data, in all lives
abbrev pub all_deeds : List Event → List DriverEntry
all_deeds [] = []
all_deeds (PowerUp cold ∷ events) = all_deeds events
all_deeds (Input input ∷ events) = deeds (entry_of (life_of events) input ∷ []) ++ all_deeds events

-- a value is kept exactly where it is the last one that was given in any life
abbrev pub IsLastGiven : {A : Type 0} → (DriverEntry → ItemReport A) → (List Event → Option A) → Type 0
IsLastGiven {A} reported kept = (events : List Event) (value : A) → (kept events ≡ Some value) ↔ WasGiven reported (all_deeds events) value

abbrev pub IdentitySo : Type 0
IdentitySo = IsLastGiven identity_reported (λ events. (kept_by events).identity)

abbrev pub RunningNumberSo : Type 0
RunningNumberSo = IsLastGiven running_number_reported (λ events. (kept_by events).running_number)

abbrev pub TrainDataSo : Type 0
TrainDataSo = IsLastGiven train_data_reported (λ events. (kept_by events).train_data)

abbrev pub LevelSo : Type 0
LevelSo = IsLastGiven level_reported (λ events. value_of (kept_by events).level)

-- a trip is outstanding exactly where one was entered in any life, and none was acknowledged since
abbrev pub TripSo : Type 0
TripSo = (events : List Event) → IsTrue (kept_by events).trip_outstanding ↔ HasTripped (all_deeds events)

-- the position is by the group of the last fix of all lives
abbrev pub last_group : List Event → Option GroupIdentity
last_group [] = None
last_group (PowerUp cold ∷ events) = last_group events
last_group (Input input ∷ events) = latest_fixed (entry_of (life_of events) input).track.used.groups (last_group events)

abbrev pub group_in : Datum PositionFrom → Option GroupIdentity
group_in Unknown = None
group_in (Valid position) = Some position.group
group_in (Invalid position) = Some position.group

abbrev pub PositionSo : Type 0
PositionSo = (events : List Event) → group_in (kept_by events).position ≡ last_group events

-- the national values in force stay so at a power-up
abbrev pub NationalSo : Type 0
NationalSo = (events : List Event) (cold : Cold) → (kept_by (PowerUp cold ∷ events)).national ≡ (kept_by events).national

-- ---- nothing else crosses a power-up: where it keeps the same of two lists, the outputs after it are the same,
-- whatever comes later

abbrev pub Forgets : Type 0
Forgets = (cold : Cold) (p q later : List Event) → kept_by p ≡ kept_by q →
    output_after (later ++ PowerUp cold ∷ p) ≡ output_after (later ++ PowerUp cold ∷ q)

-- ---- the emergency brake is commanded until the driver has revalidated, and in Trip and System Failure

abbrev pub BrakesUntilRevalidated : Type 0
BrakesUntilRevalidated = (events : List Event) →
    (let life = life_of events in IsRevalidated (is_valid (left_at_power_up life).level) (deeds life.entries) → ⊥) →
    (output_after events).brake ≡ brake.Emergency

abbrev pub TripBrakes : Type 0
TripBrakes = (events : List Event) →
    ((output_after events).mode ≡ Trip) ⊎ ((output_after events).mode ≡ SystemFailure) →
    (output_after events).brake ≡ brake.Emergency
