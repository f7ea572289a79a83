-- One life: what was kept at its power-up, and what its events did (this project's profile). Lengths are centimetres.
use Rattle.std.specs.Prelude.{ℕ, Option, Some, None, List, ◌∷◌}
use Rattle.driver.specs.declared.datum.Datum.{Datum}
use Rattle.driver.specs.declared.datum.Datum.TheVariants.{Unknown, Valid, Invalid}
use Rattle.driver.specs.declared.kept.Kept.{Kept as DriverKept}
use Rattle.driver.specs.Known as driver
use Rattle.driver.specs.Limits.{Train}
use Rattle.events.specs.declared.kept.Kept.{Kept}
use Rattle.mode_table.specs.declared.statuses.Cold.{Cold}
use Rattle.track_picture.specs.StandsFor.{Life as TrackLife}
use Rattle.mode_control.specs.Entry.{SupervisionEntry}
use Rattle.mode_control.specs.History.{tracks, deeds}

pub record Life : Type 0 where
  pub kept : Kept  -- what was kept at its power-up
  pub cold : Cold  -- what was known then of movements while the power was off
  pub entries : List SupervisionEntry  -- what its events did, the newest first

-- what it says of the track
abbrev pub track_of : Life → TrackLife
track_of life = record { kept = life.kept.national; entries = tracks life.entries }

-- ---- the driver's data

-- what was entered last, as it was entered
abbrev pub entered : {A : Type 0} → Option A → Datum A
entered None = Unknown
entered (Some value) = Valid value

-- what was known of the driver's data before the power-up, and what it leaves of that
abbrev pub known_before : Kept → DriverKept
known_before kept = record {
  identity = entered kept.identity;
  running_number = entered kept.running_number;
  train_data = entered kept.train_data;
  level = kept.level;
  trip_outstanding = kept.trip_outstanding;
}

abbrev pub left_at_power_up : Life → DriverKept
left_at_power_up life = driver.powered_up (known_before life.kept) life.cold

abbrev pub driver_of : Life → driver.KnownItems
driver_of life = driver.known (left_at_power_up life) (deeds life.entries)

-- ---- the length of the train: 0 where its data aren't valid

abbrev pub length_by : Datum Train → ℕ
length_by Unknown = 0
length_by (Valid train) = train.length
length_by (Invalid train) = 0

abbrev pub length_of : Life → ℕ
length_of life = length_by (driver_of life).train_data

-- a life with one entry more
abbrev pub grown : Life → SupervisionEntry → Life
grown life entry = record life { entries = entry ∷ life.entries }
