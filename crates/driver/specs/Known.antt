-- The driver's data, read off what one life brought and what was kept when it began (SUBSET-026, 4.10; the column of
-- each mode: this project's profile). Moments are milliseconds, paths centimetres.
use Rattle.std.specs.Prelude.{ℕ, Bool, true, false, List, Option, Some, None}
use Rattle.driver.specs.declared.action.Action.TheVariants.{Override, Acknowledge}
use Rattle.driver.specs.declared.action.Acknowledged.TheVariants as acknowledge
use Rattle.driver.specs.declared.datum.Datum.{Datum}
use Rattle.driver.specs.declared.datum.Datum.TheVariants.{Unknown}
use Rattle.driver.specs.declared.kept.Kept.{Kept}
use Rattle.driver.specs.declared.occasion.Occasion.{Occasion}
use Rattle.driver.specs.declared.revalidation.Revalidation.{Revalidation}
use Rattle.driver.specs.Data.{met_by, is_valid}
use Rattle.driver.specs.Limits.{Train}
use Rattle.driver.specs.Entries.{DriverEntry, after_all}
use Rattle.driver.specs.Entries.DriverEntry.{Did, ModeEntered}
use Rattle.driver.specs.Revalidating.{revalidation_of}
use Rattle.driver.specs.Description.{datum_after, identity_reported, running_number_reported, train_data_reported, level_reported}
use Rattle.mode_table.specs.declared.level.TrainLevel.{TrainLevel}
use Rattle.mode_table.specs.declared.mode.Mode.TheVariants.{Trip}
use Rattle.mode_table.specs.declared.statuses.Cold.{Cold}
use Rattle.mode_table.specs.declared.statuses.Item.TheVariants as item
use Rattle.mode_table.specs.declared.statuses.Fate.{Fate}
use Rattle.mode_table.specs.declared.statuses.Fate.TheVariants as fate
use Rattle.mode_table.specs.Statuses.{status_on, power_up_status}

-- ---- the trip: entering the mode Trip makes one outstanding, and acknowledging it ends it

abbrev pub trip_after : DriverEntry → Bool → Bool
trip_after (Did (Acknowledge acknowledge.Trip) occasion) before = false
trip_after (ModeEntered Trip) before = true
trip_after entry before = before

-- ---- the override: the newest one, until a mode deletes it

abbrev pub unless_deleted : {A : Type 0} → Fate → Option A → Option A
unless_deleted fate.Deleted before = None
unless_deleted fate before = before

abbrev pub override_after : DriverEntry → Option Occasion → Option Occasion
override_after (Did Override occasion) before = Some occasion
override_after (ModeEntered mode) before = unless_deleted (status_on item.Override mode) before
override_after entry before = before

-- ---- what is known

pub record KnownItems : Type 0 where
  pub identity : Datum (List ℕ)
  pub running_number : Datum ℕ
  pub train_data : Datum Train
  pub level : Datum TrainLevel
  pub trip_outstanding : Bool
  pub overridden : Option Occasion
  pub revalidation : Revalidation

abbrev pub known : Kept → List DriverEntry → KnownItems
known kept entries = record {
  identity = datum_after identity_reported kept.identity entries;
  running_number = datum_after running_number_reported kept.running_number entries;
  train_data = datum_after train_data_reported kept.train_data entries;
  level = datum_after level_reported kept.level entries;
  trip_outstanding = after_all trip_after kept.trip_outstanding entries;
  overridden = after_all override_after None entries;
  revalidation = revalidation_of (is_valid kept.level) entries;
}

-- what is to be kept over a power-up
abbrev pub kept_by : KnownItems → Kept
kept_by driver = record {
  identity = driver.identity;
  running_number = driver.running_number;
  train_data = driver.train_data;
  level = driver.level;
  trip_outstanding = driver.trip_outstanding;
}

abbrev pub nothing_kept : Kept
nothing_kept = record { identity = Unknown; running_number = Unknown; train_data = Unknown; level = Unknown; trip_outstanding = false }

-- what a power-up leaves of what was kept; an outstanding trip stays
abbrev pub powered_up : Kept → Cold → Kept
powered_up kept cold = record {
  identity = met_by (power_up_status item.Identity cold) kept.identity;
  running_number = met_by (power_up_status item.RunningNumber cold) kept.running_number;
  train_data = met_by (power_up_status item.TrainData cold) kept.train_data;
  level = met_by (power_up_status item.Level cold) kept.level;
  trip_outstanding = kept.trip_outstanding;
}
