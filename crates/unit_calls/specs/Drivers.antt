-- What the driver entered, and which actions of the driver would be accepted, as C gets it (SUBSET-026, 3.18.3, 4.10 and 5.4;
-- which actions are accepted: this project's profile). Speeds are metres per hour; lists of events have the newest first.
use Rattle.std.specs.Prelude.{◌≡◌, ℕ, ◌||◌, List, [], ◌∷◌, map, Option, Some, None}
use Rattle.c_numbers.specs.KeptItems.{DescribesKept, status_number}
use Rattle.c_numbers.specs.Numbers.{flag_of}
use Rattle.driver.specs.Accepting.{accepts}
use Rattle.driver.specs.Limits.{Train}
use Rattle.driver.specs.Revalidating.{is_whole}
use Rattle.driver.specs.declared.action.Action.{Action}
use Rattle.driver.specs.declared.action.Action.TheVariants.{EnterIdentity, EnterRunningNumber, EnterTrainData}
use Rattle.events.specs.declared.input.Event.{Event}
use Rattle.kernel.specs.Lives.{life_of, kept_by}
use Rattle.mode_control.specs.History.{mode_of, tracks}
use Rattle.mode_control.specs.Life.{Life, driver_of}
use Rattle.mode_control.specs.Sentences.{situation}
use Rattle.mode_table.specs.Modes.{number_of as mode_number}
use Rattle.track_picture.specs.History.{speed_of}
use Rattle.unit_calls.specs.Asking.{Asks}
use Rattle.unit_calls.specs.Inputs.{action_by}
use Rattle.unit_calls.specs.declared.driver_values.EtcsUnitDriver.{EtcsUnitDriver}
use Rattle.unit_calls.specs.declared.handle.Opened.{Opened}
use Rattle.unit_calls.specs.declared.status.Status.{Status}

-- 1 where an action would be accepted as the next event of a life; 0 where it wouldn't, or where there is none
abbrev pub acceptance : Life → Option Action → ℕ
acceptance life None = 0
acceptance life (Some action) = flag_of (accepts (driver_of life) (situation life) action)

-- that of each action without values, at the place of its number
abbrev pub acceptances : Life → List ℕ
acceptances life = map (λ number. acceptance life (action_by number))
    (0 ∷ 1 ∷ 2 ∷ 3 ∷ 4 ∷ 5 ∷ 6 ∷ 7 ∷ 8 ∷ 9 ∷ 10 ∷ 11 ∷ 12 ∷ 13 ∷ 14 ∷ 15 ∷ [])

-- what is reported after these events
pub record DescribesDriver (events : List Event) (reported : EtcsUnitDriver) : Type 0 where
  -- what a power-up would find
  pub kept : DescribesKept (kept_by events) reported.kept
  -- the speed of the last reading of this life, and the mode
  pub speed : reported.speed ≡ speed_of (tracks (life_of events).entries)
  pub mode : reported.mode ≡ mode_number (mode_of (life_of events).entries)
  -- each action of the driver, as the next event
  pub accepts : reported.accepts ≡ acceptances (life_of events)
  -- an entry, whatever is entered
  pub identity : (text : List ℕ) → reported.accepts_identity ≡ acceptance (life_of events) (Some (EnterIdentity text))
  pub running_number : (number : ℕ) → reported.accepts_running_number ≡ acceptance (life_of events) (Some (EnterRunningNumber number))
  pub train_data : (train : Train) → reported.accepts_train_data ≡ acceptance (life_of events) (Some (EnterTrainData train))
  -- whether the driver has revalidated since the power-up
  pub revalidated : reported.is_revalidated ≡ flag_of (is_whole (driver_of (life_of events)).revalidation)
  -- whether what was entered is valid
  pub identity_status : reported.identity_status ≡ status_number (driver_of (life_of events)).identity
  pub running_number_status : reported.running_number_status ≡ status_number (driver_of (life_of events)).running_number
  pub train_status : reported.train_status ≡ status_number (driver_of (life_of events)).train_data
  -- what of the revalidation is done: the identity, the level and the train data given, and Stand By left, by a start after
  -- the train data or for Shunting
  pub gave_identity : reported.gave_identity ≡ flag_of (driver_of (life_of events)).revalidation.identity
  pub gave_level : reported.gave_level ≡ flag_of (driver_of (life_of events)).revalidation.level
  pub gave_train : reported.gave_train ≡ flag_of (driver_of (life_of events)).revalidation.train_data
  pub has_left : reported.has_left ≡ flag_of ((driver_of (life_of events)).revalidation.shunting || (driver_of (life_of events)).revalidation.started)

-- all accepted events are reported of
abbrev pub AsksUnitDriver : Opened → EtcsUnitDriver → EtcsUnitDriver → Status → Type 0
AsksUnitDriver = Asks DescribesDriver
