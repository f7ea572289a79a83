-- What each entry means for the driver's data, a line for each way (SUBSET-026, 4.10; the column of each mode: this
-- project's profile).
use Rattle.std.specs.Prelude.{ℕ, Bool, true, false, List}
use Rattle.driver.specs.declared.action.Action.TheVariants.{EnterIdentity, EnterRunningNumber, EnterTrainData, ChooseLevel, Confirm}
use Rattle.driver.specs.declared.action.Confirmed.TheVariants as confirm
use Rattle.driver.specs.declared.datum.Datum.{Datum}
use Rattle.driver.specs.declared.datum.Datum.TheVariants.{Valid}
use Rattle.driver.specs.Data.{confirmed, met_by}
use Rattle.driver.specs.Limits.{Train}
use Rattle.driver.specs.Entries.{DriverEntry, after_all}
use Rattle.driver.specs.Entries.DriverEntry.{Did, LevelEntered, ModeEntered}
use Rattle.mode_table.specs.declared.level.TrainLevel.{TrainLevel}
use Rattle.mode_table.specs.declared.statuses.Item.TheVariants as item
use Rattle.mode_table.specs.declared.statuses.Fate.{Fate}
use Rattle.mode_table.specs.declared.statuses.Fate.TheVariants as fate
use Rattle.mode_table.specs.Statuses.{status_on}

-- an entry gives a value, confirms the one that is known, makes of it what a mode leaves, or says nothing of it
pub data ItemReport (A : Type 0) : Type 0 where
  Gives : A → ItemReport A
  Confirms : ItemReport A
  Leaves : Fate → ItemReport A
  Nothing : ItemReport A

abbrev pub identity_reported : DriverEntry → ItemReport (List ℕ)
identity_reported (Did (EnterIdentity identity) occasion) = Gives identity
identity_reported (Did (Confirm confirm.Identity) occasion) = Confirms
identity_reported (ModeEntered mode) = Leaves (status_on item.Identity mode)
identity_reported entry = Nothing

abbrev pub running_number_reported : DriverEntry → ItemReport ℕ
running_number_reported (Did (EnterRunningNumber number) occasion) = Gives number
running_number_reported (Did (Confirm confirm.RunningNumber) occasion) = Confirms
running_number_reported (ModeEntered mode) = Leaves (status_on item.RunningNumber mode)
running_number_reported entry = Nothing

abbrev pub train_data_reported : DriverEntry → ItemReport Train
train_data_reported (Did (EnterTrainData train) occasion) = Gives train
train_data_reported (Did (Confirm confirm.TrainData) occasion) = Confirms
train_data_reported (ModeEntered mode) = Leaves (status_on item.TrainData mode)
train_data_reported entry = Nothing

-- a level is given by the driver's choice, and where an announced one comes into force
abbrev pub level_reported : DriverEntry → ItemReport TrainLevel
level_reported (Did (ChooseLevel level) occasion) = Gives level
level_reported (Did (Confirm confirm.Level) occasion) = Confirms
level_reported (LevelEntered level) = Gives level
level_reported (ModeEntered mode) = Leaves (status_on item.Level mode)
level_reported entry = Nothing

-- ---- what that makes of a datum

abbrev pub after_reported : {A : Type 0} → ItemReport A → Datum A → Datum A
after_reported (Gives value) before = Valid value
after_reported Confirms before = confirmed before
after_reported (Leaves fate) before = met_by fate before
after_reported Nothing before = before

-- a datum that was kept as the life began, after all entries
abbrev pub datum_after : {A : Type 0} → (DriverEntry → ItemReport A) → Datum A → List DriverEntry → Datum A
datum_after reported kept entries = after_all (λ entry. after_reported (reported entry)) kept entries

-- ---- of what comes in

abbrev pub gives : {A : Type 0} → ItemReport A → Bool
gives (Gives value) = true
gives reported = false

abbrev pub confirms : {A : Type 0} → ItemReport A → Bool
confirms Confirms = true
confirms reported = false

-- what was valid isn't so after it
abbrev pub ends : {A : Type 0} → ItemReport A → Bool
ends (Leaves fate.Invalid) = true
ends (Leaves fate.Deleted) = true
ends reported = false

abbrev pub deletes : {A : Type 0} → ItemReport A → Bool
deletes (Leaves fate.Deleted) = true
deletes reported = false
