-- What the columns of the modes leave of the driver's data: none deletes one, and the train data alone are made
-- invalid.
use Rattle.std.proofs.Common.{◌≡◌, false, refl}
use Rattle.driver.specs.declared.action.Action.TheVariants.{EnterIdentity, EnterRunningNumber, EnterTrainData, ChooseLevel, Confirm}
use Rattle.driver.specs.declared.action.Confirmed.TheVariants as confirm
use Rattle.driver.specs.Entries.{DriverEntry}
use Rattle.driver.specs.Entries.DriverEntry.{Did, LevelEntered, ModeEntered}
use Rattle.driver.specs.Description.{identity_reported, running_number_reported, train_data_reported, level_reported, ends, deletes}
use Rattle.mode_table.specs.declared.mode.Mode.TheVariants.{StandBy}

pub identity_stays : (entry : DriverEntry) → deletes (identity_reported entry) ≡ false
identity_stays (Did (EnterIdentity identity) occasion) = refl
identity_stays (Did (Confirm confirm.Identity) occasion) = refl
identity_stays (ModeEntered StandBy) = refl
identity_stays entry = refl

pub running_number_stays : (entry : DriverEntry) → deletes (running_number_reported entry) ≡ false
running_number_stays (Did (EnterRunningNumber number) occasion) = refl
running_number_stays (Did (Confirm confirm.RunningNumber) occasion) = refl
running_number_stays (ModeEntered StandBy) = refl
running_number_stays entry = refl

pub train_data_stay : (entry : DriverEntry) → deletes (train_data_reported entry) ≡ false
train_data_stay (Did (EnterTrainData train) occasion) = refl
train_data_stay (Did (Confirm confirm.TrainData) occasion) = refl
train_data_stay (ModeEntered StandBy) = refl
train_data_stay entry = refl

pub level_stays : (entry : DriverEntry) → deletes (level_reported entry) ≡ false
level_stays (Did (ChooseLevel level) occasion) = refl
level_stays (Did (Confirm confirm.Level) occasion) = refl
level_stays (LevelEntered level) = refl
level_stays (ModeEntered StandBy) = refl
level_stays entry = refl

pub identity_valid : (entry : DriverEntry) → ends (identity_reported entry) ≡ false
identity_valid (Did (EnterIdentity identity) occasion) = refl
identity_valid (Did (Confirm confirm.Identity) occasion) = refl
identity_valid (ModeEntered StandBy) = refl
identity_valid entry = refl

pub running_number_valid : (entry : DriverEntry) → ends (running_number_reported entry) ≡ false
running_number_valid (Did (EnterRunningNumber number) occasion) = refl
running_number_valid (Did (Confirm confirm.RunningNumber) occasion) = refl
running_number_valid (ModeEntered StandBy) = refl
running_number_valid entry = refl

pub level_valid : (entry : DriverEntry) → ends (level_reported entry) ≡ false
level_valid (Did (ChooseLevel level) occasion) = refl
level_valid (Did (Confirm confirm.Level) occasion) = refl
level_valid (LevelEntered level) = refl
level_valid (ModeEntered StandBy) = refl
level_valid entry = refl
