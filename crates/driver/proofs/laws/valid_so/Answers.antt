use Rattle.driver.specs.Description.{identity_reported, running_number_reported, train_data_reported, level_reported}
use Rattle.driver.proofs.Columns.{identity_stays, running_number_stays, train_data_stay, level_stays}
use Rattle.driver.proofs.Validity.{valid_so}
use Rattle.driver.proofs.laws.valid_so.Goals as goal

pub returns-clause-identity : goal.returns-clause-identity
returns-clause-identity c = valid_so identity_reported identity_stays

pub returns-clause-running_number : goal.returns-clause-running_number
returns-clause-running_number c = valid_so running_number_reported running_number_stays

pub returns-clause-train_data : goal.returns-clause-train_data
returns-clause-train_data c = valid_so train_data_reported train_data_stay

pub returns-clause-level : goal.returns-clause-level
returns-clause-level c = valid_so level_reported level_stays
