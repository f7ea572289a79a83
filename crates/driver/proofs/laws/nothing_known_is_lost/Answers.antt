use Rattle.driver.specs.Description.{identity_reported, running_number_reported, train_data_reported, level_reported}
use Rattle.driver.proofs.Columns.{identity_stays, running_number_stays, train_data_stay, level_stays, identity_valid, running_number_valid, level_valid}
use Rattle.driver.proofs.Validity.{stays_known, stays_valid}
use Rattle.driver.proofs.laws.nothing_known_is_lost.Goals as goal

pub returns-clause-identity : goal.returns-clause-identity
returns-clause-identity c = (stays_known identity_reported identity_stays, stays_valid identity_reported identity_valid)

pub returns-clause-running_number : goal.returns-clause-running_number
returns-clause-running_number c = (stays_known running_number_reported running_number_stays, stays_valid running_number_reported running_number_valid)

pub returns-clause-train_data : goal.returns-clause-train_data
returns-clause-train_data c = stays_known train_data_reported train_data_stay

pub returns-clause-level : goal.returns-clause-level
returns-clause-level c = (stays_known level_reported level_stays, stays_valid level_reported level_valid)
