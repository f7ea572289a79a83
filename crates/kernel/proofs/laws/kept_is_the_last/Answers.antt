use Rattle.std.proofs.Common.{refl}
use Rattle.driver.proofs.Columns.{identity_stays, running_number_stays, train_data_stay, level_stays}
use Rattle.driver.specs.Data.{value_of}
use Rattle.driver.specs.Description.{identity_reported, running_number_reported, train_data_reported, level_reported}
use Rattle.kernel.specs.Lives.{kept_by}
use Rattle.kernel.proofs.Items.{events_counted, lives_counted, last_given, identity_is, running_number_is, train_data_is, level_is, trip_so, position_so}
use Rattle.kernel.proofs.laws.kept_is_the_last.Goals as goal

pub returns-clause-counts : goal.returns-clause-counts
returns-clause-counts c events = (events_counted events, lives_counted events)

pub returns-clause-identity : goal.returns-clause-identity
returns-clause-identity c = last_given identity_reported identity_stays (λ events. (kept_by events).identity) identity_is

pub returns-clause-running_number : goal.returns-clause-running_number
returns-clause-running_number c = last_given running_number_reported running_number_stays (λ events. (kept_by events).running_number) running_number_is

pub returns-clause-train_data : goal.returns-clause-train_data
returns-clause-train_data c = last_given train_data_reported train_data_stay (λ events. (kept_by events).train_data) train_data_is

pub returns-clause-level : goal.returns-clause-level
returns-clause-level c = last_given level_reported level_stays (λ events. value_of (kept_by events).level) level_is

pub returns-clause-trip : goal.returns-clause-trip
returns-clause-trip c = trip_so

pub returns-clause-position : goal.returns-clause-position
returns-clause-position c = position_so

pub returns-clause-national : goal.returns-clause-national
returns-clause-national c events cold = refl
