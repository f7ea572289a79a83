use Rattle.track_guard.proofs.Directions.{only_one_way_is_left_out, unknown_demands_what_each_does}
use Rattle.track_guard.proofs.laws.unknown_direction_demands_what_each_does.Goals as goal

pub returns-clause-each : goal.returns-clause-each
returns-clause-each c = unknown_demands_what_each_does

pub returns-clause-left_out : goal.returns-clause-left_out
returns-clause-left_out c = only_one_way_is_left_out
