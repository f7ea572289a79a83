use Rattle.std.proofs.lemmas.Bool.{cond-true}
use Rattle.events.specs.declared.output.Brake.TheVariants as brake
use Rattle.mode_table.specs.declared.mode.Mode.TheVariants.{Trip, SystemFailure}
use Rattle.kernel.specs.Brake.{is_in, is_not_revalidated, owes_trip}
use Rattle.kernel.specs.Lives.{life_of}
use Rattle.kernel.proofs.Items.{trip_so}
use Rattle.safety_laws.proofs.Commanding.{or_before}
use Rattle.safety_laws.proofs.running.outstanding_trip_brakes.Goals as goal

-- it is the fourth row
pub returns : goal.returns
returns c events tripped =
    let life = life_of events in
    or_before (is_not_revalidated life) _ (or_before (is_in Trip life) _ (or_before (is_in SystemFailure life) _
    (cond-true (owes_trip life) brake.Emergency _ ((trip_so events).1 tripped))))
