-- The numbers by which C gets why (this project's profile; docs/explain/brakes.md reports each cause at length).
use Rattle.std.specs.Prelude.{ℕ, List, map, Option, Some, None, is_some}
use Rattle.c_numbers.specs.Numbers.{or_zero, flag_of}
use Rattle.kernel.specs.Causes.{all_causes}
use Rattle.mode_control.specs.declared.tripping.TripCause.{TripCause}
use Rattle.mode_control.specs.declared.tripping.TripCause.TheVariants.{EndPassed, Linking, Stop, StaffDistance, Level}
use Rattle.reasons.specs.declared.runs.Runs.{Runs}
use Rattle.reasons.specs.Runs.{first_in}
use Rattle.reasons.specs.declared.trips.TripReport.{TripReport}

-- of each cause of a brake, in the order of the table, from which event on it has held; 0 where it doesn't hold
abbrev pub since_of : Runs → List ℕ
since_of runs = map (λ why. or_zero (first_in runs why)) all_causes

-- .. and whether it holds
abbrev pub holds_of : Runs → List ℕ
holds_of runs = map (λ why. flag_of (is_some (first_in runs why))) all_causes

abbrev pub trip_number : TripCause → ℕ
trip_number EndPassed = 1
trip_number Linking = 2
trip_number Stop = 3
trip_number StaffDistance = 4
trip_number Level = 5

-- why Trip was entered, 0 where it isn't known that one is owed
abbrev pub trip_cause_reported : Option TripReport → ℕ
trip_cause_reported None = 0
trip_cause_reported (Some reported) = trip_number reported.cause

-- .. and by which event
abbrev pub trip_event_reported : Option TripReport → ℕ
trip_event_reported None = 0
trip_event_reported (Some reported) = reported.event
