-- The texts of each cause of a brake (this project's profile; docs/explain/brakes.md reports them at length): as JSON
-- has it, in a sentence, and how it ends.
use Rattle.std.specs.Prelude.{ℕ, List, codes}
use Rattle.kernel.specs.declared.causes.BrakeCause.{BrakeCause}
use Rattle.kernel.specs.declared.causes.BrakeCause.TheVariants as cause

abbrev pub cause_name_of : BrakeCause → List ℕ
cause_name_of cause.NotRevalidated = codes "not_revalidated"
cause_name_of cause.InTrip = codes "in_trip"
cause_name_of cause.InSystemFailure = codes "in_system_failure"
cause_name_of cause.OwesTrip = codes "owes_trip"
cause_name_of cause.FarTooFast = codes "far_too_fast"
cause_name_of cause.RolledTooFar = codes "rolled_too_far"
cause_name_of cause.ServiceBrakeRequested = codes "service_brake_requested"
cause_name_of cause.TooFast = codes "too_fast"
cause_name_of cause.MustStand = codes "must_stand"
cause_name_of cause.OwesTooLong = codes "owes_too_long"

abbrev pub sentence_of : BrakeCause → List ℕ
sentence_of cause.NotRevalidated = codes "the driver has not revalidated since the power-up"
sentence_of cause.InTrip = codes "the mode is Trip"
sentence_of cause.InSystemFailure = codes "the mode is System Failure"
sentence_of cause.OwesTrip = codes "a trip is not acknowledged"
sentence_of cause.FarTooFast =
    codes "the speed was above the limit by more than 10 km/h, and the train has not stood since"
sentence_of cause.RolledTooFar = codes "the train rolled backward too far since it stood"
sentence_of cause.ServiceBrakeRequested =
    codes "linking or a balise group asked for the service brake, and the train has not stood since"
sentence_of cause.TooFast = codes "the speed was above the limit by more than 5 km/h, and not within it since"
sentence_of cause.MustStand = codes "the train moves where it must stand"
sentence_of cause.OwesTooLong = codes "an acknowledgement has been owed for 5 s or longer"

abbrev pub ending_of : BrakeCause → List ℕ
ending_of cause.NotRevalidated = codes "ends when the driver has revalidated"
ending_of cause.InTrip = codes "ends when the driver acknowledges the trip at standstill"
ending_of cause.InSystemFailure = codes "ends at a power-up alone"
ending_of cause.OwesTrip = codes "ends when the driver acknowledges the trip at standstill"
ending_of cause.FarTooFast = codes "ends when the train stands"
ending_of cause.RolledTooFar = codes "ends when the train stands, or a greater D_NVROLL comes into force"
ending_of cause.ServiceBrakeRequested = codes "ends when the train stands"
ending_of cause.TooFast = codes "ends when the speed is within the limit"
ending_of cause.MustStand = codes "ends when the train stands, or in another mode"
ending_of cause.OwesTooLong =
    codes "ends when the driver acknowledges, a mode deletes it, or a further transition begins it anew"
