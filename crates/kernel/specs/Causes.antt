-- The causes of a brake, one by one (this project's profile). Lists are in the order of the brake table, whose causes
-- these are (`rows`, in Brake).
use Rattle.std.specs.Prelude.{◌≡◌, ◌↔◌, ℕ, ◌==◌, Bool, true, false, IsTrue, List, [], filter, map, slice_index_or}
use Rattle.std.specs.List.{list_any}
use Rattle.events.specs.declared.input.Event.{Event}
use Rattle.events.specs.declared.output.Brake.{Brake}
use Rattle.events.specs.declared.output.Brake.TheVariants as brake
use Rattle.kernel.specs.declared.causes.BrakeCause.{BrakeCause}
use Rattle.kernel.specs.declared.causes.BrakeCause.TheVariants as cause
use Rattle.kernel.specs.declared.causes.BrakeCauses.{BrakeCauses}
use Rattle.kernel.specs.Brake.{rows, causes_of}
use Rattle.kernel.specs.Lives.{life_of}
use Rattle.kernel.specs.Output.{output_after}

-- the brake that a cause commands
abbrev pub command_of : BrakeCause → Brake
command_of cause.NotRevalidated = brake.Emergency
command_of cause.InTrip = brake.Emergency
command_of cause.InSystemFailure = brake.Emergency
command_of cause.OwesTrip = brake.Emergency
command_of cause.FarTooFast = brake.Emergency
command_of cause.RolledTooFar = brake.Emergency
command_of cause.ServiceBrakeRequested = brake.Service
command_of cause.TooFast = brake.Service
command_of cause.MustStand = brake.Service
command_of cause.OwesTooLong = brake.Service

-- its place in the table, from 0 on
abbrev pub place_of : BrakeCause → ℕ
place_of cause.NotRevalidated = 0
place_of cause.InTrip = 1
place_of cause.InSystemFailure = 2
place_of cause.OwesTrip = 3
place_of cause.FarTooFast = 4
place_of cause.RolledTooFar = 5
place_of cause.ServiceBrakeRequested = 6
place_of cause.TooFast = 7
place_of cause.MustStand = 8
place_of cause.OwesTooLong = 9

abbrev pub is_cause : BrakeCause → BrakeCause → Bool
is_cause one other = place_of other == place_of one

abbrev pub is_among : BrakeCause → List BrakeCause → Bool
is_among one causes = list_any (is_cause one) causes

abbrev pub all_causes : List BrakeCause
all_causes = map (λ row. row.cause) rows

-- whether a cause is marked
abbrev pub mark : BrakeCauses → BrakeCause → Bool
mark m why = slice_index_or m.marks (place_of why) false

-- the causes that are marked, as a list
abbrev pub marked : BrakeCauses → List BrakeCause
marked m = filter (mark m) all_causes

-- ---- a brake is commanded exactly where it has a cause, the service brake where the emergency brake has none

abbrev pub is_emergency : Brake → Bool
is_emergency brake.None = false
is_emergency brake.Service = false
is_emergency brake.Emergency = true

abbrev pub is_service : Brake → Bool
is_service brake.None = false
is_service brake.Service = true
is_service brake.Emergency = false

abbrev pub causes_after : List Event → List BrakeCause
causes_after events = causes_of (life_of events)

-- one of the causes commands this brake
abbrev pub has_for_emergency : List Event → Bool
has_for_emergency events = list_any (λ why. is_emergency (command_of why)) (causes_after events)

abbrev pub has_for_service : List Event → Bool
has_for_service events = list_any (λ why. is_service (command_of why)) (causes_after events)

abbrev pub EmergencyHasCause : Type 0
EmergencyHasCause = (events : List Event) →
    ((output_after events).brake ≡ brake.Emergency) ↔ IsTrue (has_for_emergency events)

abbrev pub ServiceHasCause : Type 0
ServiceHasCause = (events : List Event) →
    ((output_after events).brake ≡ brake.Service) ↔ (IsTrue (has_for_service events) × (IsTrue (has_for_emergency events) → ⊥))

abbrev pub NoneHasNoCause : Type 0
NoneHasNoCause = (events : List Event) → ((output_after events).brake ≡ brake.None) ↔ (causes_after events ≡ [])
