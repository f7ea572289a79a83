-- What the equipment does with demands (this project's profile): `strict` brakes until the driver acknowledges at
-- standstill, `warn` only reports. The guard is outside the unit and its journal, and can only add to the unit's brake.
use Rattle.std.specs.Prelude.{◌≡◌, ◌≤◌, ◌+◌, ℕ, Bool, true, false, List, [], ◌∷◌, length, Option, Some, None, if◌then◌else◌}
use Rattle.std.specs.List.{AllByRecursion as Each, Contains}
use Rattle.events.specs.declared.output.Brake.{Brake}
use Rattle.events.specs.declared.output.Brake.TheVariants as brakes
use Rattle.track_guard.specs.Demands.{Demanded}
use Rattle.track_guard.specs.declared.demanding.Demand.{Demand}
use Rattle.track_guard.specs.declared.demanding.Situation.{Situation}
use Rattle.track_guard.specs.declared.finding.Action.{Action}
use Rattle.track_guard.specs.declared.finding.Action.TheVariants as actions
use Rattle.track_guard.specs.declared.guard.Guard.{Guard}
use Rattle.track_guard.specs.declared.guard.Policy.{Policy}
use Rattle.track_guard.specs.declared.guard.Policy.TheVariants.{Strict, Warn}
use Rattle.track_guard.specs.declared.tally.Tally.{Tally}

-- ---- brakes

abbrev pub strength : Brake → ℕ
strength brakes.None = 0
strength brakes.Service = 1
strength brakes.Emergency = 2

abbrev pub stronger : Brake → Brake → Brake
stronger brakes.Emergency other = brakes.Emergency
stronger brakes.None other = other
stronger brakes.Service brakes.Emergency = brakes.Emergency
stronger brakes.Service brakes.Service = brakes.Service
stronger brakes.Service brakes.None = brakes.Service

-- the brake that an action is
abbrev pub brake_of : Action → Brake
brake_of actions.Trip = brakes.Emergency
brake_of actions.ServiceBrake = brakes.Service
brake_of actions.NotObeyed = brakes.None
brake_of actions.Unreadable = brakes.None

-- the strongest one of some demands
abbrev pub brake_of_all : List Demand → Brake
brake_of_all [] = brakes.None
brake_of_all (d ∷ ds) = stronger (brake_of d.action) (brake_of_all ds)

-- how many demands there are, and the strongest brake of them
abbrev pub tally_of : List Demand → Tally
tally_of ds = record { count = length ds; brake = brake_of_all ds }

-- one more before them
abbrev pub tally_with : Option Demand → Tally → Tally
tally_with None t = t
tally_with (Some d) t = record { count = t.count + 1; brake = stronger (brake_of d.action) t.brake }

-- those of a telegram
abbrev pub IsTally : Situation → List ℕ → Tally → Type 0
IsTally s bytes t = (demands : List Demand) × Demanded s bytes demands × (t ≡ tally_of demands)

-- ---- a guard

-- after a power-up: it holds no brake, and has heard no telegram
abbrev pub empty : Policy → Guard
empty policy = record { policy = policy; brake = brakes.None; has_heard = false }

abbrev pub held_by : Policy → Brake → List Demand → Brake
held_by Strict brake demands = stronger brake (brake_of_all demands)
held_by Warn brake demands = brake

-- it heard a telegram with these demands
abbrev pub heard : List Demand → Guard → Guard
heard demands g = record { policy = g.policy; brake = held_by g.policy g.brake demands; has_heard = true }

-- it heard a telegram, and counted its demands
abbrev pub HearsAll : Situation → List ℕ → Guard → Guard → ℕ → Type 0
HearsAll s bytes before after count = (demands : List Demand) × Demanded s bytes demands × (after ≡ heard demands before) × (count ≡ length demands)

-- the driver acknowledged
abbrev pub acknowledged : Bool → Guard → Guard
acknowledged stands g = if stands then record { policy = g.policy; brake = brakes.None; has_heard = g.has_heard } else g

-- what is commanded where the unit commands this
abbrev pub commanded : Brake → Guard → Brake
commanded unit g = stronger unit g.brake

-- ---- its laws

-- what happens to a guard after its power-up
pub data Event : Type 0 where
  Heard : List Demand → Event
  Acknowledged : Bool → Event

abbrev pub after : Event → Guard → Guard
after (Event.Heard demands) g = heard demands g
after (Event.Acknowledged stands) g = acknowledged stands g

-- events one after another, the first one first
abbrev pub after_all : List Event → Guard → Guard
after_all [] g = g
after_all (e ∷ es) g = after_all es (after e g)

-- it never takes away from the unit's brake
abbrev pub OnlyAdds : Type 0
OnlyAdds = (g : Guard) (unit : Brake) → strength unit ≤ strength (commanded unit g)

-- one that warns changes nothing, whatever happens
abbrev pub WarningChangesNothing : Type 0
WarningChangesNothing = (events : List Event) (unit : Brake) → commanded unit (after_all events (empty Warn)) ≡ unit

-- whether an event is no acknowledgement at standstill
abbrev pub is_no_release : Event → Bool
is_no_release (Event.Heard demands) = true
is_no_release (Event.Acknowledged true) = false
is_no_release (Event.Acknowledged false) = true

-- a strict one that heard a demand of a trip commands the emergency brake up to an acknowledgement at standstill
abbrev pub TripIsHeld : Type 0
TripIsHeld =
    (g : Guard) (demands : List Demand) (d : Demand) (events : List Event) (unit : Brake) → g.policy ≡ Strict → Contains demands d → d.action ≡ actions.Trip
    → Each (λ e. is_no_release e ≡ true) events → commanded unit (after_all events (heard demands g)) ≡ brakes.Emergency
