-- What C asks of a guard, in numbers (this project's profile; those of modes: SUBSET-026, 7.5.1). Where a number isn't one
-- of those here, the status is 255, and nothing changes.
use Rattle.std.specs.Prelude.{◌≡◌, ℕ, ◌==◌, nat_lt, Bool, true, false, List, Option, Some, None, if◌then◌else◌}
use Rattle.std.specs.List.{slice_get}
use Rattle.events.specs.declared.output.Brake.{Brake}
use Rattle.events.specs.declared.output.Brake.TheVariants as brakes
use Rattle.mode_table.specs.Numbers.{mode_by}
use Rattle.mode_table.specs.declared.mode.Mode.{Mode}
use Rattle.telegram.specs.Faults.{number_of_fault}
use Rattle.vars.specs.declared.linking.LinkOrientation.{LinkOrientation}
use Rattle.vars.specs.declared.linking.LinkOrientation.TheVariants.{Reverse, Nominal}
use Rattle.track_guard.specs.Demands.{Demanded}
use Rattle.track_guard.specs.Guarding.{HearsAll, commanded}
use Rattle.track_guard.specs.Table.{table}
use Rattle.track_guard.specs.declared.demand_calls.EtcsDemand.{EtcsDemand}
use Rattle.track_guard.specs.declared.guard_calls.EtcsGuard.{EtcsGuard}
use Rattle.track_guard.specs.declared.situation.EtcsSituation.{EtcsSituation}
use Rattle.track_guard.specs.declared.demanding.Demand.{Demand}
use Rattle.track_guard.specs.declared.demanding.Situation.{Situation}
use Rattle.track_guard.specs.declared.demanding.Source.{Source}
use Rattle.track_guard.specs.declared.demanding.Source.TheVariants as sources
use Rattle.track_guard.specs.declared.finding.Action.{Action}
use Rattle.track_guard.specs.declared.finding.Action.TheVariants as actions
use Rattle.track_guard.specs.declared.finding.Finding.{Finding}
use Rattle.track_guard.specs.declared.finding.Finding.TheVariants as findings
use Rattle.track_guard.specs.declared.finding.Sureness.{Sureness}
use Rattle.track_guard.specs.declared.finding.Sureness.TheVariants as sure
use Rattle.track_guard.specs.declared.guard.Guard.{Guard}
use Rattle.track_guard.specs.declared.guard.Policy.{Policy}
use Rattle.track_guard.specs.declared.guard.Policy.TheVariants.{Strict, Warn}

-- ---- numbers

abbrev pub mode_by_number : ℕ → Option Mode
mode_by_number number = if nat_lt number 256 then mode_by number else None

abbrev pub direction_by : ℕ → Option (Option LinkOrientation)
direction_by number =
    if number == 0 then Some (Some Reverse) else if number == 1 then Some (Some Nominal) else if number == 2 then Some None else None

abbrev pub flag_by : ℕ → Option Bool
flag_by number = if number == 0 then Some false else if number == 1 then Some true else None

abbrev pub flag_number : Bool → ℕ
flag_number false = 0
flag_number true = 1

abbrev pub situation_of : Option Mode → Option (Option LinkOrientation) → Option Bool → Option Situation
situation_of None direction overridden = None
situation_of (Some mode) None overridden = None
situation_of (Some mode) (Some direction) None = None
situation_of (Some mode) (Some direction) (Some overridden) = Some (record { mode = mode; direction = direction; overridden = overridden })

abbrev pub situation_by : EtcsSituation → Option Situation
situation_by s = situation_of (mode_by_number s.mode) (direction_by s.direction) (flag_by s.overridden)

abbrev pub action_number : Action → ℕ
action_number actions.Trip = 1
action_number actions.ServiceBrake = 2
action_number actions.NotObeyed = 3
action_number actions.Unreadable = 4

abbrev pub finding_number : Finding → ℕ
finding_number findings.StopInStaffResponsible = 1
finding_number findings.DangerForShunting = 2
finding_number findings.ShuntingBalises = 3
finding_number findings.StopShunting = 4
finding_number findings.Repositioning = 5
finding_number findings.ConditionalLevel = 6
finding_number findings.AxleLoadSpeeds = 7
finding_number findings.RouteSuitability = 8
finding_number findings.SlipperyRail = 9
finding_number findings.EndlessEndSpeed = 10
finding_number findings.GreaterVersion = 11
finding_number findings.SameVersion = 12
finding_number findings.LesserVersion = 13
finding_number findings.RefusedUnlinked = 14
finding_number findings.Refused = 15

abbrev pub sureness_number : Sureness → ℕ
sureness_number sure.Sure = 1
sureness_number sure.FairlySure = 2
sureness_number sure.ToBeLookedUp = 3

abbrev pub policy_by : ℕ → Option Policy
policy_by number = if number == 1 then Some Strict else if number == 2 then Some Warn else None

abbrev pub policy_number : Policy → ℕ
policy_number Strict = 1
policy_number Warn = 2

abbrev pub brake_by : ℕ → Option Brake
brake_by number =
    if number == 0 then Some brakes.None else if number == 1 then Some brakes.Service else if number == 2 then Some brakes.Emergency else None

abbrev pub brake_number : Brake → ℕ
brake_number brakes.None = 0
brake_number brakes.Service = 1
brake_number brakes.Emergency = 2

-- ---- a demand

-- NID_PACKET; 256 for the whole telegram
abbrev pub packet_number : Source → ℕ
packet_number (sources.Packet p) = p.number
packet_number (sources.Refused fault) = 256

abbrev pub place_start : Source → ℕ
place_start (sources.Packet p) = p.start
place_start (sources.Refused fault) = 0

abbrev pub place_bits : Source → ℕ
place_bits (sources.Packet p) = p.length
place_bits (sources.Refused fault) = 0

abbrev pub fault_number : Source → ℕ
fault_number (sources.Packet p) = 0
fault_number (sources.Refused fault) = number_of_fault fault

-- with the row of the table
abbrev pub demand_for_c : Demand → EtcsDemand
demand_for_c d = record {
  action = action_number d.action;
  finding = finding_number d.finding;
  packet = packet_number d.source;
  start = place_start d.source;
  bits = place_bits d.source;
  fault = fault_number d.source;
  chapter = (table d.finding).section.chapter;
  section = (table d.finding).section.section;
  clause = (table d.finding).section.clause;
  sureness = sureness_number (table d.finding).sureness;
}

-- a demand, or the end of the list
abbrev pub AnswersOne : Option Demand → EtcsDemand → EtcsDemand → ℕ → Type 0
AnswersOne (Some d) before out status = (status ≡ 0) × (out ≡ demand_for_c d)
AnswersOne None before out status = (status ≡ 38) × (out ≡ before)

abbrev pub AnswersDemandIn : List ℕ → Situation → ℕ → EtcsDemand → EtcsDemand → ℕ → Type 0
AnswersDemandIn bytes s index before out status = (demands : List Demand) × Demanded s bytes demands × AnswersOne (slice_get demands index) before out status

abbrev pub AnswersDemand : List ℕ → Option Situation → ℕ → EtcsDemand → EtcsDemand → ℕ → Type 0
AnswersDemand bytes None index before out status = (status ≡ 255) × (out ≡ before)
AnswersDemand bytes (Some s) index before out status = AnswersDemandIn bytes s index before out status

-- ---- a guard

abbrev pub guard_from : Option Policy → Option Brake → Option Bool → Option Guard
guard_from None brake has_heard = None
guard_from (Some policy) None has_heard = None
guard_from (Some policy) (Some brake) None = None
guard_from (Some policy) (Some brake) (Some has_heard) = Some (record { policy = policy; brake = brake; has_heard = has_heard })

abbrev pub guard_by : EtcsGuard → Option Guard
guard_by g = guard_from (policy_by g.policy) (brake_by g.brake) (flag_by g.has_heard)

abbrev pub guard_for_c : Guard → EtcsGuard
guard_for_c g = record { policy = policy_number g.policy; brake = brake_number g.brake; has_heard = flag_number g.has_heard }

-- what a call makes of a guard: by another one, or, where there is none, nothing and the status 255
abbrev pub Becomes : Option Guard → EtcsGuard → EtcsGuard → ℕ → Type 0
Becomes None before g status = (status ≡ 255) × (g ≡ before)
Becomes (Some becomes) before g status = (status ≡ 0) × (g ≡ guard_for_c becomes)

-- it hears a telegram, and counts its demands
abbrev pub HearsIn : List ℕ → Situation → Guard → EtcsGuard → ℕ → ℕ → Type 0
HearsIn bytes s before g count status = (after : Guard) × HearsAll s bytes before after count × (status ≡ 0) × (g ≡ guard_for_c after)

abbrev pub Hears : List ℕ → Option Situation → Option Guard → EtcsGuard → EtcsGuard → ℕ → ℕ → ℕ → Type 0
Hears bytes None guard before g count_before count status = (status ≡ 255) × (g ≡ before) × (count ≡ count_before)
Hears bytes (Some s) None before g count_before count status = (status ≡ 255) × (g ≡ before) × (count ≡ count_before)
Hears bytes (Some s) (Some guard) before g count_before count status = HearsIn bytes s guard g count status

-- the brake to command
abbrev pub Commands : Option Guard → Option Brake → ℕ → ℕ → ℕ → Type 0
Commands None unit before brake status = (status ≡ 255) × (brake ≡ before)
Commands (Some g) None before brake status = (status ≡ 255) × (brake ≡ before)
Commands (Some g) (Some unit) before brake status = (status ≡ 0) × (brake ≡ brake_number (commanded unit g))
