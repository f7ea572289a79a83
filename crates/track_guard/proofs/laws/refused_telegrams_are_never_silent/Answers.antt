use Rattle.std.proofs.Common.{◌≡◌, ℕ, Bool, true, false, ◌&&◌, ◌||◌, not, nat_lt, if◌then◌else◌, List, [], ◌∷◌, Option, Some, None, refl}
use Rattle.std.specs.Option.{option_map}
use Rattle.bits.specs.Bits.{bits_of}
use Rattle.mode_table.specs.Modes.{is_one_of}
use Rattle.telegram.specs.declared.fault.TelegramFault.{TelegramFault}
use Rattle.telegram.specs.declared.fault.TelegramFault.TheVariants as faults
use Rattle.track_guard.specs.Demands.{demand_in, list_of, with_action}
use Rattle.track_guard.specs.Findings.{field_at, finding_of_fault, is_number, version_found}
use Rattle.track_guard.specs.Table.{moving}
use Rattle.track_guard.specs.declared.demanding.Demand.{Demand}
use Rattle.track_guard.specs.declared.demanding.Situation.{Situation}
use Rattle.track_guard.specs.declared.demanding.Source.{Source}
use Rattle.track_guard.specs.declared.demanding.Source.TheVariants as sources
use Rattle.track_guard.specs.declared.finding.Action.{Action}
use Rattle.track_guard.specs.declared.finding.Action.TheVariants.{Trip, ServiceBrake, Unreadable}
use Rattle.track_guard.specs.declared.finding.Finding.{Finding}
use Rattle.track_guard.specs.declared.finding.Finding.TheVariants.{GreaterVersion, SameVersion, LesserVersion, RefusedUnlinked, Refused}
use Rattle.track_guard.proofs.laws.refused_telegrams_are_never_silent.Goals as goal

abbrev Demands : Situation → Source → Finding → Type 0
Demands s source finding = (d : Demand) × (list_of (demand_in s source finding) ≡ d ∷ [])

in_either : (source : Source) (finding : Finding) (there elsewhere : Action) (is_there : Bool)
    → (d : Demand) × (list_of (option_map (with_action source finding) (if is_there then Some there else Some elsewhere)) ≡ d ∷ [])
in_either source finding there elsewhere true = (_, refl)
in_either source finding there elsewhere false = (_, refl)

abbrev is_there : Situation → Bool
is_there s = is_one_of moving s.mode && (true || not s.overridden)

of_version : (s : Situation) (source : Source) (greater same : Bool)
    → Demands s source (if greater then GreaterVersion else if same then SameVersion else LesserVersion)
of_version s source true same = in_either source GreaterVersion Trip Unreadable (is_there s)
of_version s source false true = in_either source SameVersion Unreadable Unreadable (is_there s)
of_version s source false false = in_either source LesserVersion Unreadable Unreadable (is_there s)

by_version : (s : Situation) (source : Source) (version : Option ℕ) → Demands s source (version_found version)
by_version s source None = in_either source LesserVersion Unreadable Unreadable (is_there s)
by_version s source (Some version) = of_version s source (nat_lt 31 version) (nat_lt 15 version)

by_link : (s : Situation) (source : Source) (unlinked : Bool) → Demands s source (if unlinked then RefusedUnlinked else Refused)
by_link s source true = in_either source RefusedUnlinked ServiceBrake Unreadable (is_there s)
by_link s source false = in_either source Refused Unreadable Unreadable (is_there s)

refused : (s : Situation) (source : Source) → Demands s source Refused
refused s source = in_either source Refused Unreadable Unreadable (is_there s)

by_fault : (s : Situation) (source : Source) (fault : TelegramFault) (bits : List Bool) → Demands s source (finding_of_fault fault bits)
by_fault s source faults.WrongVersion bits = by_version s source (field_at 1 7 bits)
by_fault s source faults.Truncated bits = by_link s source (is_number 0 (field_at 49 1 bits))
by_fault s source faults.WrongLength bits = by_link s source (is_number 0 (field_at 49 1 bits))
by_fault s source faults.Spare bits = by_link s source (is_number 0 (field_at 49 1 bits))
by_fault s source faults.OutOfRange bits = by_link s source (is_number 0 (field_at 49 1 bits))
by_fault s source faults.NotUplink bits = refused s source
by_fault s source faults.NotBalise bits = refused s source
by_fault s source faults.NoEnd bits = by_link s source (is_number 0 (field_at 49 1 bits))
by_fault s source faults.TooLong bits = by_link s source (is_number 0 (field_at 49 1 bits))

pub returns : goal.returns
returns c = λ s bytes fault. by_fault s (sources.Refused fault) fault (bits_of bytes)
