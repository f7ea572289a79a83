-- What a telegram demands of the equipment around the unit, by the table (SUBSET-026, 3.6.3, 7.3 and 8.4.2; which rows:
-- this project's profile): what the whole telegram demands where it is refused, and then what its packets demand, in their
-- order. Packets count also where the telegram is refused, since a train of issue 2.3.0 may be able to use it.
use Rattle.std.specs.Prelude.{◌≡◌, ℕ, ◌==◌, Bool, true, false, if◌then◌else◌, List, [], ◌∷◌, ◌++◌, drop, Option, Some, None}
use Rattle.std.specs.List.{filter_map}
use Rattle.std.specs.Option.{option_map}
use Rattle.bits.specs.Bits.{bits_of}
use Rattle.telegram.specs.Telegrams.{Carries, RefusesBytes}
use Rattle.telegram.specs.declared.fault.TelegramFault.{TelegramFault}
use Rattle.telegram.specs.declared.message.Telegram.{Telegram}
use Rattle.track_packets.specs.Listing.{listing_of}
use Rattle.track_packets.specs.declared.listing.PacketPlace.{PacketPlace}
use Rattle.vars.specs.declared.linking.LinkOrientation.{LinkOrientation}
use Rattle.vars.specs.declared.linking.LinkOrientation.TheVariants as passed
use Rattle.vars.specs.declared.packet_head.ValidityDirection.{ValidityDirection}
use Rattle.vars.specs.declared.packet_head.ValidityDirection.TheVariants as q_dir
use Rattle.track_guard.specs.Findings.{finding_in, finding_of_fault, has_known_packets}
use Rattle.track_guard.specs.Table.{action_by, table}
use Rattle.track_guard.specs.declared.demanding.Demand.{Demand}
use Rattle.track_guard.specs.declared.demanding.Situation.{Situation}
use Rattle.track_guard.specs.declared.demanding.Source.{Source}
use Rattle.track_guard.specs.declared.demanding.Source.TheVariants as sources
use Rattle.track_guard.specs.declared.finding.Action.{Action}
use Rattle.track_guard.specs.declared.finding.Finding.{Finding}

-- ---- for which trains a packet is valid

-- a line of the table
abbrev pub line : Bool → Bool → Bool → Option LinkOrientation → Bool
line nominal reverse unknown (Some passed.Nominal) = nominal
line nominal reverse unknown (Some passed.Reverse) = reverse
line nominal reverse unknown None = unknown

-- Q_DIR; in each line, by the direction in which the group is passed: nominal, reverse, not known. None is the spare
-- number, which counts as both directions
abbrev pub concerns : Option ValidityDirection → Option LinkOrientation → Bool
concerns None = line true true true
concerns (Some q_dir.Both) = line true true true
concerns (Some q_dir.Nominal) = line true false false
concerns (Some q_dir.Reverse) = line false true false

-- ---- one demand

abbrev pub with_action : Source → Finding → Action → Demand
with_action source finding action = record { action = action; finding = finding; source = source }

-- what the row of a finding demands
abbrev pub demand_in : Situation → Source → Finding → Option Demand
demand_in s source finding = option_map (with_action source finding) (action_by (table finding) s.mode s.overridden)

abbrev pub demand_found : Situation → Source → Option Finding → Option Demand
demand_found s source None = None
demand_found s source (Some finding) = demand_in s source finding

-- what a packet demands, where it is valid for the train, by its bits
abbrev pub demand_by : Situation → PacketPlace → List Bool → Option Demand
demand_by s p bits = if concerns p.direction s.direction then demand_found s (sources.Packet p) (finding_in p.number p.length bits) else None

abbrev pub demand_of_packet : Situation → List ℕ → PacketPlace → Option Demand
demand_of_packet s bytes p = demand_by s p (drop p.start (bits_of bytes))

-- what a telegram demands that is refused
abbrev pub demand_of_refused : Situation → List ℕ → TelegramFault → Option Demand
demand_of_refused s bytes fault = demand_in s (sources.Refused fault) (finding_of_fault fault (bits_of bytes))

-- ---- all of them

abbrev pub list_of : Option Demand → List Demand
list_of None = []
list_of (Some demand) = demand ∷ []

-- the packets before a packet 136: it and what follows it are about a group ahead
abbrev pub before_infill : List PacketPlace → List PacketPlace
before_infill [] = []
before_infill (p ∷ ps) = if p.number == 136 then [] else p ∷ before_infill ps

-- what packets demand, in their order
abbrev pub demands_in : Situation → List ℕ → List PacketPlace → List Demand
demands_in s bytes packets = filter_map (demand_of_packet s bytes) (before_infill packets)

-- the packets of a telegram that are looked at
abbrev pub packets_found : List ℕ → List PacketPlace
packets_found bytes = if has_known_packets (bits_of bytes) then (listing_of bytes).packets.items else []

abbrev pub fault_found : Situation → List ℕ → Option TelegramFault → List Demand
fault_found s bytes None = []
fault_found s bytes (Some fault) = list_of (demand_of_refused s bytes fault)

abbrev pub demands_of : Situation → List ℕ → Option TelegramFault → List Demand
demands_of s bytes fault = fault_found s bytes fault ++ demands_in s bytes (packets_found bytes)

-- the fault for which bytes are refused; None where they carry a telegram
pub record IsFaultOf (bytes : List ℕ) (fault : Option TelegramFault) : Type 0 where
  pub carried : (t : Telegram) → Carries bytes t → fault ≡ None
  pub refused : (e : TelegramFault) → RefusesBytes e bytes → fault ≡ Some e

-- The demands of bytes, whether they carry a telegram or are refused.
pub record Demanded (s : Situation) (bytes : List ℕ) (demands : List Demand) : Type 0 where
  pub carried : (t : Telegram) → Carries bytes t → demands ≡ demands_of s bytes None
  pub refused : (e : TelegramFault) → RefusesBytes e bytes → demands ≡ demands_of s bytes (Some e)
