-- Laws of the demands (the table: this project's profile).
use Rattle.std.specs.Prelude.{◌≡◌, ◌↔◌, ℕ, ◌==◌, Bool, true, false, ◌&&◌, List, [], ◌∷◌, ◌++◌, drop, Option, Some, None}
use Rattle.std.specs.List.{AllByRecursion as Each, AllZip, Contains, filter}
use Rattle.bits.specs.Bits.{bits_of}
use Rattle.bits.specs.Layout.{Begins}
use Rattle.mode_table.specs.Packets.{uses}
use Rattle.packets.specs.Packets.{packet as packet_layout, length_of}
use Rattle.packets.specs.declared.packet.Packet.{Packet}
use Rattle.telegram.specs.Telegrams.{Carries}
use Rattle.telegram.specs.declared.message.Telegram.{Telegram}
use Rattle.telegram.specs.declared.fault.TelegramFault.{TelegramFault}
use Rattle.track_packets.specs.declared.listing.PacketPlace.{PacketPlace}
use Rattle.vars.specs.declared.linking.LinkOrientation.{LinkOrientation}
use Rattle.vars.specs.declared.linking.LinkOrientation.TheVariants.{Nominal, Reverse}
use Rattle.track_guard.specs.Demands.{before_infill, concerns, demands_in, demands_of, fault_found, packets_found}
use Rattle.track_guard.specs.Findings.{finding_in, is_endless}
use Rattle.track_guard.specs.Table.{action_by, table}
use Rattle.track_guard.specs.declared.demanding.Demand.{Demand}
use Rattle.track_guard.specs.declared.demanding.Situation.{Situation}
use Rattle.track_guard.specs.declared.demanding.Source.{Source}
use Rattle.track_guard.specs.declared.demanding.Source.TheVariants as sources

-- the bits from the first one of a packet on
abbrev pub bits_from : List ℕ → PacketPlace → List Bool
bits_from bytes p = drop p.start (bits_of bytes)

-- ---- the rows that apply are demanded, and nothing else

-- The packet is valid for the train, the finding is in it, and the table's row demands the action in this situation.
pub record Applies (s : Situation) (bytes : List ℕ) (p : PacketPlace) (d : Demand) : Type 0 where
  pub valid : concerns p.direction s.direction ≡ true
  pub found : finding_in p.number p.length (bits_from bytes p) ≡ Some d.finding
  pub demanded : action_by (table d.finding) s.mode s.overridden ≡ Some d.action
  pub source : d.source ≡ sources.Packet p

-- What packets demand is each row of the table that applies to one of them before infill, and no other demand.
abbrev pub RowsAreDemanded : Type 0
RowsAreDemanded =
    (s : Situation) (bytes : List ℕ) (packets : List PacketPlace) (d : Demand)
    → Contains (demands_in s bytes packets) d ↔ ((p : PacketPlace) × Contains (before_infill packets) p × Applies s bytes p d)

-- ---- the packets that are looked at are all of the telegram

-- A packet is spelled at its place, and has as many bits as L_PACKET says.
pub record IsPlaceOf (bits : List Bool) (packet : Packet) (p : PacketPlace) : Type 0 where
  pub rest : List Bool
  pub spelled : Begins packet_layout packet (drop p.start bits) rest
  pub length : p.length ≡ length_of packet

-- Of a telegram that bytes carry each packet has a place, in their order, and there is no other place.
abbrev pub AllAreLookedAt : Type 0
AllAreLookedAt = (bytes : List ℕ) (t : Telegram) → Carries bytes t → AllZip (IsPlaceOf (bits_of bytes)) t.packets.items (packets_found bytes)

-- ---- none is lost where several packets are in one message, and none takes another's place

-- Where no packet 136 is among the first ones, their demands come first, and then those of the others.
abbrev pub EachByItself : Type 0
EachByItself =
    (s : Situation) (bytes : List ℕ) (first others : List PacketPlace) → Each (λ p. (p.number == 136) ≡ false) first
    → demands_in s bytes (first ++ others) ≡ demands_in s bytes first ++ demands_in s bytes others

-- ---- what the kernel uses demands nothing

-- its mode uses the packet's number, and the packet is no authority with a V_LOA that never ends
pub record IsUsedInFull (s : Situation) (bytes : List ℕ) (p : PacketPlace) : Type 0 where
  pub used : uses s.mode p.number ≡ true
  pub ends : p.number ≡ 12 → is_endless (bits_from bytes p) ≡ false

abbrev pub UsedDemandsNothing : Type 0
UsedDemandsNothing =
    (s : Situation) (bytes : List ℕ) (packets : List PacketPlace) → Each (IsUsedInFull s bytes) packets → demands_in s bytes packets ≡ []

-- ---- a telegram that is refused demands something in every mode

abbrev pub RefusedIsNeverSilent : Type 0
RefusedIsNeverSilent = (s : Situation) (bytes : List ℕ) (fault : TelegramFault) → (d : Demand) × (fault_found s bytes (Some fault) ≡ d ∷ [])

-- ---- where the direction isn't known, what is demanded is what both directions demand

-- the same train, passing the group in a direction; None where that isn't known
abbrev pub passing : Option LinkOrientation → Situation → Situation
passing direction s = record { mode = s.mode; direction = direction; overridden = s.overridden }

-- A demand is made where the direction isn't known exactly where it is made in each direction.
abbrev pub UnknownDemandsWhatEachDoes : Type 0
UnknownDemandsWhatEachDoes =
    (s : Situation) (bytes : List ℕ) (fault : Option TelegramFault) (d : Demand)
    → Contains (demands_of (passing None s) bytes fault) d
    ↔ (Contains (demands_of (passing (Some Nominal) s) bytes fault) d × Contains (demands_of (passing (Some Reverse) s) bytes fault) d)

-- found in a telegram that is refused, or in a packet that is valid in both directions
abbrev pub is_either_way : Source → Bool
is_either_way (sources.Packet p) = concerns p.direction (Some Nominal) && concerns p.direction (Some Reverse)
is_either_way (sources.Refused fault) = true

-- Of the demands in a direction, those found in a packet for that direction only are left out, and no other. Their order stays.
abbrev pub OnlyOneWayIsLeftOut : Type 0
OnlyOneWayIsLeftOut =
    (s : Situation) (bytes : List ℕ) (fault : Option TelegramFault) (passed : LinkOrientation)
    → demands_of (passing None s) bytes fault ≡ filter (λ d. is_either_way d.source) (demands_of (passing (Some passed) s) bytes fault)
