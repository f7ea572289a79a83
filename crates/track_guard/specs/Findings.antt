-- What is found in a packet, by its bits, and in a telegram that is refused (SUBSET-026, 7.4.2, 7.5.1 and 8.4.2; which
-- bits count in doubt: this project's profile). Places, widths and lengths are bits.
use Rattle.std.specs.Prelude.{ℕ, ◌+◌, ◌-◌, ◌==◌, nat_le, nat_lt, Bool, true, false, ◌&&◌, List, length, take, drop, Option, Some, None, if◌then◌else◌}
use Rattle.bits.specs.Bits.{number}
use Rattle.telegram.specs.declared.fault.TelegramFault.{TelegramFault}
use Rattle.telegram.specs.declared.fault.TelegramFault.TheVariants as faults
use Rattle.track_guard.specs.declared.finding.Finding.{Finding}
use Rattle.track_guard.specs.declared.finding.Finding.TheVariants.{StopInStaffResponsible, DangerForShunting, ShuntingBalises, StopShunting, Repositioning, ConditionalLevel, AxleLoadSpeeds, RouteSuitability, SlipperyRail, EndlessEndSpeed, GreaterVersion, SameVersion, LesserVersion, RefusedUnlinked, Refused}

-- the number of a field of so many bits, from a bit on; None where there are fewer bits
abbrev pub field_at : ℕ → ℕ → List Bool → Option ℕ
field_at at width bits = if nat_lt (length bits) (at + width) then None else Some (number (take width (drop at bits)))

abbrev pub is_number : ℕ → Option ℕ → Bool
is_number n None = false
is_number n (Some m) = m == n

abbrev pub is_above : ℕ → Option ℕ → Bool
is_above n None = false
is_above n (Some m) = nat_lt n m

-- ---- in a packet, by NID_PACKET, L_PACKET and the bits from its first one on

-- it has the length of its layout, and its last bit is 1: Q_SRSTOP, Q_ASPECT or M_ADHESION. Where the length is another,
-- the bit isn't looked for, and the packet restricts
abbrev pub ends_in_one : ℕ → ℕ → List Bool → Bool
ends_in_one layout length bits = (length == layout) && is_number 1 (field_at (layout - 1) 1 bits)

abbrev pub unless : Bool → Finding → Option Finding
unless true finding = None
unless false finding = Some finding

-- V_LOA is above 0, and T_LOA has no end
abbrev pub is_endless : List Bool → Bool
is_endless bits = is_above 0 (field_at 32 7 bits) && is_number 1023 (field_at 39 10 bits)

abbrev pub endless : Bool → Option Finding
endless true = Some EndlessEndSpeed
endless false = None

abbrev pub finding_in : ℕ → ℕ → List Bool → Option Finding
finding_in packet length bits =
    if packet == 137 then unless (ends_in_one 24 length bits) StopInStaffResponsible
    else if packet == 132 then unless (ends_in_one 24 length bits) DangerForShunting
    else if packet == 49 then Some ShuntingBalises
    else if packet == 135 then Some StopShunting
    else if packet == 16 then Some Repositioning
    else if packet == 46 then Some ConditionalLevel
    else if packet == 51 then Some AxleLoadSpeeds
    else if packet == 70 then Some RouteSuitability
    else if packet == 71 then unless (ends_in_one 56 length bits) SlipperyRail
    else if packet == 12 then endless (is_endless bits)
    else None

-- ---- in a telegram that is refused, by why it is, and its bits

-- M_VERSION, the 7 bits after Q_UPDOWN: 16 is 1.0, 17 is 1.1, 32 is 2.0
abbrev pub version_found : Option ℕ → Finding
version_found None = LesserVersion
version_found (Some version) = if nat_lt 31 version then GreaterVersion else if nat_lt 15 version then SameVersion else LesserVersion

-- Q_LINK, the last bit of the header
abbrev pub refused_found : List Bool → Finding
refused_found bits = if is_number 0 (field_at 49 1 bits) then RefusedUnlinked else Refused

abbrev pub finding_of_fault : TelegramFault → List Bool → Finding
finding_of_fault faults.WrongVersion bits = version_found (field_at 1 7 bits)
finding_of_fault faults.Truncated bits = refused_found bits
finding_of_fault faults.WrongLength bits = refused_found bits
finding_of_fault faults.Spare bits = refused_found bits
finding_of_fault faults.OutOfRange bits = refused_found bits
finding_of_fault faults.NotUplink bits = Refused
finding_of_fault faults.NotBalise bits = Refused
finding_of_fault faults.NoEnd bits = refused_found bits
finding_of_fault faults.TooLong bits = refused_found bits

-- ---- whether its packets are looked at: it is sent to the train (Q_UPDOWN 1) by a balise (Q_MEDIA 0), and the first number
-- of its version is 1 (M_VERSION 16 to 31), so that NID_PACKET, Q_DIR and L_PACKET mean what they do in issue 2.3.0

abbrev pub is_from_to : ℕ → ℕ → Option ℕ → Bool
is_from_to least most None = false
is_from_to least most (Some n) = nat_le least n && nat_le n most

abbrev pub has_known_packets : List Bool → Bool
has_known_packets bits = is_number 1 (field_at 0 1 bits) && is_from_to 16 31 (field_at 1 7 bits) && is_number 0 (field_at 8 1 bits)
