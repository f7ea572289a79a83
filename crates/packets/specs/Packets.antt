-- Any packet: its layout by its number, its length and its fields (SUBSET-026, 7.4.2). Lengths are bits.
use Rattle.std.specs.Prelude.{ℕ, ◌+◌, ◌==◌, List, Option, Some, None}
use Rattle.bits.specs.Layout.{Layout, unless, choice, kind, measured, ◌>>=◌}
use Rattle.bits.specs.Writing.{ListedField, taken, size, field_list}
use Rattle.bits.specs.declared.name.VariableName.TheVariants as names
use Rattle.vars.specs.Variables.{nid_packet}
use Rattle.packets.specs.Parts.{variable}
use Rattle.packets.specs.declared.fault.PacketFault.{PacketFault}
use Rattle.packets.specs.declared.fault.PacketFault.TheVariants.{WrongLength, OutOfRange}
use Rattle.packets.specs.declared.authority.MovementAuthority.{MovementAuthority}
use Rattle.packets.specs.declared.linking.Linking.{Linking}
use Rattle.packets.specs.declared.gradients.Gradients.{Gradients}
use Rattle.packets.specs.declared.static_speeds.StaticSpeeds.{StaticSpeeds}
use Rattle.packets.specs.declared.level_transition.LevelTransition.{LevelTransition}
use Rattle.packets.specs.declared.mode_profile.ModeProfile.{ModeProfile}
use Rattle.packets.specs.declared.national.NationalValues.{NationalValues}
use Rattle.packets.specs.declared.restrictions.SpeedRestriction.{SpeedRestriction}
use Rattle.packets.specs.declared.restrictions.RestrictionRevocation.{RestrictionRevocation}
use Rattle.packets.specs.declared.packet.Other.{Other}
use Rattle.packets.specs.declared.packet.Packet.{Packet}
use Rattle.packets.specs.declared.packet.Packet.TheVariants as packets
use Rattle.packets.specs.Layouts.{national_values_description, national_values, linking_description, linking, movement_authority_description, movement_authority, gradients_description, gradients, static_speeds_description, static_speeds, level_transition_description, level_transition, speed_restriction_description, speed_restriction, restriction_revocation_description, restriction_revocation, mode_profile_description, mode_profile, skipped_description, skipped}

-- NID_PACKET
abbrev pub number_of : Packet → ℕ
number_of (packets.NationalValues p) = 3
number_of (packets.Linking p) = 5
number_of (packets.MovementAuthority p) = 12
number_of (packets.Gradients p) = 21
number_of (packets.StaticSpeeds p) = 27
number_of (packets.LevelTransition p) = 41
number_of (packets.SpeedRestriction p) = 65
number_of (packets.RestrictionRevocation p) = 66
number_of (packets.ModeProfile p) = 80
number_of (packets.Other p) = p.number

-- ---- any packet

-- a kind of packet, along with its L_PACKET
abbrev pub as_packet : {A : Type 0} → (A → Packet) → (ℕ × A) → (ℕ × Packet)
as_packet make p = (p.0, make p.1)

abbrev pub as_national_values : Packet → Option NationalValues
as_national_values (packets.NationalValues p) = Some p
as_national_values _ = None

abbrev pub as_linking : Packet → Option Linking
as_linking (packets.Linking p) = Some p
as_linking _ = None

abbrev pub as_movement_authority : Packet → Option MovementAuthority
as_movement_authority (packets.MovementAuthority p) = Some p
as_movement_authority _ = None

abbrev pub as_gradients : Packet → Option Gradients
as_gradients (packets.Gradients p) = Some p
as_gradients _ = None

abbrev pub as_static_speeds : Packet → Option StaticSpeeds
as_static_speeds (packets.StaticSpeeds p) = Some p
as_static_speeds _ = None

abbrev pub as_level_transition : Packet → Option LevelTransition
as_level_transition (packets.LevelTransition p) = Some p
as_level_transition _ = None

abbrev pub as_speed_restriction : Packet → Option SpeedRestriction
as_speed_restriction (packets.SpeedRestriction p) = Some p
as_speed_restriction _ = None

abbrev pub as_revocation : Packet → Option RestrictionRevocation
as_revocation (packets.RestrictionRevocation p) = Some p
as_revocation _ = None

abbrev pub as_mode_profile : Packet → Option ModeProfile
as_mode_profile (packets.ModeProfile p) = Some p
as_mode_profile _ = None

abbrev pub as_other : Packet → Option Other
as_other (packets.Other p) = Some p
as_other _ = None

-- What follows the number of a packet, with its L_PACKET.
unfoldable pub body_of : ℕ → Layout PacketFault Packet (ℕ × Packet)
body_of number =
    choice (number == 3) (kind (as_packet packets.NationalValues) as_national_values national_values)
    (choice (number == 5) (kind (as_packet packets.Linking) as_linking linking)
    (choice (number == 12) (kind (as_packet packets.MovementAuthority) as_movement_authority movement_authority)
    (choice (number == 21) (kind (as_packet packets.Gradients) as_gradients gradients)
    (choice (number == 27) (kind (as_packet packets.StaticSpeeds) as_static_speeds static_speeds)
    (choice (number == 41) (kind (as_packet packets.LevelTransition) as_level_transition level_transition)
    (choice (number == 65) (kind (as_packet packets.SpeedRestriction) as_speed_restriction speed_restriction)
    (choice (number == 66) (kind (as_packet packets.RestrictionRevocation) as_revocation restriction_revocation)
    (choice (number == 80) (kind (as_packet packets.ModeProfile) as_mode_profile mode_profile)
    (kind (as_packet packets.Other) as_other (skipped number))))))))))

-- The packet of a number that was read: L_PACKET is the count of its bits, those of the number included. 255 is none of
-- a packet.
unfoldable pub packet_of : ℕ → Layout PacketFault Packet Packet
packet_of number = do
  _ ← unless (number == 255) OutOfRange
  measured WrongLength 8 (body_of number)

-- A packet.
unfoldable pub packet : Layout PacketFault Packet Packet
packet = do
  number ← variable names.NidPacket nid_packet number_of
  packet_of number

-- ---- what is shown of any packet

-- what a packet's own layout gives, where L_PACKET is what another function says
abbrev pub by_layout : {R : Type 0} → ((C : Type 0) → ((C → ℕ) → Layout PacketFault C (ℕ × C)) → C → R) → Packet → R
by_layout f (packets.NationalValues p) = f NationalValues national_values_description p
by_layout f (packets.Linking p) = f Linking linking_description p
by_layout f (packets.MovementAuthority p) = f MovementAuthority movement_authority_description p
by_layout f (packets.Gradients p) = f Gradients gradients_description p
by_layout f (packets.StaticSpeeds p) = f StaticSpeeds static_speeds_description p
by_layout f (packets.LevelTransition p) = f LevelTransition level_transition_description p
by_layout f (packets.SpeedRestriction p) = f SpeedRestriction speed_restriction_description p
by_layout f (packets.RestrictionRevocation p) = f RestrictionRevocation restriction_revocation_description p
by_layout f (packets.ModeProfile p) = f ModeProfile mode_profile_description p
by_layout f (packets.Other p) = f Other (skipped_description p.number) p

-- The number of bits of a packet, which is its L_PACKET.
abbrev pub length_of : Packet → ℕ
length_of p = by_layout (λ C m c. 8 + size (m (λ _. 0)) c) p

-- What becomes of s when it takes the fields of a packet after its number, one after another, L_PACKET reporting so
-- much.
abbrev pub packet_taken : {S : Type 0} → (S → ListedField → S) → ℕ → Packet → S → S
packet_taken t reported p s = by_layout (λ C m c. taken t (m (λ _. reported)) c s) p

-- The fields of a packet after its number, L_PACKET reporting so much.
abbrev pub packet_field_list : ℕ → Packet → List ListedField
packet_field_list reported p = by_layout (λ C m c. field_list (m (λ _. reported)) c) p
