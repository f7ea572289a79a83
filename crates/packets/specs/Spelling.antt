-- Which packets have a spelling, but for those that are longer than L_PACKET can hold (this project's profile).
use Rattle.std.specs.Prelude.{◌≢◌, ℕ}
use Rattle.bits.specs.Fitting.{HasNumber, Fits}
use Rattle.vars.specs.Variables.{nid_packet, untested_direction}
use Rattle.packets.specs.Layouts.{national_values_description, linking_description, movement_authority_description, gradients_description, level_transition_description, speed_restriction_description, restriction_revocation_description, mode_profile_description}
use Rattle.packets.specs.StaticSteps.{SpeedsFit}
use Rattle.packets.specs.declared.packet.Packet.{Packet}
use Rattle.packets.specs.declared.packet.Packet.TheVariants as packets

-- a packet of this number is skipped: it has no layout of its own, and isn't the end of a telegram
abbrev pub IsSkipped : ℕ → Type 0
IsSkipped n = (n ≢ 3) × (n ≢ 5) × (n ≢ 12) × (n ≢ 21) × (n ≢ 27) × (n ≢ 41) × (n ≢ 65) × (n ≢ 66) × (n ≢ 80) × (n ≢ 255)

-- the packet is as its layout wants it
abbrev pub PacketFits : Packet → Type 0
PacketFits (packets.NationalValues p) = Fits (national_values_description (λ _. 0)) p
PacketFits (packets.Linking p) = Fits (linking_description (λ _. 0)) p
PacketFits (packets.MovementAuthority p) = Fits (movement_authority_description (λ _. 0)) p
PacketFits (packets.Gradients p) = Fits (gradients_description (λ _. 0)) p
PacketFits (packets.StaticSpeeds p) = SpeedsFit p
PacketFits (packets.LevelTransition p) = Fits (level_transition_description (λ _. 0)) p
PacketFits (packets.SpeedRestriction p) = Fits (speed_restriction_description (λ _. 0)) p
PacketFits (packets.RestrictionRevocation p) = Fits (restriction_revocation_description (λ _. 0)) p
PacketFits (packets.ModeProfile p) = Fits (mode_profile_description (λ _. 0)) p
PacketFits (packets.Other p) = HasNumber nid_packet p.number × HasNumber untested_direction p.direction × IsSkipped p.number
