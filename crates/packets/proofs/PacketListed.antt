-- Whatever takes a packet takes the list of its fields.
use Rattle.std.proofs.Common.{◌≡◌, ℕ}
use Rattle.bits.specs.Writing.{ListedField, each_field}
use Rattle.bits.proofs.ListedField.{taken-field_list}
use Rattle.packets.specs.Layouts.{national_values_description, linking_description, movement_authority_description, gradients_description, static_speeds_description, level_transition_description, speed_restriction_description, restriction_revocation_description, mode_profile_description, skipped_description}
use Rattle.packets.specs.Packets.{packet_taken, packet_field_list}
use Rattle.packets.specs.declared.packet.Packet.{Packet}
use Rattle.packets.specs.declared.packet.Packet.TheVariants as packets

pub packet_is_listed : {S : Type 0} (t : S → ListedField → S) (reported : ℕ) (p : Packet) (s : S) → packet_taken t reported p s ≡ each_field t (packet_field_list reported p) s
packet_is_listed t reported (packets.NationalValues p) s = taken-field_list t (national_values_description (λ _. reported)) p s
packet_is_listed t reported (packets.Linking p) s = taken-field_list t (linking_description (λ _. reported)) p s
packet_is_listed t reported (packets.MovementAuthority p) s = taken-field_list t (movement_authority_description (λ _. reported)) p s
packet_is_listed t reported (packets.Gradients p) s = taken-field_list t (gradients_description (λ _. reported)) p s
packet_is_listed t reported (packets.StaticSpeeds p) s = taken-field_list t (static_speeds_description (λ _. reported)) p s
packet_is_listed t reported (packets.LevelTransition p) s = taken-field_list t (level_transition_description (λ _. reported)) p s
packet_is_listed t reported (packets.SpeedRestriction p) s = taken-field_list t (speed_restriction_description (λ _. reported)) p s
packet_is_listed t reported (packets.RestrictionRevocation p) s = taken-field_list t (restriction_revocation_description (λ _. reported)) p s
packet_is_listed t reported (packets.ModeProfile p) s = taken-field_list t (mode_profile_description (λ _. reported)) p s
packet_is_listed t reported (packets.Other p) s = taken-field_list t (skipped_description p.number (λ _. reported)) p s
