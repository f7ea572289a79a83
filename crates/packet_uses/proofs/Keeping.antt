-- Packets that are never used are the same whatever the mode and the direction.
use Rattle.std.proofs.Common.{◌≡◌, ℕ, ◌+◌, ◌==◌, Bool, true, false, ◌||◌, if◌then◌else◌, List, [], ◌∷◌, Option, Some, None, refl, sym, ap, ◌∙◌}
use Rattle.balise_groups.specs.Description.{infill}
use Rattle.mode_table.specs.Packets.{uses}
use Rattle.mode_table.specs.declared.mode.Mode.{Mode}
use Rattle.mode_table.specs.declared.mode.Mode.TheVariants.{FullSupervision}
use Rattle.packets.specs.Packets.{length_of, number_of}
use Rattle.packets.specs.declared.packet.Packet.{Packet}
use Rattle.track_packets.specs.declared.listing.PacketPlace.{PacketPlace}
use Rattle.track_picture.specs.Sentences.{is_valid, valid_in}
use Rattle.vars.specs.declared.linking.LinkOrientation.{LinkOrientation}
use Rattle.vars.specs.declared.packet_head.ValidityDirection.{ValidityDirection}
use Rattle.packet_uses.specs.Fates.{fate_by}
use Rattle.packet_uses.specs.Never.{is_never_used, never_used_among}
use Rattle.packet_uses.specs.Description.{refused_of, reported_from}
use Rattle.packet_uses.specs.declared.fate.Fate.TheVariants.{Used, OtherDirection, NotInMode, NotKnown, Infill, Refused}
use Rattle.packet_uses.specs.declared.description.ReportedPacket.{ReportedPacket}

-- ---- a telegram that is refused

pub all_refused : (ps : List PacketPlace) → never_used_among (refused_of ps) ≡ refused_of ps
all_refused [] = refl
all_refused (p ∷ ps) = ap (λ (xs : List ReportedPacket). record { number = p.number; start = p.start; length = p.length; fate = Refused } ∷ xs) (all_refused ps)

-- ---- a telegram that is carried

by_table : (used valid : Bool) → is_never_used (if used then (if valid then Used else OtherDirection) else NotInMode) ≡ false
by_table true true = refl
by_table true false = refl
by_table false true = refl
by_table false false = refl

by_valid : (mode : Mode) (direction : Option LinkOrientation) (number start length : ℕ) (valid : Option ValidityDirection) (ps qs : List ReportedPacket)
    → never_used_among ps ≡ never_used_among qs
    → never_used_among (record { number = number; start = start; length = length; fate = fate_by mode direction number valid } ∷ ps)
    ≡ never_used_among (record { number = number; start = start; length = length; fate = fate_by FullSupervision None number valid } ∷ qs)
by_valid mode direction number start length None ps qs e =
    ap (λ (xs : List ReportedPacket). record { number = number; start = start; length = length; fate = NotKnown } ∷ xs) e
by_valid mode direction number start length (Some v) ps qs e =
    ap (λ b. if b then record { number = number; start = start; length = length; fate = fate_by mode direction number (Some v) } ∷ never_used_among ps else never_used_among ps)
    (by_table (uses mode number) (is_valid v direction))
    ∙ e
    ∙ sym (ap (λ b. if b then record { number = number; start = start; length = length; fate = fate_by FullSupervision None number (Some v) } ∷ never_used_among qs else never_used_among qs)
    (by_table (uses FullSupervision number) (is_valid v None)))

step : (mode : Mode) (direction : Option LinkOrientation) (after_infill : Bool) (start : ℕ) (p : Packet) (ps : List Packet) (is_after_infill : Bool)
    → (after_infill || (number_of p == infill)) ≡ is_after_infill
    → never_used_among (reported_from mode direction is_after_infill (start + length_of p) ps) ≡ never_used_among (reported_from FullSupervision None is_after_infill (start + length_of p) ps)
    → never_used_among (reported_from mode direction after_infill start (p ∷ ps)) ≡ never_used_among (reported_from FullSupervision None after_infill start (p ∷ ps))
step mode direction after_infill start p ps true e rest =
    rw e (ap (λ (xs : List ReportedPacket). record { number = number_of p; start = start; length = length_of p; fate = Infill } ∷ xs) rest)
step mode direction after_infill start p ps false e rest =
    rw e (by_valid mode direction (number_of p) start (length_of p) (valid_in p) (reported_from mode direction false (start + length_of p) ps)
    (reported_from FullSupervision None false (start + length_of p) ps) rest)

pub whatever : (mode : Mode) (direction : Option LinkOrientation) (after_infill : Bool) (start : ℕ) (ps : List Packet)
    → never_used_among (reported_from mode direction after_infill start ps) ≡ never_used_among (reported_from FullSupervision None after_infill start ps)
whatever mode direction after_infill start [] = refl
whatever mode direction after_infill start (p ∷ ps) =
    step mode direction after_infill start p ps (after_infill || (number_of p == infill)) refl
    (whatever mode direction (after_infill || (number_of p == infill)) (start + length_of p) ps)
