-- What C gets of the packets that a unit doesn't use (this project's profile).
use Rattle.std.specs.Prelude.{◌≡◌, ℕ, ◌==◌, Bool, true, false, nat_lt, List, [], ◌∷◌, Option, Some, None, if◌then◌else◌}
use Rattle.std.specs.List.{slice_get}
use Rattle.mode_table.specs.Numbers.{mode_by}
use Rattle.mode_table.specs.declared.mode.Mode.{Mode}
use Rattle.vars.specs.declared.linking.LinkOrientation.{LinkOrientation}
use Rattle.vars.specs.declared.linking.LinkOrientation.TheVariants as orientations
use Rattle.packet_uses.specs.Description.{DescribesPackets}
use Rattle.packet_uses.specs.declared.calls.EtcsPacket.{EtcsPacket}
use Rattle.packet_uses.specs.declared.fate.Fate.{Fate}
use Rattle.packet_uses.specs.declared.fate.Fate.TheVariants as fates
use Rattle.packet_uses.specs.declared.description.ReportedPacket.{ReportedPacket}

abbrev pub is_other_than_used : Fate → Bool
is_other_than_used fates.Used = false
is_other_than_used fates.NotKnown = true
is_other_than_used fates.Infill = true
is_other_than_used fates.NotInMode = true
is_other_than_used fates.OtherDirection = true
is_other_than_used fates.Refused = true

abbrev pub is_unused : ReportedPacket → Bool
is_unused p = is_other_than_used p.fate

-- those that aren't used
abbrev pub unused_among : List ReportedPacket → List ReportedPacket
unused_among [] = []
unused_among (p ∷ ps) = if is_unused p then p ∷ unused_among ps else unused_among ps

abbrev pub fate_number : Fate → ℕ
fate_number fates.Used = 0
fate_number fates.NotKnown = 1
fate_number fates.Infill = 2
fate_number fates.NotInMode = 3
fate_number fates.OtherDirection = 4
fate_number fates.Refused = 5

abbrev pub description_of : ReportedPacket → EtcsPacket
description_of p = record { start = p.start; bits = p.length; number = p.number; why = fate_number p.fate }

-- the direction of a number; None where none has it
abbrev pub direction_by : ℕ → Option (Option LinkOrientation)
direction_by number =
    if number == 0 then Some (Some orientations.Reverse) else if number == 1 then Some (Some orientations.Nominal)
    else if number == 2 then Some None else None

-- the mode of a number of 32 bits
abbrev pub wide_mode_by : ℕ → Option Mode
wide_mode_by number = if nat_lt number 256 then mode_by number else None

-- a packet, or the end of the list
abbrev pub DescribesOne : Option ReportedPacket → EtcsPacket → EtcsPacket → ℕ → Type 0
DescribesOne (Some p) before reported status = (status ≡ 0) × (reported ≡ description_of p)
DescribesOne None before reported status = (status ≡ 38) × (reported ≡ before)

-- in a mode and a direction
abbrev pub DescribesIn : List ℕ → Mode → Option LinkOrientation → ℕ → EtcsPacket → EtcsPacket → ℕ → Type 0
DescribesIn bytes mode direction index before reported status =
    (packets : List ReportedPacket) × DescribesPackets bytes mode direction packets × DescribesOne (slice_get (unused_among packets) index) before reported status

-- where both have a number
abbrev pub DescribesFor : List ℕ → Option Mode → Option (Option LinkOrientation) → ℕ → EtcsPacket → EtcsPacket → ℕ → Type 0
DescribesFor bytes None direction index before reported status = (status ≡ 255) × (reported ≡ before)
DescribesFor bytes (Some mode) None index before reported status = (status ≡ 255) × (reported ≡ before)
DescribesFor bytes (Some mode) (Some direction) index before reported status = DescribesIn bytes mode direction index before reported status

abbrev pub DescribesUnused : List ℕ → ℕ → ℕ → ℕ → EtcsPacket → EtcsPacket → ℕ → Type 0
DescribesUnused bytes mode direction index before reported status = DescribesFor bytes (wide_mode_by mode) (direction_by direction) index before reported status
