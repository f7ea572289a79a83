-- Where the areas of a packet 80 lie on the track (SUBSET-026, 7.4.2, packet 80; from where distances count: this
-- project's profile). Places are centimetres.
use Rattle.std.specs.Prelude.{ℕ, ◌*◌, ℤ, pos, ◌+ℤ◌, ◌-ℤ◌, List, [], ◌∷◌, Option, Some, None}
use Rattle.vars.specs.declared.scale.Scale.{Scale}
use Rattle.vars.specs.declared.special_distance.OpenLength.{OpenLength}
use Rattle.vars.specs.declared.special_distance.OpenLength.TheVariants.{Length, NoEnd}
use Rattle.vars.specs.Meanings.{centimetres_of}
use Rattle.packets.specs.declared.mode_profile.ModeArea.{ModeArea}
use Rattle.areas.specs.declared.area.Area.{Area}
use Rattle.areas.specs.Entries.{Fact}

-- a distance of the packet in centimetres
abbrev pub in_cm : Scale → ℕ → ℕ
in_cm scale distance = distance * centimetres_of scale

-- where an area ends that starts at a place
abbrev pub end_from : Scale → ℤ → OpenLength → Option ℤ
end_from scale start (Length length) = Some (start +ℤ pos (in_cm scale length))
end_from scale start NoEnd = None

abbrev pub area_of : Scale → ℤ → ModeArea → Area
area_of scale start reported = record {
  mode = reported.mode;
  start = start;
  end = end_from scale start reported.length;
  speed = reported.speed;
  acknowledgement_from = start -ℤ pos (in_cm scale reported.acknowledgement);
}

-- each start counts from the start of the area before, the first from a place
abbrev pub areas_from : Scale → ℤ → List ModeArea → List Area
areas_from scale at [] = []
areas_from scale at (reported ∷ rest) =
    let start = at +ℤ pos (in_cm scale reported.distance) in
    area_of scale start reported ∷ areas_from scale start rest

abbrev pub areas_of : Fact → List Area
areas_of fact = areas_from fact.packet.scale fact.place fact.packet.areas.items
