use Rattle.std.proofs.Common.{◌∷◌, ap, sym, ◌∙◌}
use Rattle.packets.specs.declared.packet.Packet.{Packet}
use Rattle.areas.specs.Areas.{stored}
use Rattle.areas.specs.Entries.AreaEntry.{Cleared}
use Rattle.packets.specs.Packets.{as_movement_authority}
use Rattle.std.specs.Option.{option_map_or}
use Rattle.track_picture.proofs.using.mode_areas.clear.Goals as goal

pub returns-in-MovementAuthority : goal.returns-in-MovementAuthority
returns-in-MovementAuthority c fact entries is s =
    c.clear.ensures entries
    ∙ sym (ap (λ (q : Packet). stored (option_map_or (λ p. Cleared ∷ entries) (as_movement_authority q) entries)) (is ∙ c.in-MovementAuthority.is))
