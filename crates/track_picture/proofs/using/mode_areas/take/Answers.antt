use Rattle.std.proofs.Common.{◌∷◌, ap, sym, ◌∙◌}
use Rattle.std.specs.Option.{option_map_or}
use Rattle.packets.specs.declared.packet.Packet.{Packet}
use Rattle.packets.specs.Packets.{as_mode_profile}
use Rattle.areas.specs.Areas.{stored}
use Rattle.areas.specs.Entries.{fact_of}
use Rattle.areas.specs.Entries.AreaEntry.{Reported}
use Rattle.track_picture.proofs.using.mode_areas.take.Goals as goal

pub returns-in-ModeProfile : goal.returns-in-ModeProfile
returns-in-ModeProfile c entries s =
    c.replace.ensures entries
    ∙ sym (ap (λ (q : Packet). stored (option_map_or (λ p. Reported (fact_of p c.args.used.now.place) ∷ entries) (as_mode_profile q) entries)) c.in-ModeProfile.is)
