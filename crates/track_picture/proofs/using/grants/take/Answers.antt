use Rattle.std.proofs.Common.{ap, sym, ◌∙◌}
use Rattle.packets.specs.declared.packet.Packet.{Packet}
use Rattle.authority.specs.Known.{known}
use Rattle.track_picture.specs.Columns.{after_authority}
use Rattle.track_picture.specs.Steps.{fact_of}
use Rattle.track_picture.proofs.using.grants.take.Goals as goal

pub returns-in-MovementAuthority : goal.returns-in-MovementAuthority
returns-in-MovementAuthority c entries s =
    c.accept.ensures entries
    ∙ sym (ap (λ (q : Packet). known (after_authority (fact_of c.args.used.now q) entries)) c.in-MovementAuthority.is)
