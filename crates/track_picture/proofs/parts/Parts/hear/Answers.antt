use Rattle.std.proofs.Common.{◌≡◌, ◌+◌, ◌≤◌, length, ap, subst, ◌∙◌}
use Rattle.balise_groups.specs.Groups as groups
use Rattle.balise_groups.specs.PacketCounts.{packets_in, packets_of_closed}
use Rattle.track_picture.specs.StandsFor.{KnownTrack}
use Rattle.track_picture.proofs.parts.Parts.hear.Goals as goal

pub returns-clause-packets : goal.returns-clause-packets
returns-clause-packets c =
    let same : c.self.inside.groups ≡ c.args.self.now.groups = ap (λ (k : KnownTrack). k.groups) (c.self.view_is ∙ c.begin.ensures) in
    let own = length c.args.telegram.packets.items in
    subst (λ (k : groups.KnownGroups). packets_of_closed c.take_into.new.ended + packets_of_closed c.take_into.new.whole ≤ packets_in k.readings + own) same c.take_into.ensures.few
