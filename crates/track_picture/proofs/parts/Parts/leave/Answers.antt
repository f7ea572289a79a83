use Rattle.std.proofs.Common.{◌≡◌, ◌≤◌, ap, subst}
use Rattle.balise_groups.specs.Groups as groups
use Rattle.balise_groups.specs.PacketCounts.{packets_in, packets_of_closed}
use Rattle.track_picture.specs.StandsFor.{KnownTrack}
use Rattle.track_picture.proofs.parts.Parts.leave.Goals as goal

pub returns-clause-packets : goal.returns-clause-packets
returns-clause-packets c =
    let same : c.self.inside.groups ≡ c.args.self.now.groups = ap (λ (k : KnownTrack). k.groups) c.self.view_is in
    subst (λ (k : groups.KnownGroups). packets_of_closed c.moved.result ≤ packets_in k.readings) same c.moved.ensures.few
