use Rattle.std.proofs.Common.{◌≡◌, ◌+◌, length, ap, subst, sym, ◌∙◌, arith}
use Rattle.std.proofs.lemmas.List.{length-map}
use Rattle.balise_groups.specs.PacketCounts.{packets_in}
use Rattle.track_picture.specs.StandsFor.{Knowledge, SameTrack}
use Rattle.track_picture.proofs.state.TracksideOver.read.Goals as goal

pub returns-clause-idle : goal.returns-clause-idle
returns-clause-idle g c none =
    let count : c.packets.result ≡ packets_in c.args.self.now.parts.groups.readings =
    c.packets.ensures.number ∙ ap (λ w. packets_in w.parts.groups.readings) c.self-inside.view_is
    ∙ ap (λ (k : Knowledge g.row.T-Gradients.Denot g.row.T-Speeds.Denot). packets_in k.parts.groups.readings) c.self.view_is in
    let own : c.len.result ≡ length c.args.telegram.packets.items = c.len.ensures ∙ sym (length-map _ _) ∙ ap length c.packets-2.ensures.packets in
    let same = c.make_space.ensures.same (omega (arith, none, count, own)) in
    subst (λ (k : Knowledge g.row.T-Gradients.Denot g.row.T-Speeds.Denot). SameTrack k c.take.new.self) same
    (c.take.ensures.idle (subst (λ (k : Knowledge g.row.T-Gradients.Denot g.row.T-Speeds.Denot). packets_in k.parts.groups.readings + length c.args.telegram.packets.items ≡ 0) (sym same) none))
