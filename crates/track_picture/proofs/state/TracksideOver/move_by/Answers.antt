use Rattle.std.proofs.Common.{◌≡◌, Bool, is_none, if◌then◌else◌, ap, subst, sym, ◌∙◌, arith}
use Rattle.balise_groups.specs.PacketCounts.{packets_in}
use Rattle.track_picture.specs.StandsFor.{Knowledge, SameTrack}
use Rattle.track_picture.proofs.Moving.{none_left, only_moved}
use Rattle.track_picture.proofs.Standing.{seen_columns as seen}
use Rattle.track_picture.proofs.state.TracksideOver.move_by.Goals as goal

-- no group is being read
pub returns-then-is_idle-clause-stands : goal.returns-then-is_idle-clause-stands
returns-then-is_idle-clause-stands g c life s =
    let inside = seen c.self.view_is s in
    let stays = c.go.ensures.idle (sym (c.is_idle.ensures ∙ ap (λ w. is_none w.parts.groups.current) c.self-inside.view_is) ∙ c.if-is_idle.true) in
    only_moved c.args.mode life c.args.reading.now (c.go.ensures.stands life inside.parts_are stays) (c.go.ensures.none life inside.parts_are stays) inside

pub returns-then-is_idle-clause-none : goal.returns-then-is_idle-clause-none
returns-then-is_idle-clause-none g c life s _ =
    let inside = seen c.self.view_is s in
    let stays = c.go.ensures.idle (sym (c.is_idle.ensures ∙ ap (λ w. is_none w.parts.groups.current) c.self-inside.view_is) ∙ c.if-is_idle.true) in
    none_left c.args.mode life c.args.reading.now (c.go.ensures.none life inside.parts_are stays)

pub returns-clause-idle : goal.returns-clause-idle
returns-clause-idle g c none =
    let known = c.args.self.now in
    let idle : is_none known.parts.groups.current ≡ c.is_idle.result =
    sym (c.is_idle.ensures ∙ ap (λ w. is_none w.parts.groups.current) c.self-inside.view_is
    ∙ ap (λ (k : Knowledge g.row.T-Gradients.Denot g.row.T-Speeds.Denot). is_none k.parts.groups.current) c.self.view_is) in
    let empty : packets_in known.parts.groups.readings ≡ 0 =
    subst (λ (b : Bool). (if b then 0 else packets_in known.parts.groups.readings) ≡ 0) (idle ∙ c.if-is_idle.false) none in
    let count : c.packets-packets.result ≡ packets_in known.parts.groups.readings =
    c.packets-packets.ensures.number ∙ ap (λ w. packets_in w.parts.groups.readings) c.self-inside.view_is
    ∙ ap (λ (k : Knowledge g.row.T-Gradients.Denot g.row.T-Speeds.Denot). packets_in k.parts.groups.readings) c.self.view_is in
    let same = c.make_space.ensures.same (omega (arith, empty, count)) in
    subst (λ (k : Knowledge g.row.T-Gradients.Denot g.row.T-Speeds.Denot). SameTrack k c.move_on.new.self) same
    (c.move_on.ensures.idle (subst (λ (k : Knowledge g.row.T-Gradients.Denot g.row.T-Speeds.Denot). packets_in k.parts.groups.readings ≡ 0) (sym same) empty))
