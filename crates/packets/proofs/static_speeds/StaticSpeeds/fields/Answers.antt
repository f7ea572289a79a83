use Rattle.std.proofs.Common.{refl}
use Rattle.packets.proofs.StaticSteps.{speeds_taken}
use Rattle.packets.proofs.static_speeds.StaticSpeeds.fields.Goals as goal

pub returns : goal.returns
returns g c =
    rw (speeds_taken g.S.FieldSink.took c.args.self.now c.args.reported (g.S.FieldSink.seen c.args.sink.now), c.in-Ok-profile_fields.ensures, c.as_slice-2.ensures.value, c.as_slice.ensures.value, c.in-Ok.ensures.value) refl
