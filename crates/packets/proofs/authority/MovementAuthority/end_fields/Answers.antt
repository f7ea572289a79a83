use Rattle.packets.specs.Layouts.{authority_end}
use Rattle.packets.proofs.authority.MovementAuthority.end_fields.Goals as goal

pub returns : goal.returns
unfolding authority_end
returns g c =
    rw (← c.in-Ok.ensures.value, ← c.in-Ok-qualified.ensures.value, ← c.in-Ok-qualified-2.ensures.value) c.qualified-3.ensures.value
