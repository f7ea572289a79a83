use Rattle.packets.specs.Layouts.{authority_end, movement_authority_description}
use Rattle.packets.proofs.authority.MovementAuthority.fields.Goals as goal

pub returns : goal.returns
unfolding movement_authority_description authority_end
returns g c =
    rw (← c.in-Ok.ensures.value, ← c.in-Ok-put.ensures.value, ← c.in-Ok-put-2.ensures.value, ← c.in-Ok-put-3.ensures.value, ← c.len.ensures.value, ← c.in-Ok-field.ensures.value, ← c.in-Ok-all.ensures.value) c.end_fields.ensures
