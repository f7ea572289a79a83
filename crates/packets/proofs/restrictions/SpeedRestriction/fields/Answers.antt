use Rattle.packets.specs.Layouts.{speed_restriction_description}
use Rattle.packets.proofs.restrictions.SpeedRestriction.fields.Goals as goal

pub returns : goal.returns
unfolding speed_restriction_description
returns g c =
    rw (← c.in-Ok.ensures.value, ← c.in-Ok-put.ensures.value, ← c.in-Ok-put-2.ensures.value, ← c.in-Ok-put-3.ensures.value, ← c.in-Ok-put-4.ensures.value) c.put-5.ensures.value
