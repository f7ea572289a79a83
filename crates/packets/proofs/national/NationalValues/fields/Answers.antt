use Rattle.packets.specs.Layouts.{mode_speeds, national_values_description, override_values}
use Rattle.packets.proofs.national.NationalValues.fields.Goals as goal

pub returns : goal.returns
unfolding national_values_description mode_speeds override_values
returns g c =
    rw (← c.in-Ok.ensures.value, ← c.in-Ok-put.ensures.value, ← c.len.ensures.value, ← c.in-Ok-field.ensures.value, ← c.in-Ok-all.ensures.value, ← c.in-Ok-mode_speed_fields.ensures.value, ← c.in-Ok-put-2.ensures.value, ← c.in-Ok-override_fields.ensures.value) c.put-3.ensures.value
