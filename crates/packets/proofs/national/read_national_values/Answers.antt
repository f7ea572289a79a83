use Rattle.std.proofs.Common.{refl}
use Rattle.packets.specs.Layouts.{national_values_description}
use Rattle.packets.proofs.national.read_national_values.Goals as goal

pub returns : goal.returns
unfolding national_values_description
returns c =
    let list = rw (c.count.ensures.value, c.new-countries.ensures) at c.in-Ok-read_list.ensures.value in
    rw (c.in-Ok.ensures, c.in-Ok-field.ensures, c.in-Ok-field-2.ensures, list, c.in-Ok-read_mode_speeds.ensures, c.in-Ok-field-3.ensures, c.in-Ok-read_override_values.ensures, c.in-Ok-field-4.ensures) refl
