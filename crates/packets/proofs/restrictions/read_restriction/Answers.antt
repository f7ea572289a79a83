use Rattle.std.proofs.Common.{refl}
use Rattle.packets.specs.Layouts.{speed_restriction_description}
use Rattle.packets.proofs.restrictions.read_restriction.Goals as goal

pub returns : goal.returns
unfolding speed_restriction_description
returns c =
    rw (c.in-Ok.ensures, c.in-Ok-field.ensures, c.in-Ok-field-2.ensures, c.in-Ok-field-3.ensures, c.in-Ok-field-4.ensures, c.in-Ok-field-5.ensures) refl
