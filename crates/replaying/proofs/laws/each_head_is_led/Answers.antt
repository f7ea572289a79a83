use Rattle.std.proofs.Common.{refl}
use Rattle.replaying.proofs.laws.each_head_is_led.Goals as goal

pub returns : goal.returns
returns c kept cold = record { left = refl; counted = refl }
