use Rattle.std.proofs.Common.{refl, inr}
use Rattle.decoding.proofs.Lengths.{packets_short}
use Rattle.decoding.proofs.text.show.Goals as goal

pub print_telegram-requires : goal.print_telegram-requires
print_telegram-requires g c = packets_short _ _ c.in-Ok.ensures.ok

pub returns-in_ok-refuse-in-Err : goal.returns-in_ok-refuse-in-Err
returns-in_ok-refuse-in-Err g c = inr (refl, (c.in-Err.fault, (c.in-Err.ensures.fault c.in-Err.fault).0 refl, c.in_ok-refuse-in-Err.ensures))
