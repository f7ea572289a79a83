use Rattle.std.proofs.Common.{arith, map, refl}
use Rattle.std.proofs.lemmas.Grind.{common_steps}
use Rattle.std.proofs.lemmas.List.{length-map}
use Rattle.c_numbers.proofs.Places.{one_placed}
use Rattle.unit_start.specs.Releases.{nothing_released}
use Rattle.unit_calls.specs.Outputs.{description_of}
use Rattle.unit_calls.proofs.outputs.hand_out.Goals as goal

pub loop-i-preserved : goal.loop-i-preserved
loop-i-preserved c =
    one_placed (map description_of c.args.released.now) c.args.outputs.now c.loop-i.outputs _ c.loop-i.i _ (description_of nothing_released)
    (omega (arith, length-map c.args.released.now description_of)) (omega (arith, length-map c.args.released.now description_of)) c.loop-i.invariant (grind (arith, common_steps)) refl
