use Rattle.std.proofs.Common.{◌≡◌, ◌++◌, map, take, drop}
use Rattle.unit_calls.specs.Outputs.{description_of}
use Rattle.unit_calls.proofs.outputs.hand_out.Given as goal

abbrev pub invariant-loop-i : goal.invariant-loop-i
invariant-loop-i l = l.outputs ≡ take l.i (map description_of l.released) ++ drop l.i l.fn.outputs
