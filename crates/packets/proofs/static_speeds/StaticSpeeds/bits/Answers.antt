use Rattle.std.proofs.Common.{length, ap, arith}
use Rattle.packets.proofs.StaticSteps.{counted, speeds_bits}
use Rattle.packets.proofs.static_speeds.StaticSpeeds.bits.Goals as goal

pub returns-clause-value : goal.returns-clause-value
returns-clause-value c =
    omega (arith, speeds_bits c.args.self.now, c.max.ensures, c.owned_differences.ensures, c.len.ensures.value, ap length c.as_slice-steps.ensures.value, ap counted c.as_slice-steps.ensures.value)
