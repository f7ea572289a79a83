use Rattle.std.proofs.Common.{◌∙◌, refl, arith}
use Rattle.command_line.specs.Arguments.{most_u32}
use Rattle.command_line.proofs.Numbers.{number_read}
use Rattle.command_line.proofs.matched.u32_of.Goals as goal

pub returns : goal.returns
returns c = c.ok.ensures.value ∙ number_read 32 most_u32 c.args.text.now c.parse.result refl (omega arith) c.parse.ensures.value.0
