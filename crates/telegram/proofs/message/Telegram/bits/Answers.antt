use Rattle.std.proofs.Common.{◌+◌, ap, sym, ◌∙◌}
use Rattle.telegram.specs.Sequences.{length_of_all}
use Rattle.telegram.proofs.Lengths.{length-telegram}
use Rattle.telegram.proofs.message.Telegram.bits.Goals as goal

pub returns-clause-spelled : goal.returns-clause-spelled
returns-clause-spelled c = λ bits s.
    rw c.from.ensures (length-telegram c.args.self.now bits s ∙ ap (λ n. 58 + n) (sym (c.bits_of_all.ensures.bits ∙ ap length_of_all c.as_slice.ensures.value)))
