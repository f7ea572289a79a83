use Rattle.std.proofs.Common.{ap, ◌∙◌}
use Rattle.telegram.specs.declared.message.Telegram.{Telegram}
use Rattle.telegram.proofs.received.Received.packets.Goals as goal

pub returns-clause-packets : goal.returns-clause-packets
returns-clause-packets c =
    c.after_header.ensures.packets ∙ rw c.as_slice.ensures.value (ap (λ (t : Telegram). t.packets.items) c.self.view_is)
