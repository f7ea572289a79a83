use Rattle.std.proofs.Common.{refl}
use Rattle.telegram.proofs.Written.{pushed_telegram}
use Rattle.telegram.proofs.message.Telegram.push.Goals as goal

pub returns-clause-spelled : goal.returns-clause-spelled
returns-clause-spelled c telegram packet = pushed_telegram c.args.self.now _ _ telegram.0 packet.0 refl c.push.ensures.items telegram.1 packet.1
