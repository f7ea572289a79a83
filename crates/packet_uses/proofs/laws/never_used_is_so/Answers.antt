use Rattle.std.proofs.Common.{false}
use Rattle.telegram.specs.Telegrams.{header_bits}
use Rattle.packet_uses.proofs.Keeping.{whatever}
use Rattle.packet_uses.proofs.laws.never_used_is_so.Goals as goal

pub returns : goal.returns
returns c = λ mode direction packets. whatever mode direction false header_bits packets
