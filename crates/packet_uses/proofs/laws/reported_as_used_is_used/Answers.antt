use Rattle.std.proofs.Common.{false}
use Rattle.packet_uses.proofs.Using.{each_once, used_is_reported}
use Rattle.packet_uses.proofs.laws.reported_as_used_is_used.Goals as goal

pub returns : goal.returns
returns c = λ mode direction start packets. (each_once mode direction false start packets, used_is_reported mode direction start packets)
