use Rattle.std.proofs.Common.{length}
use Rattle.packet_uses.proofs.description.+describe_read.Given as goal

abbrev pub decreases-describe_read : goal.decreases-describe_read
decreases-describe_read l = length l.packets.now
