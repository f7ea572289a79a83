use Rattle.std.proofs.Common.{length}
use Rattle.packet_uses.proofs.never.+keep.Given as goal

abbrev pub decreases-keep : goal.decreases-keep
decreases-keep l = length l.packets.now
