use Rattle.std.proofs.Common.{length}
use Rattle.packet_uses.proofs.calls.+nth_unused.Given as goal

abbrev pub decreases-nth_unused : goal.decreases-nth_unused
decreases-nth_unused l = length l.packets.now
