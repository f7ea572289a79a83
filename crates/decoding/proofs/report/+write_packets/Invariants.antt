use Rattle.std.proofs.Common.{length}
use Rattle.decoding.proofs.report.+write_packets.Given as goal

abbrev pub decreases-write_packets : goal.decreases-write_packets
decreases-write_packets g l = length l.packets.now
