use Rattle.std.proofs.Common.{length}
use Rattle.track_packets.proofs.kind.+find.Given as goal

abbrev pub decreases-find : goal.decreases-find
decreases-find l = length l.kinds.now
