use Rattle.std.proofs.Common.{length}
use Rattle.track_guard.proofs.demanding.+add_packets.Given as goal

abbrev pub decreases-add_packets : goal.decreases-add_packets
decreases-add_packets l = length l.places.now
