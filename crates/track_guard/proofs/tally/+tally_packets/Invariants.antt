use Rattle.std.proofs.Common.{length}
use Rattle.track_guard.proofs.tally.+tally_packets.Given as goal

abbrev pub decreases-tally_packets : goal.decreases-tally_packets
decreases-tally_packets l = length l.places.now
