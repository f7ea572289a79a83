use Rattle.std.proofs.Common.{length}
use Rattle.packet_uses.proofs.description.+describe_refused.Given as goal

abbrev pub decreases-describe_refused : goal.decreases-describe_refused
decreases-describe_refused l = length l.places.now
