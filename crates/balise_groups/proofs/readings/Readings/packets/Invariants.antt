use Rattle.std.proofs.Common.{◌≡◌, ◌+◌, ◌*◌, ◌≤◌, drop}
use Rattle.balise_groups.specs.PacketCounts.{packets_in}
use Rattle.balise_groups.proofs.readings.Readings.packets.Given as goal

abbrev pub invariant-loop-reading : goal.invariant-loop-reading
invariant-loop-reading l =
    (l.packets + packets_in (drop l.reading-index l.reading-items) ≡ packets_in l.reading-items) × (l.packets ≤ l.reading-index * 33)
