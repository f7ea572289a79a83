use Rattle.std.proofs.Common.{◌≡◌, take}
use Rattle.balise_groups.proofs.readings.Readings.copy.Given as goal

abbrev pub invariant-loop-reading : goal.invariant-loop-reading
invariant-loop-reading l = l.items.items ≡ take l.reading-index l.reading-items
