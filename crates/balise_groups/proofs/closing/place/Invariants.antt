use Rattle.std.proofs.Common.{◌≡◌, drop}
use Rattle.balise_groups.specs.Closing.{reading_at}
use Rattle.balise_groups.proofs.closing.place.Given as goal

abbrev pub invariant-loop-reading : goal.invariant-loop-reading
invariant-loop-reading l = reading_at 0 l.first (drop l.reading-index l.readings) ≡ reading_at 0 l.first l.readings
