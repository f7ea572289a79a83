use Rattle.std.proofs.Common.{◌≡◌, false, take}
use Rattle.std.specs.List.{list_any}
use Rattle.balise_groups.specs.Closing.{differs}
use Rattle.balise_groups.proofs.closing.is_mixed.Given as goal

abbrev pub invariant-loop-reading : goal.invariant-loop-reading
invariant-loop-reading l = list_any (differs l.first) (take l.reading-index l.readings) ≡ false
