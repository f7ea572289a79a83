use Rattle.std.proofs.Common.{◌≡◌, false, take}
use Rattle.std.specs.List.{list_any}
use Rattle.balise_groups.specs.Closing.{covers}
use Rattle.balise_groups.proofs.closing.is_any_covering.Given as goal

abbrev pub invariant-loop-reading : goal.invariant-loop-reading
invariant-loop-reading l = list_any (covers l.place) (take l.reading-index l.readings) ≡ false
