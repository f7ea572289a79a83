use Rattle.std.proofs.Common.{◌≡◌, false, take}
use Rattle.std.specs.List.{list_any}
use Rattle.balise_groups.specs.Closing.{disagrees}
use Rattle.balise_groups.proofs.closing.disagrees_with_any.Given as goal

abbrev pub invariant-loop-other : goal.invariant-loop-other
invariant-loop-other l = list_any (disagrees l.reading) (take l.other-index l.readings) ≡ false
