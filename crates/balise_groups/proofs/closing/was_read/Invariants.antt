use Rattle.std.proofs.Common.{◌≡◌, false, take}
use Rattle.std.specs.List.{list_any}
use Rattle.balise_groups.specs.Closing.{is_at}
use Rattle.balise_groups.proofs.closing.was_read.Given as goal

abbrev pub invariant-loop-reading : goal.invariant-loop-reading
invariant-loop-reading l = list_any (is_at l.place) (take l.reading-index l.readings) ≡ false
