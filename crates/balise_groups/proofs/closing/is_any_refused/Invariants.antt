use Rattle.std.proofs.Common.{◌≡◌, false, take}
use Rattle.std.specs.List.{list_any}
use Rattle.balise_groups.specs.Closing.{is_refused}
use Rattle.balise_groups.proofs.closing.is_any_refused.Given as goal

abbrev pub invariant-loop-reading : goal.invariant-loop-reading
invariant-loop-reading l = list_any (is_refused l.readings) (take l.reading-index l.readings) ≡ false
