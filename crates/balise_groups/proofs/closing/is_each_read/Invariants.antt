use Rattle.std.proofs.Common.{◌≡◌, true}
use Rattle.balise_groups.specs.Closing.{all_below, is_read}
use Rattle.balise_groups.proofs.closing.is_each_read.Given as goal

abbrev pub invariant-loop-place : goal.invariant-loop-place
invariant-loop-place l = all_below l.place (is_read l.readings) ≡ true
