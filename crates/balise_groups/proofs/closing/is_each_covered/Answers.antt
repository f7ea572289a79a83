use Rattle.std.proofs.Common.{sym, ◌∙◌}
use Rattle.balise_groups.specs.Closing.{is_covered}
use Rattle.balise_groups.proofs.Below.{one_fails}
use Rattle.balise_groups.proofs.closing.is_each_covered.Goals as goal

pub returns-then-not-is_covered : goal.returns-then-not-is_covered
returns-then-not-is_covered c =
    sym (one_fails c.args.places (is_covered c.args.readings.now) c.loop-place.place c.loop-place-test.true
    (sym c.is_covered.ensures ∙ c.if-not-is_covered.true))
