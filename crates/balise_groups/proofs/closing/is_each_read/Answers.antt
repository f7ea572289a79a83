use Rattle.std.proofs.Common.{sym, ◌∙◌}
use Rattle.balise_groups.specs.Closing.{is_read}
use Rattle.balise_groups.proofs.Below.{one_fails}
use Rattle.balise_groups.proofs.closing.is_each_read.Goals as goal

pub returns-then-not-was_read : goal.returns-then-not-was_read
returns-then-not-was_read c =
    sym (one_fails c.args.places (is_read c.args.readings.now) c.loop-place.place c.loop-place-test.true
    (sym c.was_read.ensures ∙ c.if-not-was_read.true))
