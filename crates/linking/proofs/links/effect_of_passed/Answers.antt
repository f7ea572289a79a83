use Rattle.std.proofs.Common.{sym, ◌∙◌}
use Rattle.linking.specs.Linking.{is_passed_by}
use Rattle.std.proofs.lemmas.List.{at_drop_all}
use Rattle.linking.proofs.Missing.{counted, counted_is}
use Rattle.linking.proofs.links.effect_of_passed.Goals as goal

pub returns : goal.returns
returns c =
    let all = at_drop_all (counted (is_passed_by c.args.min_front) c.loop-announcement.missed c.loop-announcement.effect) c.args.announcements.now c.loop-announcement.announcement-index c.loop-announcement-test.false in
    sym all ∙ c.loop-announcement.invariant ∙ counted_is (is_passed_by c.args.min_front) c.args.has_missed c.args.announcements.now
