use Rattle.std.proofs.Common.{sym, ◌∙◌}
use Rattle.linking.specs.Judging.{is_before}
use Rattle.std.proofs.lemmas.List.{at_drop_all}
use Rattle.linking.proofs.Missing.{counted, counted_is}
use Rattle.linking.proofs.links.effect_before.Goals as goal

pub returns : goal.returns
returns c =
    let all = at_drop_all (counted (is_before c.args.number) c.loop-announcement.missed c.loop-announcement.effect) c.args.announcements.now c.loop-announcement.announcement-index c.loop-announcement-test.false in
    sym all ∙ c.loop-announcement.invariant ∙ counted_is (is_before c.args.number) c.args.has_missed c.args.announcements.now
