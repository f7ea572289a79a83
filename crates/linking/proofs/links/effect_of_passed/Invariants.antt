use Rattle.std.proofs.Common.{◌≡◌, drop}
use Rattle.linking.specs.Linking.{is_passed_by}
use Rattle.linking.proofs.Missing.{counted}
use Rattle.linking.proofs.links.effect_of_passed.Given as goal

abbrev pub invariant-loop-announcement : goal.invariant-loop-announcement
invariant-loop-announcement l =
    counted (is_passed_by l.min_front) l.missed l.effect (drop l.announcement-index l.announcements)
    ≡ counted (is_passed_by l.min_front) l.initial.missed l.initial.effect l.announcements
