use Rattle.std.proofs.Common.{◌≡◌, drop}
use Rattle.linking.specs.Judging.{is_before}
use Rattle.linking.proofs.Missing.{counted}
use Rattle.linking.proofs.links.effect_before.Given as goal

abbrev pub invariant-loop-announcement : goal.invariant-loop-announcement
invariant-loop-announcement l =
    counted (is_before l.number) l.missed l.effect (drop l.announcement-index l.announcements)
    ≡ counted (is_before l.number) l.initial.missed l.initial.effect l.announcements
