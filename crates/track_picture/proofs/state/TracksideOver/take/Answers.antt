use Rattle.std.proofs.Common.{◌≡◌, None, sym, ◌∙◌}
use Rattle.track_picture.specs.Entry.{no_groups}
use Rattle.track_picture.specs.History.{groups_of}
use Rattle.track_picture.specs.Sentences.{closed_by, heard, with_closed}
use Rattle.track_picture.proofs.Standing.{seen_columns as seen}
use Rattle.track_picture.proofs.state.TracksideOver.take.Goals as goal

pub returns-clause-none : goal.returns-clause-none
returns-clause-none g c life bytes s is none =
    let before = (seen c.self.view_is s).parts_are in
    let initial = heard life.entries bytes in
    let closed = closed_by (groups_of life.entries) initial.heard in
    let so = c.is_any.ensures none in
    let ended : closed.ended ≡ None = sym (c.hear.ensures.ended life bytes before is) ∙ so.0 in
    let whole : closed.whole ≡ None = sym (c.hear.ensures.whole life bytes before is) ∙ so.1 in
    λ i. (with_closed c.args.mode life.entries initial (whole i) (with_closed c.args.mode life.entries initial (ended i) no_groups)).groups
