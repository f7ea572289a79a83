use Rattle.std.proofs.Common.{[], ◌∷◌, Option, ap, sym, ◌∙◌}
use Rattle.balise_groups.specs.declared.message.Closed.{Closed}
use Rattle.track_picture.specs.Closings.{closings_in, listed}
use Rattle.track_picture.specs.Columns.{moved, happened_by, after_moving, known_by}
use Rattle.track_picture.specs.Happenings.{happenings}
use Rattle.track_picture.specs.Live.{Happening}
use Rattle.track_picture.specs.Sentences.{with_closed}
use Rattle.track_picture.specs.StandsFor.{grown_so_far}
use Rattle.track_picture.proofs.OneGroup.{entry_with, one_if}
use Rattle.track_picture.proofs.Standing.{seen_columns as seen}
use Rattle.track_picture.proofs.Description.{reported_missed}
use Rattle.track_picture.proofs.state.TracksideOver.closings_left.Goals as goal

pub returns : goal.returns
returns g c life mode s =
    let reading = c.args.reading.now in
    let at = c.copy-parts.ensures ∙ (seen c.self.view_is s).parts_are in
    let went = c.go.ensures.moved life at in
    let initial = moved life.entries reading in
    let happened = happened_by life.entries reading in
    let left = c.leave-ended.ensures.stands life reading went
    ∙ ap (known_by (grown_so_far life initial (after_moving life.entries reading))) (sym (reported_missed initial.missed (Happening.Moved reading.movement ∷ happenings life.entries))) in
    entry_with c.closing_if.result
    ∙ ap listed c.closing_if.ensures
    ∙ one_if mode life initial happened c.leave-ended.new.self c.leave-ended.result left
    ∙ ap (λ (group : Option Closed). closings_in life.entries initial (with_closed mode life.entries initial group (record { groups = []; happened = happened })).groups)
    (c.leave-ended.ensures.answer life reading went)
