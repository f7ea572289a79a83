use Rattle.std.proofs.Common.{◌∷◌, None, Some, sym, ◌∙◌}
use Rattle.track_picture.specs.Columns.{reported_in}
use Rattle.track_picture.specs.Entry.{TrackEntry}
use Rattle.track_picture.specs.Live.{Happening}
use Rattle.track_picture.specs.StandsFor.{grown}
use Rattle.track_picture.proofs.SameParts.{by_columns, by_facts}
use Rattle.track_picture.proofs.Standing.{seen, reported_as, gradients_as, speeds_as}
use Rattle.track_picture.proofs.Description.{up_to_look, with_mark, reported_marked}
use Rattle.track_picture.proofs.state.TracksideOver.enter.Goals as goal

pub returns-clause-stands : goal.returns-clause-stands
returns-clause-stands g c life event s =
    let are = g.met.T.ProfileStores.stores_are in
    let entry : TrackEntry = record event { entered = None } in
    let seen_now = up_to_look event life.entries in
    let reported = with_mark event.mark (reported_in seen_now) in
    let before = reported_as (reported_marked event.mark seen_now) (by_columns (grown life entry) (seen c.self.view_is s)) in
    by_facts (grown life (record event { entered = Some c.args.mode }))
    (reported_as (sym (reported_marked event.mark (Happening.Entered c.args.mode ∷ seen_now))) (record {
      parts_are = c.enter.ensures (grown life entry) reported before.parts_are;
      restrictions_are = before.restrictions_are;
      gradients_are = gradients_as are _
          ∙ c.leave_profile.ensures.profile (record { mark = reported.mark; facts = reported.gradients }) (sym (gradients_as are _) ∙ before.gradients_are);
      speeds_are = speeds_as are _
          ∙ c.leave_profile-2.ensures.profile (record { mark = reported.mark; facts = reported.speeds }) (sym (speeds_as are _) ∙ before.speeds_are);
    }))
