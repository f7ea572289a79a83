use Rattle.std.proofs.Common.{◌∷◌, None, Some, ap, sym, subst, ◌∙◌}
use Rattle.areas.specs.Levels.{coming}
use Rattle.odometry.specs.Place.{stretch}
use Rattle.units.specs.Stretches.{Span}
use Rattle.track_picture.specs.Columns.{reported_in}
use Rattle.track_picture.specs.Entry.{TrackEntry}
use Rattle.track_picture.specs.Live.{Happening}
use Rattle.track_picture.specs.Parts.{moment_in}
use Rattle.track_picture.specs.StandsFor.{KnownTrack, StandsForLife, grown}
use Rattle.track_picture.proofs.SameParts.{by_columns, by_facts}
use Rattle.track_picture.proofs.Standing.{seen, reported_as}
use Rattle.track_picture.proofs.Description.{up_to_groups, with_mark, reported_marked}
use Rattle.track_picture.proofs.state.TracksideOver.look.Goals as goal

pub returns-clause-level : goal.returns-clause-level
returns-clause-level g c life event s =
    let before = seen c.self.view_is s in
    let train = c.stretch-stretch.ensures.value ∙ ap (λ w. stretch w.parts.place c.args.length) c.self-inside.view_is
    ∙ ap (λ (k : KnownTrack). stretch k.place c.args.length) before.parts_are in
    let level = ap (λ (k : KnownTrack). k.level) before.parts_are in
    c.look.ensures.level ∙ (λ i. coming (train i).max_front (level i))

pub returns-clause-stands : goal.returns-clause-stands
returns-clause-stands g c life event s =
    let entry : TrackEntry = record event { train = None; entered = None } in
    let used = up_to_groups event life.entries in
    let before = reported_as (reported_marked event.mark used) (by_columns (grown life entry) (seen c.self.view_is s)) in
    let train = c.stretch-stretch.ensures.value ∙ ap (λ w. stretch w.parts.place c.args.length) c.self-inside.view_is
    ∙ ap (λ (k : KnownTrack). stretch k.place c.args.length) before.parts_are in
    subst (λ (t : Span). StandsForLife g.T.ProfileStores.stores (record { parts = c.look.new.self; restrictions = c.self.inside.restrictions; gradients = c.self.inside.gradients; speeds = c.self.inside.speeds })
    (grown life (record event { train = Some t; entered = None })))
    train
    (by_facts (grown life (record event { train = Some c.stretch-stretch.result; entered = None }))
    (reported_as (sym (reported_marked event.mark (Happening.Seen (record { moment = moment_in used; train = c.stretch-stretch.result }) ∷ used))) (record {
      parts_are = c.look.ensures.stands (grown life entry) (with_mark event.mark (reported_in used)) before.parts_are;
      restrictions_are = before.restrictions_are;
      gradients_are = before.gradients_are;
      speeds_are = before.speeds_are;
    })))
