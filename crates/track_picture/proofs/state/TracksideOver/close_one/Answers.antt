use Rattle.std.proofs.Common.{ap, sym, subst, ◌∙◌}
use Rattle.balise_groups.specs.declared.message.Closed.{Closed}
use Rattle.linking.specs.declared.effect.Effect.{Effect}
use Rattle.linking.specs.Judging.{broken_effect}
use Rattle.linking.specs.Linking.{KnownLinks}
use Rattle.track_picture.specs.Entry.{blank, added, asking_for}
use Rattle.track_picture.specs.Entry.Outcome.{Broken as NoMessage}
use Rattle.track_picture.specs.Sentences.{after_group}
use Rattle.track_picture.specs.StandsFor.{KnownTrack, grown_so_far}
use Rattle.track_picture.specs.Columns.{StandsForColumns, reported_in, after_breaking}
use Rattle.track_picture.proofs.Chain.{links_are}
use Rattle.track_picture.proofs.SameParts.{same_parts}
use Rattle.track_picture.proofs.Standing.{seen_columns as seen, reported_as}
use Rattle.track_picture.proofs.Description.{up_to_groups, reported_judged}
use Rattle.track_picture.proofs.state.TracksideOver.close_one.Goals as goal

pub returns-in-Broken-clause-stands : goal.returns-in-Broken-clause-stands
returns-in-Broken-clause-stands g c life initial used s =
    let b = c.in-Broken.broken in
    let inside = seen c.self.view_is s in
    let before = up_to_groups (record blank { initial = initial; used = used }) life.entries in
    let links = ap (λ (k : KnownTrack). k.links) inside.parts_are ∙ sym (links_are before) in
    let requested = ap (λ (k : KnownTrack). broken_effect k.links b.group b.linked) (inside.parts_are ∙ sym (same_parts (grown_so_far life initial used))) in
    subst (λ (group : Closed). StandsForColumns g.T.ProfileStores.stores (record { parts = c.give_up.new.self; restrictions = c.self.inside.restrictions; gradients = c.self.inside.gradients; speeds = c.self.inside.speeds })
    (grown_so_far life initial (after_group c.args.mode life.entries initial used group)))
    (sym c.in-Broken.is)
    (subst (λ (effect : Effect). StandsForColumns g.T.ProfileStores.stores (record { parts = c.give_up.new.self; restrictions = c.self.inside.restrictions; gradients = c.self.inside.gradients; speeds = c.self.inside.speeds })
    (grown_so_far life initial (added (NoMessage b) (asking_for effect used))))
    requested
    (reported_as (ap (λ (k : KnownLinks). after_breaking k b (reported_in before)) links ∙ sym (reported_judged (NoMessage b) before)) (record {
      parts_are = c.give_up.ensures life initial used (reported_in before) inside.parts_are;
      restrictions_are = inside.restrictions_are;
      gradients_are = inside.gradients_are;
      speeds_are = inside.speeds_are;
    })))
