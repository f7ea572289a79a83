use Rattle.std.proofs.Common.{[], ap, ◌∙◌}
use Rattle.track_store.specs.Restrictions.{Held}
use Rattle.track_store.specs.Profiles.{profile_with}
use Rattle.track_store.proofs.Description.{none_reported}
use Rattle.track_picture.specs.Columns.{nothing_reported}
use Rattle.track_picture.proofs.SameParts.{by_facts}
use Rattle.track_picture.proofs.Standing.{gradients_as, speeds_as}
use Rattle.track_picture.proofs.state.TracksideOver.new.Goals as goal

pub returns-clause-stands : goal.returns-clause-stands
returns-clause-stands g c =
    let are = g.met.T.ProfileStores.stores_are in
    by_facts (record { kept = c.args.kept; entries = [] })
    (record {
      parts_are = c.new.ensures;
      restrictions_are = ap (λ (h : Held). h.track) c.new-2.ensures;
      gradients_are = gradients_as are _ ∙ g.met.T.Gradients.ProfileStore.profile_is _
          ∙ none_reported (profile_with g.T.Gradients.Profile.value c.empty.result) nothing_reported.mark c.empty.ensures.value;
      speeds_are = speeds_as are _ ∙ g.met.T.Speeds.ProfileStore.profile_is _
          ∙ none_reported (profile_with g.T.Speeds.Profile.value c.empty-2.result) nothing_reported.mark c.empty-2.ensures.value;
    })
