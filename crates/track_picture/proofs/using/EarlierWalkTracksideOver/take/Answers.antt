use Rattle.std.proofs.Common.{◌≡◌, ap, sym, subst, ◌∙◌}
use Rattle.track_store.specs.Restrictions.{InForce}
use Rattle.track_picture.specs.Steps.{fact_of}
use Rattle.track_picture.specs.Reported.{IsReported}
use Rattle.track_picture.proofs.Marking.{restriction_unmarked}
use Rattle.track_picture.proofs.Standing.{gradients_as, speeds_as}
use Rattle.track_picture.proofs.using.EarlierWalkTracksideOver.take.Goals as goal

pub returns-clause-reported : goal.returns-clause-reported
returns-clause-reported g c walked s =
    let are = g.met.T.ProfileStores.stores_are in
    let before = subst (λ k. IsReported g.T.ProfileStores.stores k walked) (sym c.state.view_is) s in
    let fact = fact_of c.args.used.now c.args.packet.now in
    let marked : walked.reported.mark ≡ c.mark-mark.result =
    sym (c.mark-mark.ensures ∙ ap (λ (t : InForce). t.mark) before.restrictions_are ∙ before.mark_is) in
    let gradients = c.take-2.ensures.profile (record { mark = walked.reported.mark; facts = walked.reported.gradients }) marked (sym (gradients_as are _ ∙ g.met.T.Gradients.ProfileStore.profile_is c.state.inside.gradients) ∙ before.gradients_are) in
    let speeds = c.take-3.ensures.profile (record { mark = walked.reported.mark; facts = walked.reported.speeds }) marked (sym (speeds_as are _ ∙ g.met.T.Speeds.ProfileStore.profile_is c.state.inside.speeds) ∙ before.speeds_are) in
    record {
      parts_are = c.describe.ensures walked before.parts_are;
      restrictions_are = c.take.ensures.track walked.reported.restrictions before.restrictions_are;
      mark_is = restriction_unmarked fact walked.reported.restrictions ∙ before.mark_is;
      gradients_are = gradients_as are _ ∙ g.met.T.Gradients.ProfileStore.profile_is _ ∙ gradients;
      speeds_are = speeds_as are _ ∙ g.met.T.Speeds.ProfileStore.profile_is _ ∙ speeds;
    }
