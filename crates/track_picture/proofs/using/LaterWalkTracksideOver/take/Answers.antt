use Rattle.std.proofs.Common.{sym, subst, ◌∙◌}
use Rattle.track_picture.specs.Steps.{fact_of}
use Rattle.track_picture.specs.Reported.{IsReported}
use Rattle.track_picture.proofs.Marking.{revocation_unmarked}
use Rattle.track_picture.proofs.using.LaterWalkTracksideOver.take.Goals as goal

pub returns-clause-reported : goal.returns-clause-reported
returns-clause-reported g c walked s =
    let before = subst (λ k. IsReported g.T.ProfileStores.stores k walked) (sym c.state.view_is) s in
    let fact = fact_of c.args.used.now c.args.packet.now in
    record {
      parts_are = c.describe_later.ensures walked before.parts_are;
      restrictions_are = c.take.ensures.track walked.reported.restrictions before.restrictions_are;
      mark_is = revocation_unmarked fact walked.reported.restrictions ∙ before.mark_is;
      gradients_are = before.gradients_are;
      speeds_are = before.speeds_are;
    }
