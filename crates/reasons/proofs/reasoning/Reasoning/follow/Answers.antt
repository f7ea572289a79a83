use Rattle.std.proofs.Common.{ap, sym, subst, ◌∙◌, arith}
use Rattle.kernel.specs.declared.causes.BrakeCause.TheVariants as cause
use Rattle.kernel.specs.Causes.{is_among}
use Rattle.kernel.specs.Lives.{onward, past_at}
use Rattle.kernel.specs.StandsFor.{StandsAt}
use Rattle.track_picture.specs.Stores.{segment_stores}
use Rattle.reasons.specs.Closings.{AreGroups}
use Rattle.reasons.specs.Reported.{Reasoned}
use Rattle.reasons.specs.Runs.{in_this_life}
use Rattle.reasons.specs.Trips.{trip_held}
use Rattle.reasons.proofs.Numbers.{one_more_after}
use Rattle.reasons.proofs.reasoning.Reasoning.follow.Goals as goal

pub returns-clause-stands : goal.returns-clause-stands
returns-clause-stands c = λ story stands.
    let event = c.args.event.now in
    let later = onward story event in
    let applied = c.in-Ok-apply.ensures.applied story stands in
    let same = c.self.view_is ∙ applied.others in
    let numbered = ap (λ (r : Reasoned). r.next) same ∙ stands.numbered in
    let runs = ap (λ (r : Reasoned). r.runs) same ∙ stands.runs_are in
    let trip = ap (λ (r : Reasoned). r.trip) same ∙ stands.trip_is in
    let knows = subst (λ (r : Reasoned). StandsAt segment_stores r.state (past_at later)) (sym c.self.view_is) applied.knows in
    let causes = c.causes_in-causes.ensures (past_at later).life knows.life_is in
    let entered = c.in-Ok.ensures story stands in
    let owes = c.holds.ensures ∙ ap (is_among cause.OwesTrip) causes in
    let before = c.trip_before-before.ensures ∙ ap (in_this_life event) trip in
    record {
      knows = knows;
      numbered = omega (arith, numbered, one_more_after story event);
      runs_are = c.after-self-inside.ensures story runs causes numbered;
      trip_is = c.trip_held-trip.ensures ∙ (λ i. trip_held (owes i) (entered i) (before i) (numbered i));
      groups_are = subst (λ (r : Reasoned). AreGroups later r.groups) (sym c.self.view_is) applied.groups_are;
    }

pub returns-clause-output : goal.returns-clause-output
returns-clause-output c = λ story stands. (c.in-Ok-apply.ensures.applied story stands).answers
