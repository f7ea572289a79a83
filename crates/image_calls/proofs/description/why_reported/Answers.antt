use Rattle.std.proofs.Common.{◌∙◌, ap, sym, subst}
use Rattle.events.specs.declared.output.Output.{Output}
use Rattle.kernel.specs.Lives.{past_at}
use Rattle.kernel.specs.StandsFor.{StandsAt}
use Rattle.reasons.specs.LimitTexts.{limit_reported}
use Rattle.track_picture.specs.Stores.{segment_stores}
use Rattle.image_calls.specs.Whys.{why_with}
use Rattle.image_calls.proofs.description.why_reported.Goals as goal

pub returns : goal.returns
returns c = λ story stands.
    let output = c.output-output.ensures story stands in
    let life = (past_at story).life in
    let knows = subst (λ k. StandsAt segment_stores k (past_at story)) (sym c.state.ensures) stands.knows in
    let cause = c.limit_cause-cause.result in
    let runs = c.runs.ensures story stands in
    let trip = c.trip.ensures story stands in
    let motion = c.motion-motion.ensures life knows.life_is in
    let limit = c.limit_reported.ensures ∙ ap (λ (o : Output). limit_reported o.limit cause) output in (
      cause,
      c.limit_cause-cause.ensures story stands,
      c.why_with.ensures ∙ (λ i. why_with c.args.event (output i) (runs i) (trip i) ((motion i).backward) ((motion i).allowed) ((motion i).speed) (limit i)),
    )
