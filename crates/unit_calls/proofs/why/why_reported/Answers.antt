use Rattle.std.proofs.Common.{List, ◌∙◌, ap}
use Rattle.events.specs.declared.output.Output.{Output}
use Rattle.kernel.specs.declared.causes.BrakeCause.{BrakeCause}
use Rattle.reasons.specs.LimitTexts.{limit_reported}
use Rattle.unit_calls.specs.Outputs.{description_of}
use Rattle.unit_calls.specs.Whys.{holds_in, why_with}
use Rattle.unit_calls.proofs.why.why_reported.Goals as goal

pub returns : goal.returns
returns c = λ life stands.
    let output = c.output-output.ensures life stands in
    let decides = c.limit_cause-decides.result in
    let reported = c.output_reported.ensures ∙ ap (λ (o : Output). description_of (record { number = c.args.event; output = o })) output in
    let motion = c.motion.ensures life stands in
    let limit = c.limit_reported-limit.ensures ∙ ap (λ (o : Output). limit_reported o.limit decides) output in
    let target = c.target_of.ensures in
    let releases = c.releases.ensures in
    let display_values = c.display_values.ensures.display_values life stands in
    let holds = c.holds_in.ensures ∙ ap (λ (l : List BrakeCause). holds_in l) (c.brake_causes-causes.ensures life stands) in (
      decides,
      c.limit_cause-decides.ensures life stands,
      c.why_with.ensures ∙ (λ i. why_with (record {
        output = reported i;
        motion = motion i;
        limit = limit i;
        target = target i;
        releases = releases i;
        display_values = display_values i;
        holds = holds i;
      })),
    )
