use Rattle.std.proofs.Common.{ap, ◌∙◌}
use Rattle.events.specs.declared.kept.Kept.{Kept}
use Rattle.events.specs.declared.input.Event.TheVariants as event
use Rattle.mode_control.specs.Sentences.{initial_life}
use Rattle.kernel.specs.declared.counts.Counts.{Counts}
use Rattle.kernel.specs.Lives.{counted, counts_in, kept_by}
use Rattle.kernel.proofs.Leaving.{left_alike, answered_alike}
use Rattle.kernel.proofs.state.StateOver.begin_life.Goals as goal

pub returns-clause-stands : goal.returns-clause-stands
returns-clause-stands g c kept cold events waits same =
    record {
      life_is = left_alike cold kept (kept_by events) same (c.set_out.ensures.life kept cold waits);
      counts_are = c.set_out.ensures.counts cold
          ∙ ap (λ (n : Counts). counted n (event.PowerUp cold)) waits.counts_are
          ∙ ap (λ (k : Kept). counted (counts_in k) (event.PowerUp cold)) same;
    }

pub returns-clause-output : goal.returns-clause-output
returns-clause-output g c kept cold events waits same =
    c.output.ensures (initial_life kept cold) (c.set_out.ensures.life kept cold waits)
    ∙ answered_alike cold kept (kept_by events) same
