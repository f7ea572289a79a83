use Rattle.std.proofs.Common.{ap, ◌∙◌}
use Rattle.events.specs.declared.input.Event.TheVariants as event
use Rattle.kernel.specs.declared.counts.Counts.{Counts}
use Rattle.kernel.specs.Lives.{counted}
use Rattle.kernel.proofs.state.StateOver.begin.Goals as goal

pub returns-clause-life : goal.returns-clause-life
returns-clause-life g c = c.set_out.ensures.life c.args.kept c.args.cold c.before_power_up-initial.ensures.waits

pub returns-clause-counts : goal.returns-clause-counts
returns-clause-counts g c =
    c.set_out.ensures.counts c.args.cold
    ∙ ap (λ (n : Counts). counted n (event.PowerUp c.args.cold)) c.before_power_up-initial.ensures.waits.counts_are
