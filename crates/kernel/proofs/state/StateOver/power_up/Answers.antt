use Rattle.std.proofs.Common.{ap, sym, ◌∙◌}
use Rattle.events.specs.declared.kept.Kept.{Kept}
use Rattle.events.specs.declared.input.Event.TheVariants as event
use Rattle.mode_control.specs.Sentences.{initial_life}
use Rattle.kernel.specs.declared.counts.Counts.{Counts}
use Rattle.kernel.specs.Lives.{counted, counts_in, kept_of, left_by, kept_by}
use Rattle.kernel.proofs.Leaving.{left_alike, answered_alike}
use Rattle.kernel.proofs.state.StateOver.power_up.Goals as goal

pub returns-clause-stands : goal.returns-clause-stands
returns-clause-stands g c events same =
    let alike = ap (left_by c.args.cold) c.copy.ensures ∙ same in
    record {
      life_is = left_alike c.args.cold c.copy.result (kept_by events) alike c.begin-state.ensures.life;
      counts_are = c.begin-state.ensures.counts ∙ ap (λ (k : Kept). counted (record { events = k.events; lives = k.lives }) (event.PowerUp c.args.cold)) alike;
    }

pub returns-clause-initial : goal.returns-clause-initial
returns-clause-initial g c past same =
    let alike = ap (left_by c.args.cold) c.copy.ensures ∙ same in
    let counts = c.begin-state.ensures.counts ∙ ap (λ (k : Kept). counted (counts_in k) (event.PowerUp c.args.cold)) alike in
    record {
      life_is = left_alike c.args.cold c.copy.result past.kept alike c.begin-state.ensures.life;
      kept_is = ap (λ (n : Counts). kept_of n (initial_life past.kept c.args.cold)) (sym counts);
    }

pub returns-clause-answer : goal.returns-clause-answer
returns-clause-answer g c past same =
    c.output-output.ensures (initial_life c.copy.result c.args.cold) c.begin-state.ensures.life
    ∙ answered_alike c.args.cold c.copy.result past.kept (ap (left_by c.args.cold) c.copy.ensures ∙ same)

pub returns-clause-output : goal.returns-clause-output
returns-clause-output g c events same =
    c.output-output.ensures (initial_life c.copy.result c.args.cold) c.begin-state.ensures.life
    ∙ answered_alike c.args.cold c.copy.result (kept_by events) (ap (left_by c.args.cold) c.copy.ensures ∙ same)
