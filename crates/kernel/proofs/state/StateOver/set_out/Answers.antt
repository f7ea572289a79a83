use Rattle.std.proofs.Common.{◌≡◌, [], ap, refl, ◌∙◌}
use Rattle.events.specs.declared.input.Event.TheVariants as event
use Rattle.kernel.specs.Lives.{counted}
use Rattle.kernel.specs.StandsFor.{Knowledge, parts_of}
use Rattle.kernel.proofs.Standing.{seen}
use Rattle.mode_control.specs.Sentences.{initial_life}
use Rattle.kernel.proofs.state.StateOver.set_out.Goals as goal

pub returns-clause-life : goal.returns-clause-life
returns-clause-life g c kept cold waits =
    let before = seen c.self.view_is waits.life_is in
    let same : parts_of (record { kept = kept; cold = cold; entries = [] }) ≡ parts_of (initial_life kept cold) = refl in
    record { parts_are = before.parts_are ∙ same; supervision_is = c.set_out.ensures.stands kept cold before.supervision_is; carried_is = tt; still_is = tt }

pub returns-clause-counts : goal.returns-clause-counts
returns-clause-counts g c cold =
    c.powered_up-self-inside.ensures cold
    ∙ ap (λ (k : Knowledge g.row.T-Gradients.Denot g.row.T-Speeds.Denot). counted k.counts (event.PowerUp cold)) c.self.view_is
