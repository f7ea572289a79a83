use Rattle.std.proofs.Common.{[], ◌∷◌, sym, ◌∙◌, ap}
use Rattle.events.specs.declared.input.Event.TheVariants.{PowerUp}
use Rattle.kernel.specs.Output.{output_after}
use Rattle.whole_lives.specs.Runs.{accepted_by}
use Rattle.whole_lives.proofs.Chains.{accepted_on}
use Rattle.whole_lives.proofs.laws.forgets_across.Goals as goal

pub returns : goal.returns
returns c = λ p q recorded_cold steps same.
    ap output_after (accepted_on (PowerUp recorded_cold ∷ p) steps) ∙ c.power_up_forgets.ensures recorded_cold p q (accepted_by [] steps) same ∙ sym (ap output_after (accepted_on (PowerUp recorded_cold ∷ q) steps))
