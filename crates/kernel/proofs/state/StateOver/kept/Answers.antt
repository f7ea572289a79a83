use Rattle.std.proofs.Common.{◌∙◌, sym}
use Rattle.kernel.proofs.state.StateOver.kept.Goals as goal

pub returns-clause-pasts : goal.returns-clause-pasts
returns-clause-pasts g c past s = c.kept_of_life.ensures past.life s.life_is ∙ sym s.kept_is
