use Rattle.kernel.proofs.state.StateOver.brake_causes.Goals as goal

pub returns : goal.returns
returns g c life stands = c.causes.ensures life stands
