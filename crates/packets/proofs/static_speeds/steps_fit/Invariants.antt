use Rattle.bits.proofs.Fitting.{FromOn}
use Rattle.packets.specs.StaticSteps.{StepFits}
use Rattle.packets.proofs.static_speeds.steps_fit.Given as goal

abbrev pub invariant-loop-step : goal.invariant-loop-step
invariant-loop-step l = FromOn StepFits l.steps l.step-index
