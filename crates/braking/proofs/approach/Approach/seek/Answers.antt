use Rattle.braking.proofs.Stopping.{stop_lowered}
use Rattle.braking.proofs.approach.Approach.seek.Goals as goal

pub invariant_of-self : goal.invariant_of-self
invariant_of-self g c =
    let inside = c.self.inside in
    record {
      sum = c.self.invariant.sum;
      fitting = stop_lowered inside.front (g.P.Profile.value inside.gradient.now) inside.brakes.now inside.stop c.args.target.now inside.speed
          c.permitted_before-speed.result.0 c.permitted_before-speed.ensures.speed c.self.invariant.fitting;
    }
