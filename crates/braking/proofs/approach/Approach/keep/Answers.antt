use Rattle.braking.specs.Braking.{IsSummed}
use Rattle.braking.proofs.Stopping.{stopping_fits}
use Rattle.braking.proofs.Approaching.{summed_inside}
use Rattle.braking.proofs.approach.Approach.keep.Goals as goal

pub invariant_of-self : goal.invariant_of-self
invariant_of-self g c =
    let value = g.P.Profile.value in
    let summed : IsSummed (value c.self.inside.gradient.now) c.self.inside.brakes.now.deceleration c.args.sum =
    summed_inside value _ c.args.self.now c.args.sum c.self.view_is c.requires in
    record {
      sum = summed;
      fitting = stopping_fits c.self.inside.front (value c.self.inside.gradient.now) c.self.inside.brakes.now c.self.inside.speed c.args.sum summed
          (c.stops_within.ensures c.if-stops_within.true);
    }
