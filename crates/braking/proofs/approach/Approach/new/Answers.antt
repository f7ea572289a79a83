use Rattle.braking.proofs.approach.Approach.new.Goals as goal

pub invariant_of-result : goal.invariant_of-result
invariant_of-result g c = record {
  sum = c.none-summed.ensures.summed (g.P.Profile.value c.args.gradient.now) c.args.brakes.now.deceleration;
  fitting = tt;
}
