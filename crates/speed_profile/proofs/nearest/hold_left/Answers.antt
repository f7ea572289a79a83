use Rattle.std.proofs.Common.{refl, ◌∙◌, arith}
use Rattle.speed_profile.specs.Targets.{held}
use Rattle.speed_profile.proofs.Held.{lowered_among, lowered_at_end}
use Rattle.speed_profile.proofs.nearest.hold_left.Goals as goal

pub loop-target-init : goal.loop-target-init
loop-target-init g c = record { length = c.requires; requested = refl }

pub loop-target-preserved : goal.loop-target-preserved
loop-target-preserved g c =
    let old = c.loop-target.approach in
    let before = c.loop-target.others.targets in
    let after = c.next.new.self.targets in
    record {
      length = omega (arith, c.take.ensures.length, c.loop-target.invariant.length);
      requested = c.take.ensures.requested after
          ∙ lowered_among g.G.Profile.value (held c.loop-target.nearest) before after c.in-Some.target old c.in-Some.ensures.steps
          ∙ c.loop-target.invariant.requested;
    }

pub returns : goal.returns
returns g c =
    lowered_at_end g.G.Profile.value (held c.loop-target.nearest) c.loop-target.others.targets c.loop-target.approach c.in_default.ensures.steps.0
    ∙ c.loop-target.invariant.requested
