use Rattle.std.proofs.Common.{◌+◌, List, ◌++◌, drop, ap, sym, ◌∙◌, arith}
use Rattle.std.specs.Prelude.{Option}
use Rattle.std.proofs.lemmas.List.{append-nil, at_drop_all}
use Rattle.braking.specs.declared.target.Target.{Target}
use Rattle.braking.specs.Approaches.{lowered_by}
use Rattle.speed_profile.specs.Targets.{held}
use Rattle.speed_profile.proofs.Held.{held_from}
use Rattle.speed_profile.proofs.nearest.lower_each.Goals as goal

pub returns : goal.returns
returns g c =
    let value = g.G.Profile.value in
    let now = c.loop-step.approach in
    let speeds = c.loop-step.speeds.targets in
    ap (λ (left : List Target). lowered_by (value now.gradient) left now) (sym (append-nil speeds))
    ∙ sym (at_drop_all (λ (places : List (Option Target)). lowered_by (value now.gradient) (speeds ++ held places) now) c.args.nearest.now c.loop-step.step
    (omega (arith, c.loop-step-test.false)))
    ∙ c.loop-step.invariant

pub loop-step-preserved : goal.loop-step-preserved
loop-step-preserved g c =
    let old = c.loop-step.approach in
    let places = c.args.nearest.now in
    c.lower_if_held.ensures (held (drop (c.loop-step.step + 1) places))
    ∙ ap (λ (some : List Target). lowered_by (g.G.Profile.value old.gradient) (c.loop-step.speeds.targets ++ some) old)
    (held_from places c.loop-step.step c.index-nearest-step.result (omega (arith, c.loop-step-test.true)) c.index-nearest-step.is)
    ∙ c.loop-step.invariant
