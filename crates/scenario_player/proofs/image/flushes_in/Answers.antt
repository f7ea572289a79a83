use Rattle.std.proofs.Common.{rules, sym, ◌∙◌, arith}
use Rattle.events.specs.declared.step.Step.TheVariants.{Flush}
use Rattle.scenario_player.proofs.Flushes.{flushes_more}
use Rattle.scenario_player.proofs.image.flushes_in.Goals as goal
use Rattle.scenario_player.proofs.image.flushes_in.Goals.{in-Flush, in_default}

pub loop-step-preserved : goal.loop-step-preserved
loop-step-preserved c =
    let before = c.loop-step.invariant in
    elim c.match-step.branch [
      | in-Flush w ↦ (
          let more = flushes_more c.args.steps.now c.loop-step.step-index Flush _ (search rules) (sym c.step-item.is ∙ w.in-Flush.is) in
          record { count = omega (arith, before.count, w.flushes-is, more); few = omega (arith, before.few, w.flushes-is) })
      | in_default w ↦ (
          let more = flushes_more c.args.steps.now c.loop-step.step-index _ _ (search rules) (sym c.step-item.is ∙ w.in_default.is) in
          record { count = omega (arith, before.count, w.flushes-is, more); few = omega (arith, before.few, w.flushes-is) })
    ]
