use Rattle.std.proofs.Common.{◌≡◌, ◌+◌, ◌≤◌, drop}
use Rattle.packets.specs.StaticSteps.{steps_taken, steps_size}
use Rattle.packets.proofs.static_speeds.handing.steps_fields.Given as goal

abbrev pub invariant-loop-step : goal.invariant-loop-step
invariant-loop-step g l = record {
  so_far : steps_taken g.S.FieldSink.took (drop l.step-index l.steps) l.left (g.S.FieldSink.seen l.sink) ≡ steps_taken g.S.FieldSink.took l.steps l.differences (g.S.FieldSink.seen l.fn.sink);
  space : g.S.FieldSink.held l.sink + steps_size (drop l.step-index l.steps) l.left ≤ g.S.FieldSink.held l.fn.sink + steps_size l.steps l.differences;
}
