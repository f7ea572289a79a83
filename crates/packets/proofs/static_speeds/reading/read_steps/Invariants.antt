use Rattle.std.proofs.Common.{◌≡◌, ◌+◌, ◌-◌, ◌≤◌, length}
use Rattle.bits.specs.Layout.{read, folded}
use Rattle.packets.specs.Layouts.{static_step}
use Rattle.packets.proofs.static_speeds.reading.read_steps.Given as goal

abbrev pub invariant-loop-i : goal.invariant-loop-i
invariant-loop-i l = record {
  so_far : read (folded static_step (l.count - l.i) l.speeds) l.reader ≡ read (folded static_step l.count l.fn.speeds) l.fn.reader;
  few : length l.speeds.steps.items ≡ length l.fn.speeds.steps.items + l.i;
  space : length l.speeds.differences.items ≤ 70;
}
