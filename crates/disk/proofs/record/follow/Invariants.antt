use Rattle.std.proofs.Common.{◌≡◌, take}
use Rattle.disk.specs.Record.{trace_of}
use Rattle.disk.proofs.record.follow.Given as goal

abbrev pub invariant-loop-call : goal.invariant-loop-call
invariant-loop-call l = l.trace ≡ trace_of l.sector (take l.call-index l.calls)
