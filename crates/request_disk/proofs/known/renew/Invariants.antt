use Rattle.std.proofs.Common.{◌≡◌, ◌++◌, map, take, drop}
use Rattle.request_disk.specs.Known.{renewed}
use Rattle.request_disk.proofs.known.renew.Given as goal

abbrev pub invariant-loop-i : goal.invariant-loop-i
invariant-loop-i l = l.known ≡ map (renewed l.written l.requests) (take l.i l.initial.known) ++ drop l.i l.initial.known
