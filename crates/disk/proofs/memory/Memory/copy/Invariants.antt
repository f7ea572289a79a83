use Rattle.std.proofs.Common.{◌≡◌, ℕ, ◌+◌, ◌<◌}
use Rattle.disk.specs.State.{sector_of, contents_of}
use Rattle.disk.specs.Memory.{memory_state}
use Rattle.disk.proofs.memory.Memory.copy.Given as goal

abbrev pub invariant-loop-i : goal.invariant-loop-i
invariant-loop-i l = (j : ℕ) → j < l.i → sector_of l.out j ≡ contents_of (memory_state l.self) (l.first + j)
