use Rattle.std.proofs.Common.{◌≡◌, ◌≤◌, ℕ, ◌*◌, ◌<◌, length}
use Rattle.disk.specs.State.{now, sector_of}
use Rattle.disk.specs.Choice.{open_below, settled_sector}
use Rattle.disk.specs.Memory.{memory_state, handed_of}
use Rattle.disk.proofs.memory.Memory.settled.Given as goal

abbrev pub invariant-loop-sector : goal.invariant-loop-sector
invariant-loop-sector l = record {
  size : length l.after.items ≡ 512 * l.sector;
  few : l.next ≤ l.sector;
  next : l.next ≡ open_below (now (memory_state l.self)) l.sector;
  settled : (s : ℕ) → s < l.sector → sector_of l.after.items s ≡ settled_sector (memory_state l.self) (handed_of l.self) l.choices s;
}
