use Rattle.std.proofs.Common.{◌≡◌, ℕ, ◌+◌, ◌<◌, false}
use Rattle.disk.specs.State.{sector_of}
use Rattle.request_disk.specs.Lent.{fails_at, lent_contents}
use Rattle.request_disk.proofs.lent.LentDisk.copy.Given as goal

abbrev pub invariant-loop-i : goal.invariant-loop-i
invariant-loop-i l =
    ((j : ℕ) → j < l.i → sector_of l.out j ≡ lent_contents l.self.disk l.self.first l.self.count (l.first + j))
    × ((j : ℕ) → j < l.i → fails_at l.self.disk l.self.first l.self.count (l.first + j) ≡ false)
