use Rattle.std.proofs.Common.{length, ◌≡◌, ◌+◌, ◌-◌}
use Rattle.track_packets.specs.Fields.{times, read_rows}
use Rattle.track_packets.proofs.reading.Reading.+rows.Given as goal

abbrev pub decreases-rows : goal.decreases-rows
decreases-rows l = length l.rows.now

abbrev pub invariant-loop : goal.invariant-loop
invariant-loop l = times (l.count - l.counter) (λ s. read_rows (l.levels - 1) (l.depth + 1) l.block s) l.self ≡ times l.count (λ s. read_rows (l.levels - 1) (l.depth + 1) l.block s) l.initial.self
