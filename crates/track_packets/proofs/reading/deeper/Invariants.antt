use Rattle.std.proofs.Common.{◌≡◌, ◌+◌, nat_lt, drop}
use Rattle.std.specs.List.{prefix_len}
use Rattle.track_packets.proofs.reading.deeper.Given as goal

abbrev pub invariant-loop-i : goal.invariant-loop-i
invariant-loop-i l = l.i + prefix_len (λ row. nat_lt l.depth row.depth) (drop l.i l.rows) ≡ prefix_len (λ row. nat_lt l.depth row.depth) l.rows
