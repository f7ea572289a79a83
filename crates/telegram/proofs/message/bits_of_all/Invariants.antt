use Rattle.std.proofs.Common.{◌≡◌, ◌+◌, ◌*◌, ◌^◌, ◌≤◌, drop}
use Rattle.telegram.specs.Sequences.{length_of_all}
use Rattle.telegram.proofs.message.bits_of_all.Given as goal

abbrev pub invariant-loop-packet : goal.invariant-loop-packet
invariant-loop-packet l = record {
  so_far : l.total + length_of_all (drop l.packet-index l.packets) ≡ length_of_all l.packets;
  small : l.total ≤ l.packet-index * 2 ^ 33;
}
