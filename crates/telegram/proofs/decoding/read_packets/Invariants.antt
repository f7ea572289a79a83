use Rattle.std.proofs.Common.{◌+◌, ◌*◌, ◌≤◌, List, Bool, ◌++◌, length}
use Rattle.packets.specs.declared.packet.Packet.{Packet}
use Rattle.telegram.specs.Sequences.{BeginsPackets}
use Rattle.telegram.specs.Telegrams.{RefusesPackets}
use Rattle.telegram.specs.declared.fault.TelegramFault.{TelegramFault}
use Rattle.telegram.proofs.decoding.read_packets.Given as goal

-- what comes of the bits that are left comes of all, after the packets so far
abbrev pub invariant-packets : goal.invariant-packets
invariant-packets l = record {
  begins : (ps : List Packet) (rest : List Bool) → BeginsPackets ps l.reader rest → BeginsPackets (l.packets.items ++ ps) l.fn.reader rest;
  refused : (e : TelegramFault) (ps : List Packet) → RefusesPackets e ps l.reader → RefusesPackets e (l.packets.items ++ ps) l.fn.reader;
  space : 23 * length l.packets.items + length l.reader ≤ 782;
}

abbrev pub decreases-packets : goal.decreases-packets
decreases-packets l = length l.reader
