-- The fault of a packet where a number has no value (this project's profile).
use Rattle.vars.specs.declared.variable.NoValue.{NoValue}
use Rattle.vars.specs.declared.variable.NoValue.TheVariants as values
use Rattle.packets.specs.declared.fault.PacketFault.{PacketFault}
use Rattle.packets.specs.declared.fault.PacketFault.TheVariants as packets

abbrev pub packet_fault : NoValue → PacketFault
packet_fault values.Spare = packets.Spare
packet_fault values.OutOfRange = packets.OutOfRange
