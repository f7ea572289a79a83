-- The faults of a telegram, by those of variables and packets, and their numbers and names (this project's profile).
use Rattle.std.specs.Prelude.{ℕ, List, codes}
use Rattle.vars.specs.declared.variable.NoValue.{NoValue}
use Rattle.vars.specs.declared.variable.NoValue.TheVariants as values
use Rattle.packets.specs.declared.fault.PacketFault.{PacketFault}
use Rattle.packets.specs.declared.fault.PacketFault.TheVariants as packets
use Rattle.telegram.specs.declared.fault.TelegramFault.{TelegramFault}
use Rattle.telegram.specs.declared.fault.TelegramFault.TheVariants as telegrams

abbrev pub value_fault : NoValue → TelegramFault
value_fault values.Spare = telegrams.Spare
value_fault values.OutOfRange = telegrams.OutOfRange

abbrev pub telegram_fault : PacketFault → TelegramFault
telegram_fault packets.Truncated = telegrams.Truncated
telegram_fault packets.WrongLength = telegrams.WrongLength
telegram_fault packets.Spare = telegrams.Spare
telegram_fault packets.OutOfRange = telegrams.OutOfRange

-- the number of a fault; 0 is none's
abbrev pub number_of_fault : TelegramFault → ℕ
number_of_fault telegrams.Truncated = 1
number_of_fault telegrams.WrongLength = 2
number_of_fault telegrams.Spare = 3
number_of_fault telegrams.OutOfRange = 4
number_of_fault telegrams.WrongVersion = 5
number_of_fault telegrams.NotUplink = 6
number_of_fault telegrams.NotBalise = 7
number_of_fault telegrams.NoEnd = 8
number_of_fault telegrams.TooLong = 9

abbrev pub name_of_fault : TelegramFault → List ℕ
name_of_fault telegrams.Truncated = codes "Truncated"
name_of_fault telegrams.WrongLength = codes "WrongLength"
name_of_fault telegrams.Spare = codes "Spare"
name_of_fault telegrams.OutOfRange = codes "OutOfRange"
name_of_fault telegrams.WrongVersion = codes "WrongVersion"
name_of_fault telegrams.NotUplink = codes "NotUplink"
name_of_fault telegrams.NotBalise = codes "NotBalise"
name_of_fault telegrams.NoEnd = codes "NoEnd"
name_of_fault telegrams.TooLong = codes "TooLong"
