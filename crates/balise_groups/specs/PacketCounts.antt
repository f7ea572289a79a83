-- How many packets balise groups hold, to make space before they close (this project's profile).
use Rattle.std.specs.Prelude.{ℕ, ◌+◌, ◌*◌, length, Option, None, Some, List, [], ◌∷◌}
use Rattle.balise_groups.specs.declared.assembler.Taken.{Taken}
use Rattle.balise_groups.specs.declared.reading.Reading.{Reading}
use Rattle.balise_groups.specs.declared.message.Closed.{Closed}
use Rattle.balise_groups.specs.declared.message.Closed.TheVariants as closed

-- the packets of one telegram
abbrev pub packets_at : Reading → ℕ
packets_at reading = length reading.telegram.packets.items

-- .. of telegrams
abbrev pub packets_in : List Reading → ℕ
packets_in [] = 0
packets_in (reading ∷ readings) = packets_at reading + packets_in readings

-- .. of a group that closed; a broken one has none
abbrev pub packets_of_closed : Option Closed → ℕ
packets_of_closed None = 0
packets_of_closed (Some (closed.Whole message)) = length message.packets
packets_of_closed (Some (closed.Broken b)) = 0

-- .. of all that closes at a reading
abbrev pub packets_of_taken : Taken → ℕ
packets_of_taken taken = packets_of_closed taken.ended + packets_of_closed taken.whole

-- the most that a group's telegrams have: it has at most eight, of at most 33 packets each
abbrev pub most_packets : ℕ
most_packets = 8 * 33
