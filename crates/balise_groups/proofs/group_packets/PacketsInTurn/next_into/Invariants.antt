use Rattle.std.proofs.Common.{◌≡◌, ◌++◌, length}
use Rattle.telegram.specs.Walks.{packets_of}
use Rattle.balise_groups.specs.Description.{before_infill, used_of}
use Rattle.balise_groups.proofs.group_packets.PacketsInTurn.next_into.Given as goal

abbrev pub invariant-telegrams : goal.invariant-telegrams
invariant-telegrams l = before_infill (packets_of l.self-inside.packets.items) ++ used_of l.self-inside.telegrams ≡ l.fn.self

abbrev pub decreases-telegrams : goal.decreases-telegrams
decreases-telegrams l = length l.self-inside.telegrams
