-- The packets that telegrams say are those that are used of each.
use Rattle.std.proofs.Common.{◌≡◌, List, [], ◌∷◌, ◌++◌, map, refl, ap}
use Rattle.packets.specs.declared.packet.Packet.{Packet}
use Rattle.telegram.specs.declared.message.Telegram.{Telegram}
use Rattle.balise_groups.specs.Description.{before_infill, used_of, reported_by}

pub reported_used : (telegrams : List Telegram) → used_of (map (λ t. t.packets.items) telegrams) ≡ reported_by telegrams
reported_used [] = refl
reported_used (t ∷ ts) = ap (λ (ps : List Packet). before_infill t.packets.items ++ ps) (reported_used ts)
