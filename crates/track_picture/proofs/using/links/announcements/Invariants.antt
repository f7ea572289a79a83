use Rattle.std.proofs.Common.{◌≡◌, ◌++◌, ◌+◌, ◌*◌, ◌≤◌, drop, length}
use Rattle.std.specs.Int.RustNames.{unsigned_abs}
use Rattle.units.specs.Limits.{farthest, reach}
use Rattle.track_picture.specs.Announcing.{announced_from, announcements_of}
use Rattle.track_picture.proofs.using.links.announcements.Given as goal

-- the groups so far and those that the rest announces are those of all
abbrev pub invariant-loop-link : goal.invariant-loop-link
invariant-loop-link l =
    (l.announcements.items ++ announced_from l.chain.scale l.chain.place l.chain.country (drop l.link-index l.packet.links.items)
    ≡ announcements_of l.fn.group l.fn.place l.fn.packet)
    × (length l.announcements.items ≡ l.link-index)
    × (unsigned_abs l.chain.place ≤ 3 * farthest + l.link-index * reach)
