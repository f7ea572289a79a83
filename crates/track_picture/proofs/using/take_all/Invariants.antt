use Rattle.std.proofs.Common.{◌≡◌, ℕ, ◌≤◌, length}
use Rattle.std.specs.Prelude.{◌||◌}
use Rattle.std.specs.List.{list_any}
use Rattle.track_picture.specs.Columns.{after_facts}
use Rattle.track_picture.specs.Steps.{facts}
use Rattle.track_picture.specs.Happenings.{comes_later}
use Rattle.track_picture.proofs.using.take_all.Given as goal

-- what the packets still to come make of what was reported now is what all of them make of what was reported before;
-- the space that is left is for them; those met so far and those to come are all; and without packets nothing changes
abbrev pub invariant-packets : goal.invariant-packets
invariant-packets g l =
    ((reported : g.W.Walk.Reported) → g.W.Walk.IsReported l.fn.state reported → (now : g.W.Walk.Reported) × (g.W.Walk.IsReported l.state now)
    × (after_facts g.W.Walk.after (facts l.used l.walk) now ≡ after_facts g.W.Walk.after (facts l.used l.fn.packets) reported))
    × ((following : ℕ) → g.W.Walk.HasSpace (length l.fn.packets) following l.fn.state → g.W.Walk.HasSpace (length l.walk) following l.state)
    × (list_any comes_later l.fn.packets ≡ (l.later || list_any comes_later l.walk))
    × (length l.walk ≤ length l.fn.packets)
    × (length l.fn.packets ≡ 0 → l.state ≡ l.fn.state)

abbrev pub decreases-packets : goal.decreases-packets
decreases-packets g l = length l.walk
