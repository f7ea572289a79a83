use Rattle.std.proofs.Common.{◌≤ℤ◌}
use Rattle.units.specs.Stretches.{count_between}
use Rattle.track_store.specs.Profiles.{IsKnownThroughout}
use Rattle.track_store.proofs.knowing.is_known_by_pieces.Given as goal

-- what was passed has a value everywhere
abbrev pub invariant-loop-end : goal.invariant-loop-end
invariant-loop-end g l = (l.fn.from ≤ℤ l.place) × IsKnownThroughout (g.P.Profile.value l.profile) l.fn.from l.place

-- how many centimetres are left
abbrev pub decreases-loop-end : goal.decreases-loop-end
decreases-loop-end g l = count_between l.place l.end
