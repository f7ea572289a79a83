use Rattle.std.proofs.Common.{◌≡◌}
use Rattle.units.specs.Stretches.{count_between}
use Rattle.track_store.specs.Profiles.{is_known_over}
use Rattle.track_store.proofs.knowing.is_known_over.Given as goal

-- what is left has a value exactly where the whole has one
abbrev pub invariant-loop-to : goal.invariant-loop-to
invariant-loop-to g l =
    is_known_over (g.P.Profile.value l.profile) l.place l.to ≡ is_known_over (g.P.Profile.value l.profile) l.initial.place l.to

-- how many centimetres are left
abbrev pub decreases-loop-to : goal.decreases-loop-to
decreases-loop-to g l = count_between l.place l.to
