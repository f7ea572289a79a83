use Rattle.std.proofs.Common.{◌≡◌}
use Rattle.units.specs.Stretches.{over, least, count_between}
use Rattle.track_store.specs.Profiles.{listed}
use Rattle.track_store.proofs.stretches.least_over.Given as goal

-- the limit with what is left gives the least of the whole
abbrev pub invariant-loop-to : goal.invariant-loop-to
invariant-loop-to g l =
    least l.limit (over (λ place. listed (g.P.Profile.value l.profile place)) l.place l.to)
    ≡ least l.initial.limit (over (λ place. listed (g.P.Profile.value l.profile place)) l.initial.place l.to)

-- how many centimetres are left
abbrev pub decreases-loop-to : goal.decreases-loop-to
decreases-loop-to g l = count_between l.place l.to
