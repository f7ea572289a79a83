use Rattle.std.proofs.Common.{ap}
use Rattle.track_guard.specs.declared.tally.Tally.{Tally}
use Rattle.track_guard.proofs.guard.Guard.hear.Goals as goal

pub returns : goal.returns
returns c =
    let t = c.count_demands-tally.ensures in
    (t.0, t.1, c.take.ensures t.0 (ap (λ (x : Tally). x.brake) t.2), ap (λ (x : Tally). x.count) t.2)
