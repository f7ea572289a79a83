use Rattle.std.proofs.Common.{◌++◌, ap, sym}
use Rattle.track_store.specs.Profiles.{listed}
use Rattle.speed_profile.specs.Targets.{Left}
use Rattle.speed_profile.proofs.Asking.{equal}
use Rattle.speed_profile.proofs.Held.{of_all, of_before, of_through}
use Rattle.speed_profile.proofs.targets.others.OtherTargets.skip_fitting.Goals as goal

pub returns : goal.returns
returns g c =
    let value = g.G.Profile.value in
    let course = c.args.approach.now in
    let inside = c.self.inside in
    let rest = inside.inside.targets ++ listed inside.last in
    let all = inside.restricted.targets ++ rest in
    let left = c.skip_fitting.new.self.targets in
    of_through value c.args.self.now.targets all (left ++ rest) course
    (of_all value c.args.self.now.targets all course (equal c.args.self.now.targets all (sym (ap (λ (l : Left). l.targets) c.self.view_is))))
    (of_before value inside.restricted.targets left rest course c.skip_fitting.ensures)
