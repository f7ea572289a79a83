use Rattle.std.proofs.Common.{rules}
use Rattle.std.proofs.lemmas.List.FromFn.{fill_by_all}
use Rattle.speed_profile.specs.Reported.{speed_for}
use Rattle.speed_profile.proofs.reported.speeds_for.Goals as goal

pub returns : goal.returns
returns c =
    fill_by_all (λ category. speed_for c.args.basic c.args.differences.now category) c.loop-category.speeds 16 0 c.loop-category.invariant.0 (search rules)
