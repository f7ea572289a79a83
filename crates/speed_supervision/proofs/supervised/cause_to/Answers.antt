use Rattle.std.proofs.Common.{◌≡◌, ℕ, ap, sym, subst, ◌∙◌}
use Rattle.std.specs.Prelude.{IfSome}
use Rattle.speed_profile.specs.Ahead.{permitted_ahead}
use Rattle.speed_supervision.specs.Targets.{journey_by, target_of}
use Rattle.speed_supervision.specs.Over.{IsOver, IsFirstOver}
use Rattle.speed_supervision.specs.Supervised.{limit_here, IsDeciding, IsLast}
use Rattle.speed_supervision.proofs.supervised.cause_to.Goals as goal

pub deciding-requires : goal.deciding-requires
deciding-requires g c =
    let journey = journey_by g.S.Profile.value g.G.Profile.value c.args.ahead.now in
    let to : ℕ → ℕ = λ limit. permitted_ahead journey.front limit (target_of c.args.last) journey.bounds journey.track journey.gradient journey.brakes in
    subst (λ (limit : ℕ). IfSome c.args.last (IsLast journey limit (to limit))) (sym c.limit_on-limit.ensures) c.requires

pub returns-in-Some : goal.returns-in-Some
returns-in-Some g c national =
    let journey = journey_by g.S.Profile.value g.G.Profile.value c.args.ahead.now in
    let to : ℕ → ℕ = λ limit. permitted_ahead journey.front limit (target_of c.args.last) journey.bounds journey.track journey.gradient journey.brakes in
    subst (λ (limit : ℕ). IsDeciding journey limit (to limit) c.in-Some.found) c.limit_on-limit.ensures c.in-Some.ensures

pub returns-in-None : goal.returns-in-None
returns-in-None g c national =
    let journey = journey_by g.S.Profile.value g.G.Profile.value c.args.ahead.now in
    let to : ℕ → ℕ = λ limit. permitted_ahead journey.front limit (target_of c.args.last) journey.bounds journey.track journey.gradient journey.brakes in
    let same : c.limit_on-limit.result ≡ to (limit_here c.args.train.now journey) = sym c.in-None.ensures ∙ ap to c.limit_on-limit.ensures in
    subst (λ (speed : ℕ). IsOver c.args.train.now journey.bounds journey.track speed c.over_train.result
    × IsFirstOver c.args.train.now journey.bounds journey.track speed c.over_train.result) same (c.over_train.ensures.over, c.over_train.ensures.first)
