use Rattle.std.proofs.Common.{◌≡◌, ◌<◌, ◌≤◌, ℕ, min, ap, ◌∙◌, arith}
use Rattle.std.specs.Prelude.{Some}
use Rattle.std.proofs.lemmas.Bool.Decides.{nat_tests}
use Rattle.speed_profile.specs.Ahead.{permitted_ahead}
use Rattle.speed_supervision.specs.Limit.{release_speed, the_end, the_supervised_location}
use Rattle.speed_supervision.specs.declared.cause.TargetAhead.{TargetAhead}
use Rattle.speed_supervision.specs.Targets.{journey_by}
use Rattle.speed_supervision.specs.Supervised.{limit_here, permitted_to}
use Rattle.speed_supervision.proofs.Releasing.{end_is_last, location_is_last, of_equal, without_end, at_the_end, at_the_location, by_release}
use Rattle.speed_supervision.proofs.supervised.supervised_cause.Goals as goal

pub returns-in_default : goal.returns-in_default
returns-in_default g c =
    let journey = journey_by g.S.Profile.value g.G.Profile.value c.args.ahead.now in
    without_end c.args.train.now journey c.args.national c.cause_to.result c.in_default.is (c.cause_to.ensures c.args.national)

pub cause_to-requires-then-le : goal.cause_to-requires-then-le
cause_to-requires-then-le g c =
    let journey = journey_by g.S.Profile.value g.G.Profile.value c.args.ahead.now in
    end_is_last journey c.in-Some.end c.in-Some.is c.end_of-to_end.result (limit_here c.args.train.now journey)
    (permitted_to c.args.train.now journey (Some c.end_of-to_end.result.target)) c.end_of-to_end.ensures

pub returns-then-le : goal.returns-then-le
returns-then-le g c =
    let journey = journey_by g.S.Profile.value g.G.Profile.value c.args.ahead.now in
    let train = c.args.train.now in
    let end = c.in-Some.end in
    let to : ℕ → TargetAhead → ℕ = λ limit ahead.
    permitted_ahead journey.front limit (Some ahead.target) journey.bounds journey.track journey.gradient journey.brakes in
    let reached : c.permitted_for_either-either.result.0 ≡ permitted_to train journey (Some (the_end end)) =
    c.permitted_for_either-either.ensures.one ∙ (λ i. to (c.limit_on-limit.ensures i) (c.end_of-to_end.ensures i)) in
    let stopped : c.permitted_for_either-either.result.1 ≡ permitted_to train journey (Some (the_supervised_location end)) =
    c.permitted_for_either-either.ensures.other ∙ (λ i. to (c.limit_on-limit.ensures i) (c.location_of-to_location.ensures i)) in
    let release : c.release_speed-release.result ≡ release_speed end.release c.args.national = c.release_speed-release.ensures in
    let least : c.min-released.result ≡ min c.release_speed-release.result c.permitted_for_either-either.result.1 = grind (arith, nat_tests) in
    let low : c.min-released.result ≤ c.permitted_for_either-either.result.0 = grind (arith, nat_tests) in
    let decides = of_equal train journey c.args.national (permitted_to train journey (Some c.end_of-to_end.result.target))
    (permitted_to train journey (Some (the_end end))) c.cause_to-then-le.result
    (ap (λ (a : TargetAhead). permitted_to train journey (Some a.target)) c.end_of-to_end.ensures) (c.cause_to-then-le.ensures c.args.national) in
    at_the_end train journey c.args.national end c.in-Some.is c.cause_to-then-le.result
    (omega (arith, low, least, reached, stopped, release)) decides

pub returns-then-lt : goal.returns-then-lt
returns-then-lt g c =
    let journey = journey_by g.S.Profile.value g.G.Profile.value c.args.ahead.now in
    let train = c.args.train.now in
    let end = c.in-Some.end in
    let to : ℕ → TargetAhead → ℕ = λ limit ahead.
    permitted_ahead journey.front limit (Some ahead.target) journey.bounds journey.track journey.gradient journey.brakes in
    let reached : c.permitted_for_either-either.result.0 ≡ permitted_to train journey (Some (the_end end)) =
    c.permitted_for_either-either.ensures.one ∙ (λ i. to (c.limit_on-limit.ensures i) (c.end_of-to_end.ensures i)) in
    let stopped : c.permitted_for_either-either.result.1 ≡ permitted_to train journey (Some (the_supervised_location end)) =
    c.permitted_for_either-either.ensures.other ∙ (λ i. to (c.limit_on-limit.ensures i) (c.location_of-to_location.ensures i)) in
    let release : c.release_speed-release.result ≡ release_speed end.release c.args.national = c.release_speed-release.ensures in
    let least : c.min-released.result ≡ min c.release_speed-release.result c.permitted_for_either-either.result.1 = grind (arith, nat_tests) in
    let above : c.permitted_for_either-either.result.0 < c.min-released.result = grind (arith, nat_tests) in
    let below : c.release_speed-release.result < c.permitted_for_either-either.result.1 = grind (arith, nat_tests) in
    by_release train journey c.args.national end c.in-Some.is (omega (arith, above, below, least, reached, stopped, release))
    (omega (arith, below, stopped, release))

pub cause_to-requires-2 : goal.cause_to-requires-2
cause_to-requires-2 g c =
    let journey = journey_by g.S.Profile.value g.G.Profile.value c.args.ahead.now in
    let train = c.args.train.now in
    let end = c.in-Some.end in
    let to : ℕ → TargetAhead → ℕ = λ limit ahead.
    permitted_ahead journey.front limit (Some ahead.target) journey.bounds journey.track journey.gradient journey.brakes in
    let reached : c.permitted_for_either-either.result.0 ≡ permitted_to train journey (Some (the_end end)) =
    c.permitted_for_either-either.ensures.one ∙ (λ i. to (c.limit_on-limit.ensures i) (c.end_of-to_end.ensures i)) in
    let stopped : c.permitted_for_either-either.result.1 ≡ permitted_to train journey (Some (the_supervised_location end)) =
    c.permitted_for_either-either.ensures.other ∙ (λ i. to (c.limit_on-limit.ensures i) (c.location_of-to_location.ensures i)) in
    let release : c.release_speed-release.result ≡ release_speed end.release c.args.national = c.release_speed-release.ensures in
    let least : c.min-released.result ≡ min c.release_speed-release.result c.permitted_for_either-either.result.1 = grind (arith, nat_tests) in
    let above : c.permitted_for_either-either.result.0 < c.min-released.result = grind (arith, nat_tests) in
    location_is_last journey end c.in-Some.is train c.location_of-to_location.result c.location_of-to_location.ensures
    (omega (arith, above, least, reached, stopped))

pub returns : goal.returns
returns g c =
    let journey = journey_by g.S.Profile.value g.G.Profile.value c.args.ahead.now in
    let train = c.args.train.now in
    let end = c.in-Some.end in
    let to : ℕ → TargetAhead → ℕ = λ limit ahead.
    permitted_ahead journey.front limit (Some ahead.target) journey.bounds journey.track journey.gradient journey.brakes in
    let reached : c.permitted_for_either-either.result.0 ≡ permitted_to train journey (Some (the_end end)) =
    c.permitted_for_either-either.ensures.one ∙ (λ i. to (c.limit_on-limit.ensures i) (c.end_of-to_end.ensures i)) in
    let stopped : c.permitted_for_either-either.result.1 ≡ permitted_to train journey (Some (the_supervised_location end)) =
    c.permitted_for_either-either.ensures.other ∙ (λ i. to (c.limit_on-limit.ensures i) (c.location_of-to_location.ensures i)) in
    let release : c.release_speed-release.result ≡ release_speed end.release c.args.national = c.release_speed-release.ensures in
    let least : c.min-released.result ≡ min c.release_speed-release.result c.permitted_for_either-either.result.1 = grind (arith, nat_tests) in
    let above : c.permitted_for_either-either.result.0 < c.min-released.result = grind (arith, nat_tests) in
    let below : c.permitted_for_either-either.result.1 ≤ c.release_speed-release.result = grind (arith, nat_tests) in
    let decides = of_equal train journey c.args.national (permitted_to train journey (Some c.location_of-to_location.result.target))
    (permitted_to train journey (Some (the_supervised_location end))) c.cause_to-2.result
    (ap (λ (a : TargetAhead). permitted_to train journey (Some a.target)) c.location_of-to_location.ensures) (c.cause_to-2.ensures c.args.national) in
    at_the_location train journey c.args.national end c.in-Some.is c.cause_to-2.result
    (omega (arith, above, least, reached, stopped)) (omega (arith, below, stopped, release)) decides
