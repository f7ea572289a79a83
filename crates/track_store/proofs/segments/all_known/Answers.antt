use Rattle.std.proofs.Common.{◌≡◌, ◌+◌, ◌-◌, ◌<◌, ◌≤◌, ◌<ℤ◌, subst, rules, arith}
use Rattle.std.proofs.lemmas.Int.{ints}
use Rattle.track_store.specs.Segments.{IsStarted}
use Rattle.track_store.proofs.Known.{first_below, known_all, known_each, unknown_before}
use Rattle.track_store.proofs.segments.all_known.Goals as goal

pub all_have_values-requires : goal.all_have_values-requires
all_have_values-requires g c =
    let some : (1 ≤ c.started.result) × (c.in-Some.first ≡ c.started.result - 1) = c.in-Some.ensures in
    let ordered : c.args.from <ℤ c.args.end = grind (arith, ints) in
    let started : IsStarted c.args.from c.args.segments.now (c.in-Some.first + 1) =
    subst (IsStarted c.args.from c.args.segments.now) (omega (arith, some.0, some.1)) c.started.ensures in
    let below : c.in-Some.first < c.started_below.result =
    first_below c.args.from c.args.end c.args.segments.now c.in-Some.first c.started_below.result c.requires ordered started
    c.started_below.ensures.started in
    (omega (arith, below), c.started_below.ensures.started.0)

pub returns-in-Some : goal.returns-in-Some
returns-in-Some g c =
    let segments = c.args.segments.now in
    let some : (1 ≤ c.started.result) × (c.in-Some.first ≡ c.started.result - 1) = c.in-Some.ensures in
    let ordered : c.args.from <ℤ c.args.end = grind (arith, ints) in
    let started : IsStarted c.args.from segments (c.in-Some.first + 1) =
    subst (IsStarted c.args.from segments) (omega (arith, some.0, some.1)) c.started.ensures in
    let below = c.started_below.ensures.started in (
      λ h. known_all c.args.from c.args.end segments c.in-Some.first c.started_below.result c.requires ordered started below (c.all_have_values.ensures.0 h),
      λ known. c.all_have_values.ensures.1 (known_each c.args.from c.args.end segments c.in-Some.first c.started_below.result c.requires ordered started below known),
    )

pub returns-in-None : goal.returns-in-None
returns-in-None g c =
    let segments = c.args.segments.now in
    let none : 1 ≤ c.started.result → ⊥ = c.in-None.ensures in
    let ordered : c.args.from <ℤ c.args.end = grind (arith, ints) in
    let started : IsStarted c.args.from segments 0 = subst (IsStarted c.args.from segments) (omega (arith, none)) c.started.ensures in
    (λ h. absurd (search rules), λ known. absurd (unknown_before c.args.from c.args.end segments started ordered known))
