use Rattle.std.proofs.Common.{◌≡◌, ◌≤ℤ◌, ◌<ℤ◌, ℤ, sym, subst, ◌∙◌, arith}
use Rattle.std.specs.Prelude.{Option, Some, None}
use Rattle.std.proofs.lemmas.Int.{ints}
use Rattle.track_store.specs.Profiles.{Lasts}
use Rattle.track_store.proofs.Jumps.{fewer_left}
use Rattle.speed_supervision.specs.Over.{IsStaticSpeedOver}
use Rattle.speed_supervision.proofs.Finding.{some_reported, none_reported}
use Rattle.speed_supervision.proofs.Naming.{NoneOn, IsOn, farther, to_the_end, none_under, found_on}
use Rattle.speed_supervision.proofs.over.static_speed_over.Goals as goal

pub loop-category-init : goal.loop-category-init
loop-category-init g c =
    let rear : c.rear-place.result ≡ c.args.train.now.rear = c.rear-place.ensures.value in
    (omega (arith, ints, rear), λ place low less high h. absurd (omega (arith, ints, rear, low, less)))

pub loop-category-smaller : goal.loop-category-smaller
loop-category-smaller g c =
    let value = g.S.Profile.value c.args.speeds.now in
    let here : c.loop-category.place ≤ℤ c.max_front-last.result = grind (arith, ints) in
    let lasts : Lasts value c.loop-category.place (Some c.in-Some.next) = rw c.in-Some.is at c.piece-here.ensures.next in
    fewer_left c.loop-category.place c.in-Some.next c.max_front-last.result here lasts.0

pub loop-category-preserved : goal.loop-category-preserved
loop-category-preserved g c =
    let value = g.S.Profile.value c.args.speeds.now in
    let train = c.args.train.now in
    let place : ℤ = c.loop-category.place in
    let lasts : Lasts value place (Some c.in-Some.next) = rw c.in-Some.is at c.piece-here.ensures.next in
    let unreported : NoneOn value c.args.category train c.args.limit place c.piece-here.result.next c.piece-here.result.value =
    none_reported c.limited_on-found.result (NoneOn value c.args.category train c.args.limit place c.piece-here.result.next c.piece-here.result.value)
    (IsOn value c.args.category train c.args.limit place c.piece-here.result.next c.piece-here.result.value)
    (sym c.is_some.ensures ∙ c.if-is_some.false) c.limited_on-found.ensures in
    let none : NoneOn value c.args.category train c.args.limit place (Some c.in-Some.next) c.piece-here.result.value =
    subst (λ (next : Option ℤ). NoneOn value c.args.category train c.args.limit place next c.piece-here.result.value) c.in-Some.is unreported in (
      omega (arith, ints, lasts.0, c.loop-category.invariant.0),
      farther value c.args.category train c.args.limit place c.in-Some.next c.piece-here.result.value c.piece-here.ensures.value lasts none
          c.loop-category.invariant.1,
    )

pub returns-in-None : goal.returns-in-None
returns-in-None g c =
    let value = g.S.Profile.value c.args.speeds.now in
    let train = c.args.train.now in
    let place : ℤ = c.loop-category.place in
    let lasts : Lasts value place None = rw c.in-None.is at c.piece-here.ensures.next in
    let unreported : NoneOn value c.args.category train c.args.limit place c.piece-here.result.next c.piece-here.result.value =
    none_reported c.limited_on-found.result (NoneOn value c.args.category train c.args.limit place c.piece-here.result.next c.piece-here.result.value)
    (IsOn value c.args.category train c.args.limit place c.piece-here.result.next c.piece-here.result.value)
    (sym c.is_some.ensures ∙ c.if-is_some.false) c.limited_on-found.ensures in
    let none : NoneOn value c.args.category train c.args.limit place None c.piece-here.result.value =
    subst (λ (next : Option ℤ). NoneOn value c.args.category train c.args.limit place next c.piece-here.result.value) c.in-None.is unreported in
    to_the_end value c.args.category train c.args.limit place c.piece-here.result.value c.piece-here.ensures.value lasts none c.loop-category.invariant.1

pub returns-then-is_some : goal.returns-then-is_some
returns-then-is_some g c =
    let value = g.S.Profile.value c.args.speeds.now in
    let train = c.args.train.now in
    let place : ℤ = c.loop-category.place in
    let next = c.piece-here.result.next in
    let here = c.piece-here.result.value in
    some_reported c.limited_on-found.result (NoneOn value c.args.category train c.args.limit place next here)
    ((there : ℤ) → IsStaticSpeedOver value c.args.category train c.args.limit there → ⊥)
    (IsOn value c.args.category train c.args.limit place next here) (IsStaticSpeedOver value c.args.category train c.args.limit)
    (sym c.is_some.ensures ∙ c.if-is_some.true) c.limited_on-found.ensures
    (λ first on. found_on value c.args.category train c.args.limit place first next here c.piece-here.ensures.value c.piece-here.ensures.next
    c.loop-category.invariant.0 on.0 on.1 on.2 on.3)

pub returns : goal.returns
returns g c =
    let max : c.max_front-last.result ≡ c.args.train.now.max_front = c.max_front-last.ensures.value in
    let beyond : c.max_front-last.result <ℤ c.loop-category.place = grind (arith, ints) in
    none_under (g.S.Profile.value c.args.speeds.now) c.args.category c.args.train.now c.args.limit c.loop-category.place
    (omega (arith, ints, max, beyond)) c.loop-category.invariant.1
