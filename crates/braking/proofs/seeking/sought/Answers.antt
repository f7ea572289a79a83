use Rattle.std.proofs.Common.{◌≡◌, ◌≤◌, ◌^◌, ℤ, pos, ◌+ℤ◌, ◌-ℤ◌, ◌≤ℤ◌, ◌<ℤ◌, inl, inr, true, false, refl, ap, ◌∙◌, arith}
use Rattle.std.proofs.lemmas.Int.{ints, by_lt_z}
use Rattle.units.specs.Stretches.{natural}
use Rattle.track_store.proofs.Jumps.{natural_is}
use Rattle.brakes.specs.Brakes.{reaction_way}
use Rattle.braking.specs.declared.summed.Summed.{Summed}
use Rattle.braking.proofs.Naturals.{parts}
use Rattle.braking.proofs.Braked.{initial_summed}
use Rattle.braking.proofs.Slower.{way_less}
use Rattle.braking.proofs.Bounding.{order, root_most, IsKnownBefore, acts_first, known_greatest, found_greatest}
use Rattle.braking.proofs.seeking.sought.Goals as goal

pub returns-in_default-clause-speed : goal.returns-in_default-clause-speed
returns-in_default-clause-speed g c =
    let gradient = g.P.Profile.value c.args.gradient.now in
    let whole = c.requires.whole in
    let known : IsKnownBefore gradient c.args.brakes.now.deceleration c.args.target.now c.args.limit c.args.sum.now c.root-least.result =
    record { summed = whole.summed; to = whole.to; root = c.root-least.ensures } in
    let acts = acts_first c.args.front gradient c.args.brakes.now c.args.target.now c.args.limit c.args.sum.now c.root-least.result whole c.root-least.ensures in
    let start : ℤ = c.args.front +ℤ pos (reaction_way c.args.brakes.now.reaction c.root-least.result) in
    let from : ℤ = c.args.sum.now.from in
    let late : from ≤ℤ start = by_lt_z start from
    (λ (early : start <ℤ from).
    let some = c.brakes_act.ensures.found.1 (omega (arith, ints, early, c.reaction_way.ensures.value)) in
    absurd (let never : false ≡ true = rw c.in_default.is at some in cc))
    (λ (late : from ≤ℤ start). late) in
    known_greatest c.args.front gradient c.args.brakes.now c.args.target.now c.args.limit c.args.sum.now c.root-least.result known acts late

pub loop-start-init : goal.loop-start-init
loop-start-init g c =
    let earlier = c.before-last.ensures.earlier in
    let off : c.before-last.result.sum.taken_off ≡ c.args.sum.now.taken_off = ap (λ (s : Summed). s.taken_off) earlier in
    let from : c.before-last.result.sum.from ≡ c.args.sum.now.from = ap (λ (s : Summed). s.from) earlier in
    let early = c.in-Some.ensures.found.0 refl in
    record {
      to = ap (λ (s : Summed). s.to) earlier ∙ c.requires.whole.to;
      stretch = c.before-last.ensures.stretch;
      within = c.before-last.ensures.within;
      more = omega (arith, off);
      acts = λ v within enough.
          let less : v ≤ c.root-least.result = root_most c.args.target.now.speed c.args.sum.now.taken_off c.args.limit c.root-least.result v
          c.root-least.ensures within (omega (arith, enough, off)) in
          inr (omega (arith, ints, from, early, c.reaction_way.ensures.value, way_less c.args.brakes.now.reaction c.root-least.result v less));
    }

pub before-last-requires-in-loop-start-clause-near : goal.before-last-requires-in-loop-start-clause-near
before-last-requires-in-loop-start-clause-near g c =
    let last = c.loop-start.last in
    let kept = c.loop-start.invariant in
    let to : last.initial.to ≡ c.args.target.now.place = kept.stretch.initial.to ∙ kept.to in
    let ahead : c.args.front ≤ℤ c.in-Some.start = omega (arith, ints, c.in-Some.ensures.value) in
    let before : c.in-Some.start ≤ℤ last.initial.to = omega (arith, ints, kept.within, kept.stretch.summed.0) in
    let near : natural (last.initial.to -ℤ c.args.front) ≤ 2 ^ 43 = rw to c.requires.near in
    omega (arith, parts c.args.front c.in-Some.start last.initial.to ahead before, near)

pub loop-start-smaller : goal.loop-start-smaller
loop-start-smaller g c =
    let later = c.before-last-in-loop-start in
    let from : ℤ = later.result.initial.from in
    let ahead : c.args.front ≤ℤ from = omega (arith, ints, c.in-Some.ensures.value, later.ensures.within) in
    let less : from <ℤ c.loop-start.last.initial.from = omega (arith, ints, later.ensures.stretch.before, ap (λ (s : Summed). s.from) later.ensures.earlier) in
    omega (
      arith,
      ints,
      natural_is (from -ℤ c.args.front) (omega (arith, ints, ahead)),
      natural_is (c.loop-start.last.initial.from -ℤ c.args.front) (omega (arith, ints, ahead, less)),
      less,
    )

pub loop-start-preserved : goal.loop-start-preserved
loop-start-preserved g c =
    let later = c.before-last-in-loop-start in
    let kept = c.loop-start.invariant in
    let earlier = later.ensures.earlier in
    let off : later.result.sum.taken_off ≡ c.loop-start.last.initial.taken_off = ap (λ (s : Summed). s.taken_off) earlier in
    let from : later.result.sum.from ≡ c.loop-start.last.initial.from = ap (λ (s : Summed). s.from) earlier in
    record {
      to = ap (λ (s : Summed). s.to) earlier ∙ kept.stretch.initial.to ∙ kept.to;
      stretch = later.ensures.stretch;
      within = later.ensures.within;
      more = omega (arith, off, kept.stretch.initial.taken_off, kept.more);
      acts = λ v within enough. inr (omega (arith, ints, from, c.is_too_fast.ensures.sooner c.loop-start-test.true v within (omega (arith, enough, off))));
    }

pub halved-requires-clause-faster : goal.halved-requires-clause-faster
halved-requires-clause-faster g c =
    root_most c.args.target.now.speed c.loop-start.last.sum.taken_off c.args.limit c.root-low.result c.args.target.now.speed c.root-low.ensures
    (omega (arith, c.requires.faster)) (omega arith)

pub halved-requires-clause-ordered : goal.halved-requires-clause-ordered
halved-requires-clause-ordered g c =
    let low = c.root-low.ensures in
    let more : c.root-low.result ≤ c.root-high.result =
    root_most c.args.target.now.speed c.loop-start.last.initial.taken_off c.args.limit c.root-high.result c.root-low.result c.root-high.ensures
    low.within (omega (arith, low.below, c.loop-start.invariant.stretch.initial.taken_off)) in
    elim (order c.args.limit c.root-high.result) [
      | inl most ↦ omega (arith, c.above.ensures.last most, low.within)
      | inr less ↦ omega (arith, c.above.ensures.next less, more)
    ]

pub returns-clause-speed : goal.returns-clause-speed
returns-clause-speed g c =
    let gradient = g.P.Profile.value c.args.gradient.now in
    let kept = c.loop-start.invariant in
    let last = c.loop-start.last in
    let known : IsKnownBefore gradient c.args.brakes.now.deceleration c.args.target.now c.args.limit last.sum c.root-low.result =
    record { summed = kept.stretch.earlier; to = kept.to; root = c.root-low.ensures } in
    let more : IsKnownBefore gradient c.args.brakes.now.deceleration c.args.target.now c.args.limit last.initial c.root-high.result =
    record { summed = kept.stretch.summed; to = kept.stretch.initial.to ∙ kept.to; root = c.root-high.ensures } in
    found_greatest c.args.front gradient c.args.brakes.now c.args.target.now c.args.limit last c.root-low.result c.root-high.result
    kept.stretch known more (c.is_too_fast.ensures.enough c.loop-start-test.false)
    c.above.result c.above.ensures.next c.above.ensures.last c.requires.fails
    (kept.acts c.root-low.result c.root-low.ensures.within c.root-low.ensures.below)
    c.halved.result.0 c.halved.ensures.least c.halved.ensures.most c.halved.ensures.enough c.halved.ensures.next

pub returns-clause-summed : goal.returns-clause-summed
returns-clause-summed g c =
    let stretch = c.loop-start.invariant.stretch in
    let last = c.loop-start.last in
    initial_summed (g.P.Profile.value c.args.gradient.now) c.args.brakes.now.deceleration last.initial.from last.slowing last.sum c.halved.result.1
    stretch.earlier stretch.even stretch.may_begin.small c.halved.ensures.from c.halved.ensures.initial
