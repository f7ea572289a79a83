use Rattle.std.proofs.Common.{◌≡◌, ◌++◌, ℤ, pos, ◌+ℤ◌, ℕ, ap, sym, ◌∙◌, arith}
use Rattle.std.specs.Prelude.{Option}
use Rattle.std.proofs.lemmas.Bool.{not-false, eqb-true}
use Rattle.std.proofs.lemmas.Int.{ints}
use Rattle.track_store.specs.Profiles.{listed, IsKnownThroughout}
use Rattle.braking.specs.declared.target.Target.{Target}
use Rattle.braking.specs.Braking.{greatest}
use Rattle.speed_supervision.specs.Targets.{journey_by, along_track, fits_all_on}
use Rattle.speed_supervision.proofs.Remaining.{holds}
use Rattle.speed_supervision.proofs.holding.limit_between.Goals as goal

pub returns : goal.returns
returns g c =
    let journey = journey_by g.S.Profile.value g.G.Profile.value c.args.ahead.now in
    let wide = c.args.widest.now in
    let narrow = c.args.narrowest.now in
    let limit = c.limit_on-limit.result in
    let to : Option Target → ℕ = λ last. greatest (fits_all_on journey (along_track journey ++ listed last)) limit in
    let kept : c.permitted.result ≡ limit = eqb-true c.permitted.result limit (not-false _ (sym c.ne.ensures ∙ c.if-ne.false)) in
    let least_of : c.limit_on.result ≡ limit = eqb-true c.limit_on.result limit (not-false _ (sym c.ne-2.ensures ∙ c.if-ne-2.false)) in
    let next : c.in_ok-beyond.beyond ≡ wide.max_front +ℤ pos 1 = c.in_ok-beyond.ensures ∙ ap (λ (z : ℤ). z +ℤ pos 1) c.max_front.ensures.value in
    let all = c.is_known_throughout.ensures.0 c.if-not-is_known_throughout.false in
    let known : IsKnownThroughout journey.track.static narrow.max_front (wide.max_front +ℤ pos 1) =
    λ place low before. all place (omega (arith, ints, low, c.max_front-2.ensures.value)) (omega (arith, ints, before, next)) in
    holds wide narrow journey limit c.requires (sym c.limit_on-limit.ensures) (sym c.limit_on.ensures ∙ least_of) known c.max_front-2.ensures.ordered
    (sym (c.permitted.ensures ∙ ap to c.last_target.ensures) ∙ kept)
