use Rattle.std.proofs.Common.{◌≡◌, ◌≤ℤ◌, ◌<ℤ◌, ℤ, ◌^◌, neg_ℤ, pos, to_z, of_z, w64, cond, ap, ◌∙◌, arith}
use Rattle.std.specs.Prelude.{◌↔◌, ◌&&◌, not, int_lt, IsSome, Some, None}
use Rattle.std.proofs.lemmas.Int.{ints, clamps}
use Rattle.units.specs.Limits.{IsCm}
use Rattle.track_store.specs.Covering.{end_of}
use Rattle.speed_profile.specs.Ahead.{greatest_place}
use Rattle.speed_profile.proofs.There.{at_place, target_there, no_target_passed, no_target_beyond}
use Rattle.speed_profile.proofs.starts.first_target.Goals as goal
use Rattle.speed_profile.proofs.starts.first_target.Goals.{in_default-via-in-Some+else-first-get, in_default-via-in_default}

pub returns-in-Some : goal.returns-in-Some
returns-in-Some c =
    let first : ℤ = c.first_covered-first.result in
    let end : ℤ = end_of c.args.restriction.now in
    let speed = c.args.restriction.now.speed in
    let place : c.in-Some.place ≡ first = omega (arith, ints, c.in-Some.ensures.value) in
    let before : first <ℤ end = omega (arith, ints) in
    let within : first ≤ℤ greatest_place = omega (arith, ints, place) in
    target_there first end c.in-Some.place speed place before within
    ∙ ap (λ (x : ℤ). cond (int_lt x end && not (int_lt greatest_place x)) (Some (at_place x speed)) None) c.first_covered-first.ensures

pub returns-in_default : goal.returns-in_default
returns-in_default c =
    let first : ℤ = c.first_covered-first.result in
    let end : ℤ = end_of c.args.restriction.now in
    let speed = c.args.restriction.now.speed in
    let cast : to_z w64 (of_z w64 first) ≡ first = omega (arith, ints) in
    let found : IsSome c.new.result ↔ IsCm first = rw cast at c.new.ensures.found in
    let low : neg_ℤ (pos (2 ^ 42)) ≤ℤ first = omega (arith, ints, clamps, c.first_covered-first.ensures) in
    let none : None ≡ cond (int_lt first end && not (int_lt greatest_place first)) (Some (at_place first speed)) None =
    elim c.in_default.branch [
      | in_default-via-in-Some+else-first-get w ↦ no_target_passed first end speed (omega (arith, ints))
      | in_default-via-in_default w ↦ no_target_beyond first end speed c.new.result w.in_default.is found low
    ] in
    none ∙ ap (λ (x : ℤ). cond (int_lt x end && not (int_lt greatest_place x)) (Some (at_place x speed)) None) c.first_covered-first.ensures
