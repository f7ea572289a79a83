use Rattle.std.proofs.Common.{◌≡◌, refl, arith}
use Rattle.std.specs.Prelude.{Some}
use Rattle.std.proofs.lemmas.Int.{ints}
use Rattle.track_store.specs.Profiles.{Lasts}
use Rattle.braking.proofs.Naturals.{apart_at_most}
use Rattle.braking.proofs.speeds.stop_on.Goals as goal

pub returns-then-eq-clause-ahead : goal.returns-then-eq-clause-ahead
returns-then-eq-clause-ahead c = omega (arith, ints, c.in_ok-stop.ensures.value, c.get-3.ensures.value, c.get-3.ensures.limits)

pub returns-then-eq-clause-near : goal.returns-then-eq-clause-near
returns-then-eq-clause-near c =
    let within = c.in_ok-stop.ensures.found.0 refl in
    apart_at_most c.args.start c.in_ok-stop.stop (omega (arith, ints, c.get-3.ensures.value, c.get-3.ensures.limits))
    (omega (arith, ints, c.in_ok-stop.ensures.value, within))

pub returns-then-eq-clause-lasts : goal.returns-then-eq-clause-lasts
returns-then-eq-clause-lasts c = λ value here.
    let same : c.end_of_stretch.result ≡ c.in_ok-stop.stop = grind (arith, ints) in
    let lasts : Lasts value c.args.start (Some c.end_of_stretch.result) =
    c.end_of_stretch.ensures.lasts value c.args.start (returns-then-eq-clause-ahead c) here in
    rw (← same) lasts
