use Rattle.std.proofs.Common.{◌≡◌, ◌≤◌, ◌<◌, ◌+◌, ◌++◌, ℕ, false, refl, ap, sym, ◌∙◌, arith}
use Rattle.std.specs.Prelude.{Option}
use Rattle.std.proofs.lemmas.Bool.Decides.{nat_tests}
use Rattle.braking.specs.declared.target.Target.{Target}
use Rattle.track_store.specs.Profiles.{listed}
use Rattle.braking.specs.Braking.{greatest}
use Rattle.braking.proofs.Greatest.{greatest_within}
use Rattle.speed_profile.proofs.Members.{in_left}
use Rattle.speed_supervision.specs.Targets.{journey_by, along_track, fits_on, fits_all_on, target_of}
use Rattle.speed_supervision.proofs.Finding.{in_from_contains}
use Rattle.speed_supervision.proofs.Deciding.{decides, lowers_unfit, last_decides}
use Rattle.speed_supervision.proofs.supervised.deciding.Goals as goal

pub returns-then-le : goal.returns-then-le
returns-then-le g c =
    let journey = journey_by g.S.Profile.value g.G.Profile.value c.args.ahead.now in
    let test = fits_all_on journey (along_track journey ++ listed (target_of c.args.last)) in
    let is : c.permitted-permitted.result ≡ greatest test c.args.limit =
    c.permitted-permitted.ensures ∙ ap (λ (last : Option Target). greatest (fits_all_on journey (along_track journey ++ listed last)) c.args.limit) c.target_of.ensures in
    let high : c.args.limit ≤ c.permitted-permitted.result = grind (arith, nat_tests) in
    let within : greatest test c.args.limit ≤ c.args.limit = greatest_within test c.args.limit in
    omega (arith, is, within, high)

pub returns-in-Some : goal.returns-in-Some
returns-in-Some g c =
    let journey = journey_by g.S.Profile.value g.G.Profile.value c.args.ahead.now in
    let targets = along_track journey ++ listed (target_of c.args.last) in
    let v : ℕ = greatest (fits_all_on journey targets) c.args.limit in
    let is : c.permitted-permitted.result ≡ v =
    c.permitted-permitted.ensures ∙ ap (λ (last : Option Target). greatest (fits_all_on journey (along_track journey ++ listed last)) c.args.limit) c.target_of.ensures in
    let low : c.permitted-permitted.result < c.args.limit = grind (arith, nat_tests) in
    let less : v < c.args.limit = omega (arith, is, low) in
    let next : c.one_faster-faster.result ≡ v + 1 = omega (arith, is) in
    let unfit = c.in-Some.ensures.found in
    let target = c.in-Some.found.target in
    let fail : fits_on journey target (v + 1) ≡ false = ap (fits_on journey target) (sym next) ∙ unfit.2 in (
      (
        unfit.0,
        less,
        decides journey c.args.limit targets target
            (in_left target (along_track journey) (listed (target_of c.args.last)) (in_from_contains (along_track journey) target unfit.1)) less fail,
      ),
      λ other lowers. c.in-Some.ensures.first other lowers.0 (lowers_unfit journey c.args.limit v c.one_faster-faster.result other next lowers),
    )

pub returns : goal.returns
returns g c =
    let journey = journey_by g.S.Profile.value g.G.Profile.value c.args.ahead.now in
    let v : ℕ = greatest (fits_all_on journey (along_track journey ++ listed (target_of c.args.last))) c.args.limit in
    let is : c.permitted-permitted.result ≡ v =
    c.permitted-permitted.ensures ∙ ap (λ (last : Option Target). greatest (fits_all_on journey (along_track journey ++ listed last)) c.args.limit) c.target_of.ensures in
    let low : c.permitted-permitted.result < c.args.limit = grind (arith, nat_tests) in
    let less : v < c.args.limit = omega (arith, is, low) in
    let next : c.one_faster-faster.result ≡ v + 1 = omega (arith, is) in
    last_decides journey c.args.limit c.args.last v refl c.requires less
    (ap (fits_all_on journey (along_track journey)) (sym next) ∙ c.in_default.ensures.found)
