use Rattle.std.proofs.Common.{◌≡◌, ◌≤ℤ◌, ◌<ℤ◌, true, false, ap, sym, ◌∙◌, rules, arith}
use Rattle.std.specs.Prelude.{Some, None, is_none}
use Rattle.std.proofs.lemmas.Int.{ints}
use Rattle.track_store.specs.Profiles.{Lasts}
use Rattle.track_store.proofs.Jumps.{fewer_left}
use Rattle.track_store.proofs.Throughout.{not_none, none_known, known_further, known_for_ever, known_before}
use Rattle.track_store.proofs.knowing.is_known_by_pieces.Goals as goal

pub loop-end-init : goal.loop-end-init
loop-end-init g c = (omega (arith, ints), λ there a b. absurd (omega (arith, ints, a, b)))

pub returns-then-is_none : goal.returns-then-is_none
returns-then-is_none g c =
    let value = g.P.Profile.value c.args.profile.now in
    let here : c.loop-end.place <ℤ c.args.end = grind (arith, ints) in
    let none_here : is_none c.piece-here.result.value ≡ true = grind arith in
    let gap : is_none (value c.loop-end.place) ≡ true = sym (ap is_none c.piece-here.ensures.value) ∙ none_here in
    (λ h. absurd (search rules), λ all. absurd (none_known (value c.loop-end.place) gap (all c.loop-end.place c.loop-end.invariant.0 here)))

pub loop-end-preserved : goal.loop-end-preserved
loop-end-preserved g c =
    let value = g.P.Profile.value c.args.profile.now in
    let some_here : is_none c.piece-here.result.value ≡ false = grind arith in
    let some : is_none (value c.loop-end.place) ≡ false = sym (ap is_none c.piece-here.ensures.value) ∙ some_here in
    let lasts : Lasts value c.loop-end.place (Some c.in-Some.next) = rw c.in-Some.is at c.piece-here.ensures.next in (
      omega (arith, ints, lasts.0, c.loop-end.invariant.0),
      known_further value c.args.from c.loop-end.place c.loop-end.invariant.1 c.in-Some.next lasts.1 (not_none (value c.loop-end.place) some),
    )

pub loop-end-smaller : goal.loop-end-smaller
loop-end-smaller g c =
    let value = g.P.Profile.value c.args.profile.now in
    let here : c.loop-end.place <ℤ c.args.end = grind (arith, ints) in
    let lasts : Lasts value c.loop-end.place (Some c.in-Some.next) = rw c.in-Some.is at c.piece-here.ensures.next in
    fewer_left c.loop-end.place c.in-Some.next c.args.end (omega (arith, ints, here)) lasts.0

pub returns-in-None : goal.returns-in-None
returns-in-None g c =
    let value = g.P.Profile.value c.args.profile.now in
    let some_here : is_none c.piece-here.result.value ≡ false = grind arith in
    let some : is_none (value c.loop-end.place) ≡ false = sym (ap is_none c.piece-here.ensures.value) ∙ some_here in
    let lasts : Lasts value c.loop-end.place None = rw c.in-None.is at c.piece-here.ensures.next in
    (λ h. known_for_ever value c.args.from c.loop-end.place c.loop-end.invariant.1 c.args.end lasts (not_none (value c.loop-end.place) some), λ h. search rules)

pub returns : goal.returns
returns g c =
    let value = g.P.Profile.value c.args.profile.now in
    let beyond : c.args.end ≤ℤ c.loop-end.place = grind (arith, ints) in
    (λ h. known_before value c.args.from c.loop-end.place c.loop-end.invariant.1 c.args.end beyond, λ h. search rules)
