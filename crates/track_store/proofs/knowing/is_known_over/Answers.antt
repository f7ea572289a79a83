use Rattle.std.proofs.Common.{◌≡◌, ◌≤ℤ◌, ◌<ℤ◌, true, false, ap, sym, ◌∙◌, arith}
use Rattle.std.specs.Prelude.{Some, None, is_some}
use Rattle.std.proofs.lemmas.Int.{ints}
use Rattle.track_store.specs.Profiles.{Lasts, listed, is_any}
use Rattle.track_store.proofs.Jumps.{found, skipped, nowhere, none_over, fewer_left}
use Rattle.track_store.proofs.knowing.is_known_over.Goals as goal

pub returns-then-is_some : goal.returns-then-is_some
returns-then-is_some g c =
    let value = g.P.Profile.value c.args.profile.now in
    let here : c.loop-to.place ≤ℤ c.args.to = grind (arith, ints) in
    let some : is_some (value c.loop-to.place) ≡ true = sym (ap is_some c.piece-here.ensures.value) ∙ sym c.is_some.ensures ∙ c.if-is_some.true in
    sym (found value c.loop-to.place c.args.to here some) ∙ c.loop-to.invariant

pub loop-to-preserved : goal.loop-to-preserved
loop-to-preserved g c =
    let value = g.P.Profile.value c.args.profile.now in
    let here : c.loop-to.place ≤ℤ c.args.to = grind (arith, ints) in
    let none : is_some (value c.loop-to.place) ≡ false = sym (ap is_some c.piece-here.ensures.value) ∙ sym c.is_some.ensures ∙ c.if-is_some.false in
    let lasts : Lasts value c.loop-to.place (Some c.in-Some.next) = rw c.in-Some.is at c.piece-here.ensures.next in
    skipped value c.loop-to.place c.args.to here c.in-Some.next lasts.0 lasts.1 none ∙ c.loop-to.invariant

pub loop-to-smaller : goal.loop-to-smaller
loop-to-smaller g c =
    let value = g.P.Profile.value c.args.profile.now in
    let here : c.loop-to.place ≤ℤ c.args.to = grind (arith, ints) in
    let lasts : Lasts value c.loop-to.place (Some c.in-Some.next) = rw c.in-Some.is at c.piece-here.ensures.next in
    fewer_left c.loop-to.place c.in-Some.next c.args.to here lasts.0

pub returns-in-None : goal.returns-in-None
returns-in-None g c =
    let value = g.P.Profile.value c.args.profile.now in
    let here : c.loop-to.place ≤ℤ c.args.to = grind (arith, ints) in
    let none : is_some (value c.loop-to.place) ≡ false = sym (ap is_some c.piece-here.ensures.value) ∙ sym c.is_some.ensures ∙ c.if-is_some.false in
    let lasts : Lasts value c.loop-to.place None = rw c.in-None.is at c.piece-here.ensures.next in
    sym (nowhere value c.loop-to.place c.args.to here lasts none) ∙ c.loop-to.invariant

pub returns : goal.returns
returns g c =
    let value = g.P.Profile.value c.args.profile.now in
    let beyond : c.args.to <ℤ c.loop-to.place = grind (arith, ints) in
    sym (ap is_any (none_over (λ x. listed (value x)) c.loop-to.place c.args.to beyond)) ∙ c.loop-to.invariant
