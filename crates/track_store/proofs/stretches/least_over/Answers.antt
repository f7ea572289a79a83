use Rattle.std.proofs.Common.{◌≡◌, ℕ, ◌≤ℤ◌, ◌<ℤ◌, ap, sym, ◌∙◌, arith}
use Rattle.std.specs.Prelude.{Some, None}
use Rattle.std.proofs.lemmas.Int.{ints}
use Rattle.units.specs.Stretches.{over, least}
use Rattle.track_store.specs.Profiles.{Lasts, listed, lesser}
use Rattle.track_store.proofs.Jumps.{jump, last, none_over, fewer_left}
use Rattle.track_store.proofs.stretches.least_over.Goals as goal

pub loop-to-preserved : goal.loop-to-preserved
loop-to-preserved g c =
    let value = g.P.Profile.value c.args.profile.now in
    let here : c.loop-to.place ≤ℤ c.args.to = grind (arith, ints) in
    let now : c.lesser_of-limit.result ≡ lesser c.loop-to.limit (value c.loop-to.place) =
    c.lesser_of-limit.ensures ∙ ap (lesser c.loop-to.limit) c.piece-here.ensures.value in
    let lasts : Lasts value c.loop-to.place (Some c.in-Some.next) = rw c.in-Some.is at c.piece-here.ensures.next in
    ap (λ (n : ℕ). least n (over (λ x. listed (value x)) c.in-Some.next c.args.to)) now
    ∙ jump value c.loop-to.limit c.loop-to.place c.args.to here c.in-Some.next lasts.0 lasts.1
    ∙ c.loop-to.invariant

pub loop-to-smaller : goal.loop-to-smaller
loop-to-smaller g c =
    let value = g.P.Profile.value c.args.profile.now in
    let here : c.loop-to.place ≤ℤ c.args.to = grind (arith, ints) in
    let lasts : Lasts value c.loop-to.place (Some c.in-Some.next) = rw c.in-Some.is at c.piece-here.ensures.next in
    fewer_left c.loop-to.place c.in-Some.next c.args.to here lasts.0

pub returns-in-None : goal.returns-in-None
returns-in-None g c =
    let value = g.P.Profile.value c.args.profile.now in
    let here : c.loop-to.place ≤ℤ c.args.to = grind (arith, ints) in
    let now : c.lesser_of-limit.result ≡ lesser c.loop-to.limit (value c.loop-to.place) =
    c.lesser_of-limit.ensures ∙ ap (lesser c.loop-to.limit) c.piece-here.ensures.value in
    let lasts : Lasts value c.loop-to.place None = rw c.in-None.is at c.piece-here.ensures.next in
    now ∙ last value c.loop-to.limit c.loop-to.place c.args.to here lasts ∙ c.loop-to.invariant

pub returns : goal.returns
returns g c =
    let value = g.P.Profile.value c.args.profile.now in
    let beyond : c.args.to <ℤ c.loop-to.place = grind (arith, ints) in
    ap (least c.loop-to.limit) (sym (none_over (λ x. listed (value x)) c.loop-to.place c.args.to beyond)) ∙ c.loop-to.invariant
