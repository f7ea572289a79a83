use Rattle.std.proofs.Common.{◌≡◌, List, ap, ◌∙◌, arith}
use Rattle.std.specs.Prelude.{find}
use Rattle.std.specs.Int.{int_max}
use Rattle.std.proofs.lemmas.Int.{ints}
use Rattle.track_store.specs.declared.restriction.Restriction.{Restriction}
use Rattle.speed_supervision.proofs.Naming.{limits_so, restriction_reported, none_restricts}
use Rattle.speed_supervision.proofs.over.restriction_over.Goals as goal

pub returns-clause-over : goal.returns-clause-over
returns-clause-over c =
    let track = c.args.restrictions.now.track in
    let train = c.args.train.now in
    let limit = c.args.limit in
    let first : c.max-first.result ≡ int_max track.mark train.rear = grind (arith, ints) in
    let is = c.first_met.ensures ∙ ap (λ (rs : List Restriction). find (limits_so track train limit c.max-first.result) rs) c.as_slice.ensures in
    restriction_reported track train limit c.max-first.result c.first_met.result first is

pub returns-clause-none : goal.returns-clause-none
returns-clause-none c =
    let track = c.args.restrictions.now.track in
    let train = c.args.train.now in
    let limit = c.args.limit in
    let first : c.max-first.result ≡ int_max track.mark train.rear = grind (arith, ints) in
    let is = c.first_met.ensures ∙ ap (λ (rs : List Restriction). find (limits_so track train limit c.max-first.result) rs) c.as_slice.ensures in
    none_restricts track train limit c.max-first.result c.first_met.result first is
