use Rattle.std.proofs.Common.{◌≡◌, false, not, List, [], ◌∷◌, ◌++◌, Option, None, Some, refl, ap, sym, ◌∙◌}
use Rattle.std.specs.Prelude.{is_some}
use Rattle.balise_groups.specs.declared.message.Closed.{Closed}
use Rattle.track_picture.specs.declared.closings.Closing.{Closing}
use Rattle.track_picture.specs.Closings.{closings_in, closing_as, listed}
use Rattle.track_picture.specs.Entry.{Used}
use Rattle.track_picture.specs.Sentences.{with_closed}
use Rattle.track_picture.proofs.OneGroup.{entry_with, one_if, one_more}
use Rattle.track_picture.proofs.Standing.{seen_columns as seen}
use Rattle.track_picture.proofs.state.TracksideOver.closings_of.Goals as goal

none_of : {A : Type 0} (o : Option A) → ((a : A) → o ≡ Some a → ⊥) → o ≡ None
none_of None isnt = refl
none_of (Some a) isnt = absurd (isnt a refl)

none_if : {A : Type 0} (o : Option A) → is_some o ≡ false → o ≡ None
none_if None is = refl
none_if (Some a) is = cc

pub returns-in_default-clause-closings : goal.returns-in_default-clause-closings
returns-in_default-clause-closings g c life initial happened s is =
    let mode = c.args.mode in
    let first : Used = record { groups = []; happened = happened } in
    entry_with c.closing_if.result
    ∙ ap listed c.closing_if.ensures
    ∙ one_if mode life initial happened c.args.parts c.args.ended is
    ∙ ap (λ (group : Option Closed). closings_in life.entries initial (with_closed mode life.entries initial group (with_closed mode life.entries initial c.args.ended first)).groups)
    (sym (none_of c.args.whole c.in_default.not-Some))

pub returns-then-is_none-clause-closings : goal.returns-then-is_none-clause-closings
returns-then-is_none-clause-closings g c life initial happened s is =
    let mode = c.args.mode in
    let first : Used = record { groups = []; happened = happened } in
    let none = none_if c.args.ended (c.is_none.ensures ∙ ap not c.if-is_none.true) in
    ap (λ (one : Closing). one ∷ []) c.closing.ensures
    ∙ one_if mode life initial happened c.args.parts (Some c.in-Some.second) is
    ∙ (λ i. closings_in life.entries initial (with_closed mode life.entries initial (sym c.in-Some.is i) (with_closed mode life.entries initial (sym none i) first)).groups)

-- the second group is judged by what the first has left
pub returns-clause-closings : goal.returns-clause-closings
returns-clause-closings g c life initial happened s is =
    let mode = c.args.mode in
    let first : Used = record { groups = []; happened = happened } in
    let used = with_closed mode life.entries initial c.args.ended first in
    let following = seen c.next.view_is (c.in_ok-next.ensures.stands life initial happened s (c.copy.ensures ∙ is)) in
    let parts = c.next.inside.parts in
    let second = c.in-Some.second in
    (λ i. listed (c.closing_if-2.ensures i) ++ c.closing-2.ensures i ∷ [])
    ∙ ap (λ (closings : List Closing). closings ++ closing_as parts.links parts.place second ∷ []) (one_if mode life initial happened c.args.parts c.args.ended is)
    ∙ one_more mode life initial used parts second following.parts_are
    ∙ ap (λ (group : Option Closed). closings_in life.entries initial (with_closed mode life.entries initial group used).groups) (sym c.in-Some.is)
