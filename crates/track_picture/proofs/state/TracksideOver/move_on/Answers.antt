use Rattle.std.proofs.Common.{Option, subst}
use Rattle.balise_groups.specs.declared.message.Closed.{Closed}
use Rattle.track_picture.specs.Columns.{StandsForColumns, moved, after_moving}
use Rattle.track_picture.specs.Sentences.{with_closed}
use Rattle.track_picture.specs.StandsFor.{grown_so_far}
use Rattle.track_picture.proofs.Moving.{moved_only, none_left, only_moved}
use Rattle.track_picture.proofs.Standing.{seen_columns as seen}
use Rattle.track_picture.proofs.state.TracksideOver.move_on.Goals as goal

pub returns-then-go-clause-stands : goal.returns-then-go-clause-stands
returns-then-go-clause-stands g c life s =
    let inside = seen c.self.view_is s in
    let reading = c.args.reading.now in
    let went = moved life.entries reading in
    let there = c.go.ensures.moved life inside.parts_are in
    subst (λ (ended : Option Closed). StandsForColumns g.T.ProfileStores.stores c.close.new.self (grown_so_far life went (with_closed c.args.mode life.entries went ended (after_moving life.entries reading))))
    (c.leave-ended.ensures.answer life reading there)
    (c.close.ensures.stands life went (after_moving life.entries reading) (moved_only life reading (c.leave-ended.ensures.stands life reading there) inside))

-- the group being read isn't left
pub returns-else-go-clause-stands : goal.returns-else-go-clause-stands
returns-else-go-clause-stands g c life s =
    let before = (seen c.self.view_is s).parts_are in
    only_moved c.args.mode life c.args.reading.now (c.go.ensures.stands life before c.if-go.false) (c.go.ensures.none life before c.if-go.false)
    (seen c.self.view_is s)

pub returns-else-go-clause-none : goal.returns-else-go-clause-none
returns-else-go-clause-none g c life s _ =
    none_left c.args.mode life c.args.reading.now (c.go.ensures.none life (seen c.self.view_is s).parts_are c.if-go.false)
