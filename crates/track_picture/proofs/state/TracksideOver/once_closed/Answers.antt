use Rattle.std.proofs.Common.{[], sym, subst}
use Rattle.track_picture.specs.Columns.{StandsForColumns}
use Rattle.track_picture.specs.Entry.{Used}
use Rattle.track_picture.specs.StandsFor.{Knowledge}
use Rattle.track_picture.proofs.Beginning.{initial_only}
use Rattle.track_picture.proofs.Standing.{seen_columns as seen}
use Rattle.track_picture.proofs.state.TracksideOver.once_closed.Goals as goal

pub returns-clause-stands : goal.returns-clause-stands
returns-clause-stands g c life initial happened s is =
    let used : Used = record { groups = []; happened = happened } in
    let there = seen c.next.view_is (c.in_ok-make_space.ensures.stands life
    (subst (λ (k : Knowledge g.row.T-Gradients.Denot g.row.T-Speeds.Denot). StandsForColumns g.T.ProfileStores.stores k life) (sym c.in_ok-next.ensures.value) s)) in
    c.close.ensures.stands life initial used (initial_only life initial happened is there)
