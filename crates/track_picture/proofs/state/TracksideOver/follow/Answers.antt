use Rattle.std.proofs.Common.{◌∷◌, sym, subst}
use Rattle.linking.specs.declared.judgement.Verdict.{Verdict}
use Rattle.track_picture.specs.Entry.{blank, added}
use Rattle.track_picture.specs.Sentences.{outcome_at_first, outcome}
use Rattle.track_picture.specs.StandsFor.{grown, grown_so_far}
use Rattle.track_picture.specs.Columns.{StandsForColumns}
use Rattle.track_picture.proofs.state.TracksideOver.follow.Goals as goal

pub returns-in-Accept-clause-stands : goal.returns-in-Accept-clause-stands
returns-in-Accept-clause-stands g c life initial used s =
    let m = c.args.message.now in
    subst (λ (v : Verdict). StandsForColumns g.T.ProfileStores.stores c.args.self.now (grown life (record blank { initial = initial; used = added (outcome_at_first m v) used }))
    → StandsForColumns g.T.ProfileStores.stores c.accept.new.self (grown_so_far life initial (added (outcome c.args.mode (record blank { initial = initial; used = added (outcome_at_first m v) used } ∷ life.entries) m v) used)))
    (sym c.in-Accept.is) (c.accept.ensures.stands life initial used) s
