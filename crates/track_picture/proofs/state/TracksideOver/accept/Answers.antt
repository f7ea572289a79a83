use Rattle.std.proofs.Common.{List, [], ◌∷◌, Option, None, sym, subst, ap, ◌∙◌}
use Rattle.odometry.specs.declared.fix.Fix.{Fix}
use Rattle.track_picture.specs.Entry.{TrackEntry, Fact, blank, added}
use Rattle.track_picture.specs.Entry.Outcome.{Accepted}
use Rattle.track_picture.specs.History.{place_of}
use Rattle.track_picture.specs.Sentences.{own_place, fix_of, place_by}
use Rattle.track_picture.specs.Steps.{facts}
use Rattle.track_picture.specs.StandsFor.{KnownTrack, grown, grown_so_far}
use Rattle.track_picture.specs.Columns.{StandsForColumns, description_of}
use Rattle.track_picture.proofs.Idling.{same_seen}
use Rattle.track_picture.proofs.SameParts.{by_facts}
use Rattle.track_picture.proofs.Standing.{seen_columns as seen, reported_as}
use Rattle.track_picture.proofs.Description.{up_to_groups, reported_judged}
use Rattle.track_picture.proofs.state.TracksideOver.accept.Goals as goal

pub returns-clause-idle : goal.returns-clause-idle
returns-clause-idle g c none =
    let same = c.take_packets.ensures.idle none in
    same_seen _ _ _ c.self.view_is same.restrictions_same same.gradients_same same.speeds_same

pub returns-clause-stands : goal.returns-clause-stands
returns-clause-stands g c life initial used s =
    let m = c.args.message.now in
    let a = c.args.announced.now in
    let entry : TrackEntry = record blank { initial = initial; used = added (Accepted m a None []) used } in
    let before = up_to_groups (record blank { initial = initial; used = used }) life.entries in
    let here = place_of (entry ∷ life.entries) in
    let inside = seen c.self.view_is s in
    let free = c.is_free-free.ensures (grown life entry) (by_facts (grown life entry) s) in
    let fix = ap (λ b. fix_of here b m a) free in
    let place = c.fix-place.ensures.answer life initial used (description_of (entry ∷ life.entries)) inside.parts_are ∙ ap (λ b. place_by (own_place here m) (fix_of here b m a)) free in
    let fixed = c.fix-place.ensures.stands life initial used (description_of (entry ∷ life.entries)) inside.parts_are in
    let moment = ap (λ (k : KnownTrack). k.moment) (ap (λ w. w.parts) c.self-inside.view_is ∙ fixed) in
    let direction = c.direction_by.ensures in
    subst (λ (o : Option Fix × List Fact). StandsForColumns g.T.ProfileStores.stores c.take_packets.new.self (grown_so_far life initial (added (Accepted m a o.0 o.1) used)))
    (λ i. (fix i, facts (record { mode = c.args.mode; group = m.group; place = place i; moment = moment i; direction = direction i }) m.packets))
    (c.take_packets.ensures.stands life initial used m a (fix_of here c.is_free-free.result m a)
    (reported_as (reported_judged (Accepted m a None []) before ∙ sym (reported_judged (Accepted m a (fix_of here c.is_free-free.result m a) []) before))
    (record { parts_are = fixed; restrictions_are = inside.restrictions_are; gradients_are = inside.gradients_are; speeds_are = inside.speeds_are })))
