use Rattle.std.proofs.Common.{◌≡◌, ◌∷◌, ap, sym, subst, ◌∙◌}
use Rattle.linking.specs.declared.judgement.Judgement.{Judgement}
use Rattle.linking.specs.declared.judgement.Verdict.{Verdict}
use Rattle.linking.specs.Judging.{judgement}
use Rattle.track_picture.specs.Entry.{blank, added, asking_for}
use Rattle.track_picture.specs.Sentences.{group_read, judged, outcome_at_first, outcome}
use Rattle.track_picture.specs.StandsFor.{KnownTrack, grown, grown_so_far}
use Rattle.track_picture.specs.Columns.{StandsForColumns, reported_in, known_by, after_judging}
use Rattle.track_picture.proofs.SameParts.{same_parts}
use Rattle.track_picture.proofs.Standing.{seen_columns as seen, reported_as}
use Rattle.track_picture.proofs.Description.{up_to_groups, reported_first}
use Rattle.track_picture.proofs.state.TracksideOver.close_whole.Goals as goal

pub returns-clause-stands : goal.returns-clause-stands
returns-clause-stands g c life initial used s =
    let m = c.args.message.now in
    let inside = seen c.self.view_is s in
    let found = judgement c.self.inside.parts.links (group_read c.self.inside.parts.place m) in
    let j = judged (record blank { initial = initial; used = used } ∷ life.entries) m in
    let same : found ≡ j = ap (λ (k : KnownTrack). judgement k.links (group_read k.place m)) (inside.parts_are ∙ sym (same_parts (grown_so_far life initial used))) in
    let asking = asking_for j.effect used in
    let verdict = c.judge-verdict.ensures.answer ∙ ap (λ (x : Judgement). x.verdict) same in
    let before = up_to_groups (record blank { initial = initial; used = used }) life.entries in
    let parts = subst (λ (x : Judgement). c.judge-verdict.new.self ≡ known_by (grown_so_far life initial (added (outcome_at_first m x.verdict) (asking_for x.effect used))) (after_judging x.verdict m (reported_in before)))
    same (c.judge-verdict.ensures.stands life initial used (reported_in before) inside.parts_are) in
    let now = reported_as (sym (reported_first j.verdict m before)) (record {
      parts_are = parts;
      restrictions_are = inside.restrictions_are;
      gradients_are = inside.gradients_are;
      speeds_are = inside.speeds_are;
    }) in
    subst (λ (v : Verdict). StandsForColumns g.T.ProfileStores.stores (record { parts = c.judge-verdict.new.self; restrictions = c.self.inside.restrictions; gradients = c.self.inside.gradients; speeds = c.self.inside.speeds }) (grown life (record blank { initial = initial; used = added (outcome_at_first m v) asking }))
    → StandsForColumns g.T.ProfileStores.stores c.follow.new.self (grown_so_far life initial (added (outcome c.args.mode (record blank { initial = initial; used = added (outcome_at_first m v) asking } ∷ life.entries) m v) asking)))
    verdict (c.follow.ensures.stands life initial asking) now
