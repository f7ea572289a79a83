use Rattle.std.proofs.Common.{ap, sym, ◌∙◌}
use Rattle.linking.specs.declared.judgement.GroupRead.{GroupRead}
use Rattle.linking.specs.declared.judgement.Judgement.{Judgement}
use Rattle.linking.specs.declared.judgement.Verdict.{Verdict}
use Rattle.linking.specs.Judging.{judgement, after_verdict}
use Rattle.linking.specs.Linking.{known as known_links}
use Rattle.national.specs.InForce as national
use Rattle.track_picture.specs.Entry.{added, asking, asking_for}
use Rattle.track_picture.specs.Sentences.{group_read, outcome_at_first}
use Rattle.track_picture.specs.StandsFor.{KnownTrack, grown_so_far}
use Rattle.track_picture.specs.Columns.{known_by, after_country, after_judging}
use Rattle.track_picture.proofs.Judging.{not_entered, is_judged}
use Rattle.track_picture.proofs.parts.Parts.judge.Goals as goal

pub returns-in-Accept-clause-stands : goal.returns-in-Accept-clause-stands
returns-in-Accept-clause-stands c life initial used reported s =
    let m = c.args.message.now in
    let parts = c.self.view_is ∙ s in
    let judged = c.judge-judgement.result in
    let found = c.judge-judgement.ensures.answer
    ∙ ap (λ (r : GroupRead). judgement c.self.inside.links r) c.group_read-group.ensures
    ∙ ap (λ (k : KnownTrack). judgement k.links (group_read c.args.self.now.place m)) c.self.view_is in
    let left = c.judge-judgement.ensures.stands reported.links (ap (λ (k : KnownTrack). k.links) parts)
    ∙ ap (λ (x : Judgement). known_links (after_verdict x.verdict reported.links)) (sym c.judge-judgement.ensures.answer) in
    let values = c.enter.ensures.stands life.kept reported.values (ap (λ (k : KnownTrack). k.national) parts)
    ∙ ap (λ (v : Verdict). national.known life.kept (after_country v m reported.values)) (sym c.in-Accept.is) in
    let happened = c.asking-self-inside.ensures ∙ ap (λ (k : KnownTrack). asking k.happened judged.effect) parts in
    (λ i. record (parts i) { links = left i; national = values i; happened = happened i })
    ∙ is_judged life initial used reported judged.effect m judged.verdict
    ∙ ap (λ (x : Judgement). known_by (grown_so_far life initial (added (outcome_at_first m x.verdict) (asking_for x.effect used))) (after_judging x.verdict m reported)) found

pub returns-in_default : goal.returns-in_default
returns-in_default c =
    let m = c.args.message.now in
    let judged = c.judge-judgement.result in
    let found = c.judge-judgement.ensures.answer
    ∙ ap (λ (r : GroupRead). judgement c.self.inside.links r) c.group_read-group.ensures
    ∙ ap (λ (k : KnownTrack). judgement k.links (group_read c.args.self.now.place m)) c.self.view_is in
    record {
      answer = ap (λ (x : Judgement). x.verdict) found;
      stands = λ life initial used reported s. (
          let parts = c.self.view_is ∙ s in
          let left = c.judge-judgement.ensures.stands reported.links (ap (λ (k : KnownTrack). k.links) parts)
          ∙ ap (λ (x : Judgement). known_links (after_verdict x.verdict reported.links)) (sym c.judge-judgement.ensures.answer) in
          let values = ap (λ (k : KnownTrack). k.national) parts
          ∙ ap (national.known life.kept) (sym (not_entered judged.verdict m reported.values c.in_default.not-Accept)) in
          let happened = c.asking-self-inside.ensures ∙ ap (λ (k : KnownTrack). asking k.happened judged.effect) parts in
          (λ i. record (parts i) { links = left i; national = values i; happened = happened i })
          ∙ is_judged life initial used reported judged.effect m judged.verdict
          ∙ ap (λ (x : Judgement). known_by (grown_so_far life initial (added (outcome_at_first m x.verdict) (asking_for x.effect used))) (after_judging x.verdict m reported)) found);
    }
