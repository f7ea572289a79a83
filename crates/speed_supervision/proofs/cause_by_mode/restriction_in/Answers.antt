use Rattle.std.proofs.Common.{◌≡◌, ℕ, ap, subst, ◌∙◌}
use Rattle.std.specs.Prelude.{MatchOption, IfNone}
use Rattle.units.specs.Stretches.{Span}
use Rattle.track_store.specs.declared.restriction.Restriction.{Restriction}
use Rattle.track_store.specs.Restrictions.{InForce, Held, least_speed}
use Rattle.track_picture.specs.History.{restrictions_of}
use Rattle.mode_control.specs.History.{tracks}
use Rattle.mode_control.specs.Sentences.{span_of}
use Rattle.speed_supervision.specs.Over.{IsRestrictionOver}
use Rattle.speed_supervision.proofs.cause_by_mode.restriction_in.Goals as goal

pub returns-clause-over : goal.returns-clause-over
returns-clause-over g c life s =
    let limit = c.args.limit in
    let stretch : c.stretch-stretch.result ≡ span_of life = c.stretch-stretch.ensures life s in
    let held : c.restrictions.result.now.track ≡ restrictions_of (tracks life.entries) =
    ap (λ (h : Held). h.track) (c.restrictions.ensures ∙ ap (λ (k : _). k.restrictions) c.track.ensures) ∙ s.track_is.restrictions_are in
    let P : InForce → Span → Type 0 = λ track train.
    MatchOption c.restriction_over.result ((speed : ℕ) → least_speed track train speed ≡ limit → speed ≡ limit)
    (IsRestrictionOver track train limit) in
    subst (λ (track : InForce). P track (span_of life)) held
    (subst (λ (train : Span). P c.restrictions.result.now.track train) stretch c.restriction_over.ensures.over)

pub returns-clause-none : goal.returns-clause-none
returns-clause-none g c life s =
    let limit = c.args.limit in
    let stretch : c.stretch-stretch.result ≡ span_of life = c.stretch-stretch.ensures life s in
    let held : c.restrictions.result.now.track ≡ restrictions_of (tracks life.entries) =
    ap (λ (h : Held). h.track) (c.restrictions.ensures ∙ ap (λ (k : _). k.restrictions) c.track.ensures) ∙ s.track_is.restrictions_are in
    let P : InForce → Span → Type 0 = λ track train.
    IfNone c.restriction_over.result ((restriction : Restriction) → IsRestrictionOver track train limit restriction → ⊥) in
    subst (λ (track : InForce). P track (span_of life)) held
    (subst (λ (train : Span). P c.restrictions.result.now.track train) stretch c.restriction_over.ensures.none)
