use Rattle.std.proofs.Common.{◌++◌, [], ◌∷◌, true, false, append-nil, sym, ap, ◌∙◌}
use Rattle.track_store.specs.Restrictions.{Held}
use Rattle.track_store.proofs.Standing.{one_restriction}
use Rattle.track_store.proofs.restrictions.Restrictions.add_reserved.Goals as goal

pub returns-then-reaches_past-clause-track : goal.returns-then-reaches_past-clause-track
returns-then-reaches_past-clause-track c entries is =
    one_restriction _ _ _ c.args.restriction entries true (ap (λ (h : Held). h.track) c.self.view_is ∙ is) (sym c.reaches_past.ensures ∙ c.if-reaches_past.true)
    (c.push_reserved.ensures.items ∙ ap (λ rs. rs ++ c.args.restriction ∷ []) c.drop_number.ensures.kept)

pub returns-else-reaches_past-clause-track : goal.returns-else-reaches_past-clause-track
returns-else-reaches_past-clause-track c entries is =
    one_restriction _ _ _ c.args.restriction entries false (ap (λ (h : Held). h.track) c.self.view_is ∙ is) (sym c.reaches_past.ensures ∙ c.if-reaches_past.false)
    (c.drop_number.ensures.kept ∙ sym (append-nil _))
