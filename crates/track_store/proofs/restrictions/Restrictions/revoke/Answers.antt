use Rattle.std.proofs.Common.{ap, ◌∙◌}
use Rattle.track_store.specs.Restrictions.{Held}
use Rattle.track_store.proofs.Standing.{one_revocation}
use Rattle.track_store.proofs.restrictions.Restrictions.revoke.Goals as goal

pub returns-clause-track : goal.returns-clause-track
returns-clause-track c entries is =
    one_revocation _ _ _ c.args.number entries (ap (λ (h : Held). h.track) c.self.view_is ∙ is) c.drop_number.ensures.kept
