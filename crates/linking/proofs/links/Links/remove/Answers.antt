use Rattle.std.proofs.Common.{◌∙◌}
use Rattle.linking.proofs.Leaving.{IsRising-filter, one_reaction}
use Rattle.linking.proofs.links.Links.remove.Goals as goal

pub invariant_of-self : goal.invariant_of-self
invariant_of-self c = rw c.drop_number.ensures (IsRising-filter _ _ c.self.invariant)

pub returns : goal.returns
returns c entries is = one_reaction _ _ _ c.args.number entries (c.self.view_is ∙ is) c.drop_number.ensures
