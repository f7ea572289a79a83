use Rattle.std.proofs.Common.{ap, ◌∙◌}
use Rattle.linking.specs.Linking.{numbered}
use Rattle.linking.proofs.Leaving.{one_list}
use Rattle.linking.proofs.Numbering.{rising_numbered}
use Rattle.linking.proofs.links.Links.replace.Goals as goal

pub invariant_of-self : goal.invariant_of-self
invariant_of-self c = rw c.numbered-self-inside.ensures (rising_numbered c.as_slice.result.now)

pub returns : goal.returns
returns c entries is = one_list _ _ _ _ entries (c.self.view_is ∙ is) (c.numbered-self-inside.ensures ∙ ap numbered c.as_slice.ensures.value)
