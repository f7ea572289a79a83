use Rattle.std.proofs.Common.{◌≡◌, true, sym, ap, ◌∙◌}
use Rattle.balise_groups.specs.Closing.{is_whole}
use Rattle.balise_groups.specs.Groups.{KnownGroups, counting}
use Rattle.balise_groups.proofs.Standing.{with_one, one_more, whole_now}
use Rattle.balise_groups.proofs.assembler.Assembler.join.Goals as goal

pub returns-then-are_whole-clause-stands : goal.returns-then-are_whole-clause-stands
returns-then-are_whole-clause-stands c groups is =
    let more = one_more c.args.reading groups _ _ _ (c.self.view_is ∙ is) c.add.ensures c.seen_at.ensures in
    let whole : is_whole (counting (with_one c.args.reading groups).current) ≡ true =
    ap (λ (k : KnownGroups). is_whole k.readings) (sym more) ∙ sym c.are_whole.ensures ∙ c.if-are_whole.true in
    whole_now c.args.reading groups _ whole (c.end.ensures.stands (with_one c.args.reading groups) more)
