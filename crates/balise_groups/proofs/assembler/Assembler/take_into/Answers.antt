use Rattle.std.proofs.Common.{◌≡◌, true, false, sym, ap, ◌∙◌, arith}
use Rattle.balise_groups.specs.Groups.{KnownGroups, groups_of, newest, goes_on, ended}
use Rattle.balise_groups.specs.PacketCounts.{packets_in, packets_of_closed}
use Rattle.balise_groups.proofs.PacketCounts.{closing_space, joined_space}
use Rattle.balise_groups.proofs.Standing.{not_ignored}
use Rattle.balise_groups.proofs.assembler.Assembler.take_into.Goals as goal
use Rattle.balise_groups.proofs.assembler.Assembler.take_into.Goals.{then-goes_on-2, else-goes_on-2}

pub returns-clause-stands : goal.returns-clause-stands
returns-clause-stands c entries is =
    let groups = groups_of entries in
    let inside = c.self.view_is ∙ is in
    let other : goes_on c.args.reading (newest groups.last) ≡ false =
    ap (λ (k : KnownGroups). goes_on c.args.reading k.last) (sym inside) ∙ sym c.goes_on.ensures ∙ c.if-goes_on.false in
    elim c.if-goes_on-2.branch [
      | then-goes_on-2 w ↦
          let current : goes_on c.args.reading (newest groups.current) ≡ true =
          ap (λ (k : KnownGroups). goes_on c.args.reading k.current) (sym inside) ∙ sym c.goes_on-2.ensures ∙ w.if-goes_on-2.true in
          not_ignored c.args.reading groups _ true other current (c.join.ensures.stands groups (w.self-is ∙ is))
      | else-goes_on-2 w ↦
          let current : goes_on c.args.reading (newest groups.current) ≡ false =
          ap (λ (k : KnownGroups). goes_on c.args.reading k.current) (sym inside) ∙ sym c.goes_on-2.ensures ∙ w.if-goes_on-2.false in
          not_ignored c.args.reading groups _ false other current (c.join.ensures.stands (ended groups) (w.self-is ∙ w.end.ensures.stands groups is))
    ]

pub returns-clause-few : goal.returns-clause-few
returns-clause-few c =
    let whole = joined_space _ c.if-goes_on-2.self.readings c.args.reading c.join.ensures.answer in
    elim c.if-goes_on-2.branch [
      | then-goes_on-2 w ↦ omega (arith, whole, ap packets_of_closed w.empty-then-goes_on-2.ensures, ap packets_of_closed w.ended-is, ap (λ (k : KnownGroups). packets_in k.readings) w.self-is)
      | else-goes_on-2 w ↦
          let ended = closing_space _ _ w.end.ensures.answer in
          omega (arith, whole, ended, ap packets_of_closed w.ended-is, ap (λ (k : KnownGroups). packets_in k.readings) w.self-is, ap packets_in w.end.ensures.none)
    ]
