use Rattle.std.proofs.Common.{rules, ◌≡◌, ◌∙◌, List, Some, sym, subst, inl, inr}
use Rattle.blocks.specs.declared.records.BlockRecord.{BlockRecord}
use Rattle.image_calls.specs.Links.{first_cold}
use Rattle.image_calls.proofs.whys.hangs_on.Goals as goal

pub returns-then-not-held_in : goal.returns-then-not-held_in
returns-then-not-held_in c = λ _. inl (c.held_in.ensures.lost c.if-not-held_in.true)

pub returns-in-Some : goal.returns-in-Some
returns-in-Some c = λ _.
    let all : c.as_slice.result.now ≡ c.held_in.new.block.records.items = search rules in
    inr (
      c.held_in.new.block,
      c.in-Some.field-0,
      c.held_in.ensures.held c.if-not-held_in.false,
      subst (λ (items : List BlockRecord). first_cold items ≡ Some c.in-Some.field-0) all (sym c.first_cold.ensures ∙ c.in-Some.is),
    )
