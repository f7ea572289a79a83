use Rattle.std.proofs.Common.{refl, sym, ◌∙◌, ap, is_some}
use Rattle.unit_calls.specs.Statuses.{is_done}
use Rattle.unit_calls.proofs.Either.{both, not_first, not_second}
use Rattle.unit_calls.proofs.sectors.provide_and_go_on.Goals as goal
use Rattle.unit_calls.proofs.sectors.provide_and_go_on.Goals.{else-is_wanted-via-then-is_wanted+else-is_done, else-is_wanted-via-else-is_wanted}

pub returns-then-is_done : goal.returns-then-is_done
returns-then-is_done c = (
  c.provide-provided.new.opened,
  c.provide-provided.result,
  c.provide-provided.ensures,
  both (is_some c.args.opened.now.unit.moored.disk.wanted) (is_done c.provide-provided.result) _ _ (sym (c.is_some-is_wanted.ensures ∙ ap is_some c.wanted.ensures) ∙ c.if-is_wanted.true)
      (sym c.is_done.ensures ∙ c.if-is_done.true) c.prepare.ensures,
)

pub returns-else-is_wanted : goal.returns-else-is_wanted
returns-else-is_wanted c = (
  c.provide-provided.new.opened,
  c.provide-provided.result,
  c.provide-provided.ensures,
  elim c.else-is_wanted.branch [
    | else-is_wanted-via-then-is_wanted+else-is_done w ↦ not_second (is_some c.args.opened.now.unit.moored.disk.wanted) (is_done c.provide-provided.result) _ _
        (sym w.is_done.ensures ∙ w.if-is_done.false) (refl, refl)
    | else-is_wanted-via-else-is_wanted w ↦ not_first (is_some c.args.opened.now.unit.moored.disk.wanted) (is_done c.provide-provided.result) _ _
        (sym (c.is_some-is_wanted.ensures ∙ ap is_some c.wanted.ensures) ∙ w.if-is_wanted.false) (refl, refl)
  ],
)
