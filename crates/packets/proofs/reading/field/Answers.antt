use Rattle.std.proofs.Common.{ap, sym, ◌∙◌}
use Rattle.std.proofs.lemmas.Result.{err_from_is_err_and}
use Rattle.bits.specs.Layout.{alongside, map_fault}
use Rattle.packets.specs.Faults.{packet_fault}
use Rattle.packets.proofs.FieldRead.{was_some, read_taken}
use Rattle.packets.proofs.reading.field.Goals as goal

pub returns : goal.returns
returns g c =
    let some = was_some _ _ _ (sym c.ok_or.ensures.value ∙ c.in_ok-number.was) in
    read_taken _ _ g.V.Variable.codes c.WIDTH.result c.args.reader.now c.take.new.self c.take.result _ some (g.met.V.Variable.width_is ∙ sym c.WIDTH.ensures) c.take.ensures.found c.take.ensures.value c.take.ensures.rest
    ∙ ap (λ r. map_fault packet_fault (alongside r c.take.new.self)) (sym c.of_number.ensures ∙ c.in_ok-value.was)

pub returns-in_err-value : goal.returns-in_err-value
returns-in_err-value g c =
    let some = was_some _ _ _ (sym c.ok_or.ensures.value ∙ c.in_ok-number.was) in
    let p = err_from_is_err_and c.from_residual-in_err-value.result c.from_residual-in_err-value.ensures.1 in
    rw (p.1, p.2) (
    read_taken _ _ g.V.Variable.codes c.WIDTH.result c.args.reader.now c.take.new.self c.take.result _ some (g.met.V.Variable.width_is ∙ sym c.WIDTH.ensures) c.take.ensures.found c.take.ensures.value c.take.ensures.rest
    ∙ ap (λ r. map_fault packet_fault (alongside r c.take.new.self)) (sym c.of_number.ensures ∙ c.in_err-value.was)
    )
