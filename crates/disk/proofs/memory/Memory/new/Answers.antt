use Rattle.std.proofs.Common.{rules, ◌≡◌, ◌*◌, length, replicate, ◌∙◌, ap}
use Rattle.std.proofs.lemmas.List.{length-replicate}
use Rattle.disk.proofs.Sectors.{sector_past, zeros_at}
use Rattle.disk.proofs.Settling.{fresh_contents}
use Rattle.disk.proofs.memory.Memory.new.Goals as goal

pub returns-clause-zeros : goal.returns-clause-zeros
returns-clause-zeros c =
    let zeros : c.in_ok-vec.field-0.items ≡ replicate (512 * c.args.sectors) 0 = search rules in
    record {
      zeros = λ s below. fresh_contents _ _ _ s c.in_ok-with_capacity.ensures.items ∙ zeros_at c.in_ok-vec.field-0.items c.args.sectors s zeros below;
      others = λ s past. fresh_contents _ _ _ s c.in_ok-with_capacity.ensures.items ∙ sector_past c.in_ok-vec.field-0.items c.args.sectors s (ap length zeros ∙ length-replicate (512 * c.args.sectors) 0) past;
    }
